-- The loop's invariant: the first offending character of the token is the first of what is left.
use Rattle.std.proofs.Common.{◌≡◌, drop}
use Rattle.subject_rules.specs.Grammar.{bad_chars}
use Rattle.subject.proofs.check_chars.Given as goal

abbrev pub invariant-loop-b : goal.invariant-loop-b
invariant-loop-b l = bad_chars l.index (drop l.b-index l.token) ≡ bad_chars l.index l.token
