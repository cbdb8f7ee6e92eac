-- The loop's invariant: the check of the tokens that are left, in the state reached, gives the answer for all.
use Rattle.std.proofs.Common.{◌≡◌, ◌≤◌}
use mathlib.Core.Option.{none}
use Rattle.subject_rules.specs.Text.{tokens}
use Rattle.subject_rules.specs.Grammar.{check}
use Rattle.subject.specs.Answers.{optional}
use Rattle.subject.specs.Reading.{tokens_from}
use Rattle.subject.proofs.check_tokens.Given as goal

abbrev pub invariant-loop-token : goal.invariant-loop-token
invariant-loop-token l =
    (check l.wild (optional l.passed) l.index (tokens_from l.token-iterator.text.now l.token-iterator.at) ≡ check l.wild none 0 (tokens l.text))
    × (l.index ≤ 32)
