-- The loop's invariant: what is left of the two is the same where they are from the place on.
use Rattle.std.proofs.Common.{◌≡◌, drop}
use Rattle.subject_rules.specs.Text.{same}
use Rattle.subject.proofs.same_from.Given as goal

abbrev pub invariant-loop-i : goal.invariant-loop-i
invariant-loop-i l = same (drop l.i l.a) (drop l.i l.b) ≡ same (drop l.from l.a) (drop l.from l.b)
