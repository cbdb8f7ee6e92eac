-- The loop's invariant: what is left of the two is the same where the two are.
use Rattle.std.proofs.Common.{◌≡◌, ◌-◌, ◌≤◌, length, drop}
use Rattle.subject_rules.specs.Text.{same}
use Rattle.subject.proofs.same_bytes.Given as goal

abbrev pub invariant-loop-i : goal.invariant-loop-i
invariant-loop-i l = (l.i ≤ length l.a) × (same (drop l.i l.a) (drop l.i l.b) ≡ same l.a l.b)

abbrev pub decreases-loop-i : goal.decreases-loop-i
decreases-loop-i l = length l.a - l.i
