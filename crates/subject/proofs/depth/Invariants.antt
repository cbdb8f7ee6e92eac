-- The loop's invariant: one more than the dots that were passed.
use Rattle.std.proofs.Common.{◌≡◌, ◌==◌, ◌+◌, take, count_by}
use Rattle.subject.proofs.depth.Given as goal

abbrev pub invariant-loop-b : goal.invariant-loop-b
invariant-loop-b l = l.n ≡ 1 + count_by (λ b. b == 0x2e) (take l.b-index l.text)
