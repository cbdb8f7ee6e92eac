-- The loop's invariant: the first `i` items are copied.
use Rattle.std.proofs.Common.{◌≡◌, ◌++◌, take, drop}
use Rattle.subject.proofs.copy_over.Given as goal

abbrev pub invariant-loop-i : goal.invariant-loop-i
invariant-loop-i g l = l.out ≡ take l.i (take l.n l.items) ++ drop l.i l.initial.out
