-- The loop's invariant: the first `i` words are copied.
use Rattle.std.proofs.Common.{◌≡◌, ◌++◌, take, drop}
use Rattle.sublist_walk.proofs.copy_part.Given as goal

abbrev pub invariant-loop-i : goal.invariant-loop-i
invariant-loop-i l = l.out ≡ take l.i (take l.n l.words) ++ drop l.i l.initial.out
