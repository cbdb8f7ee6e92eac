-- The loop's invariant: the nodes so far give the list so far.
use Rattle.std.proofs.Common.{[], take}
use Rattle.sublist_walk_rules.specs.Walk.{level}
use Rattle.sublist_walk.specs.Told.{Added, exact_in}
use Rattle.sublist_walk.proofs.collect_exact.Given as goal

abbrev pub invariant-loop-node : goal.invariant-loop-node
invariant-loop-node g l = Added (exact_in l.table (level [] []) (take l.node-index l.front)) [] l.count l.node-index l.initial.out l.out
