-- The loop's invariant: the nodes so far give the frontier and the list so far.
use Rattle.std.proofs.Common.{[], take}
use Rattle.sublist_walk_rules.specs.Walk.{level}
use Rattle.sublist_walk.specs.Told.{Added, visits_in}
use Rattle.sublist_walk.proofs.visit_front.Given as goal

abbrev pub invariant-loop-node : goal.invariant-loop-node
invariant-loop-node g l =
    Added (visits_in g.row.LIMIT l.table l.hash (level [] []) (take l.node-index l.from)) l.to l.count l.node-index l.initial.out l.out
