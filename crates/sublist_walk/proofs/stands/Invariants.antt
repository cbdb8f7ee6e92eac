-- The loop's invariant: whether the node stands among those read.
use Rattle.std.proofs.Common.{◌≡◌, take}
use Rattle.sublist_walk_rules.specs.Walk.{among}
use Rattle.sublist_walk.proofs.stands.Given as goal

abbrev pub invariant-loop-node : goal.invariant-loop-node
invariant-loop-node l = l.seen ≡ among l.id (take l.node-index l.front)
