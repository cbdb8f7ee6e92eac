-- `sublist::nodes_needed` meets its contract. The loop's invariant: `needed` is what the entries passed need, at most 32 nodes for each and the root.
use Rattle.std.proofs.Common.{◌≡◌, ◌+◌, ◌*◌, ◌≤◌, take}
use Rattle.sublist_rules.specs.Building.{needed}
use Rattle.sublist.proofs.nodes_needed.Given as goal

abbrev pub invariant-loop-i : goal.invariant-loop-i
invariant-loop-i g l = (l.needed ≡ needed l.list.store (take l.i l.list.entries)) × (l.needed ≤ 32 * l.i + 1)
