-- `sublist::put_targets` meets its contract. The loop's invariant: what is left of the pass makes of nodes and targets what the whole makes of them at entry.
use Rattle.std.proofs.Common.{◌≡◌, map, drop}
use Rattle.sublist_rules.specs.Passes.{filling, filled}
use Rattle.sublist_rules.specs.Core.{targets_of}
use Rattle.sublist.specs.Told.{end_of}
use Rattle.sublist.proofs.put_targets.Given as goal

abbrev pub invariant-loop-i : goal.invariant-loop-i
invariant-loop-i g l =
    filled (filling l.node_words l.target_words) (map end_of (drop l.i l.ends)) (targets_of (drop l.i l.list.entries))
    ≡ filled (filling l.initial.node_words l.initial.target_words) (map end_of l.ends) (targets_of l.list.entries)
