-- `sublist::insert_entries` meets its contract. The loop's invariant: the entries that are left make of what is reached what all make of the area at entry; the nodes and the ends so far fit the area.
use Rattle.std.proofs.Common.{◌≡◌, ◌*◌, ◌/◌, ◌<◌, ◌≤◌, [], map, length, drop}
use Rattle.sublist_entries.specs.Entries.{lines_of}
use Rattle.sublist_rules.specs.Passes.{growth, lines_in}
use Rattle.sublist.specs.Told.{end_of, EndBelow}
use Rattle.sublist.proofs.insert_entries.Given as goal

abbrev pub invariant-loop-i : goal.invariant-loop-i
invariant-loop-i g l = record {
  lines : lines_in (growth l.nodes l.node_words (map end_of l.ends.items)) (lines_of l.list.store (drop l.i l.list.entries)) ≡ lines_in (growth 1 l.initial.node_words []) (lines_of l.list.store l.list.entries);
  below : EndBelow (length l.initial.node_words / 16) l.ends.items;
  each : length l.ends.items ≡ l.i;
  some : 0 < l.nodes;
  room : l.nodes * 16 ≤ length l.initial.node_words;
}
