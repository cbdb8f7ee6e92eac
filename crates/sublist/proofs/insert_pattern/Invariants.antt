-- `sublist::insert_pattern` meets its contract. The loop's invariant: the tokens that are left lead from the node reached, with the area and node count reached, to where the whole pattern leads; the node is one of those counted, and they fit the area.
use Rattle.std.proofs.Common.{◌≡◌, ◌*◌, ◌<◌, ◌≤◌, length, Ok}
use Rattle.subject_rules.specs.Text.{tokens}
use Rattle.subject.specs.Reading.{tokens_from}
use Rattle.subject_rules.specs.Fnv.{fnv}
use Rattle.sublist_tree.specs.Tree.{line_of}
use Rattle.sublist_area_rules.specs.Growing.{placed_at}
use Rattle.sublist_rules.specs.Core.{run_in}
use Rattle.sublist.proofs.insert_pattern.Given as goal

abbrev pub invariant-loop-token : goal.invariant-loop-token
invariant-loop-token l = record {
  run : run_in (Ok l.at, l.node_words) (line_of fnv (tokens_from l.token-iterator.text.now l.token-iterator.at) 0) ≡ run_in (placed_at 0 l.nodes, l.initial.node_words) (line_of fnv (tokens l.text) 0);
  counted : l.at.node < l.at.count;
  room : l.at.count * 16 ≤ length l.initial.node_words;
}
