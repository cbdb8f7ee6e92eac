-- The loop's invariant: with the tokens that are left, the frontier, the list and the peak so far lead to what the whole walk ends with.
use Rattle.std.proofs.Common.{map, length}
use Rattle.subject.specs.Reading.{tokens_from}
use Rattle.subject_rules.specs.Fnv.{fnv}
use Rattle.sublist_walk.specs.Told.{walk_in}
use Rattle.sublist_walk.proofs.Walks.{Under}
use Rattle.sublist_walk.proofs.walk.Given as goal

abbrev pub invariant-loop-token : goal.invariant-loop-token
invariant-loop-token g l =
    Under (walk_in g.row.LIMIT l.table l.subject) g.row.LIMIT l.table.node_words.now l.table.nodes (length l.table.targets.now) l.table.targets.now l.from l.peak l.count
    (map fnv (tokens_from l.token-iterator.text.now l.token-iterator.at)) l.initial.out l.out
