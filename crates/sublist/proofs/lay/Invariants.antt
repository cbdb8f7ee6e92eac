-- `sublist::lay` meets its contract. The loop's invariant: what is left of the pass makes of the area what the whole makes of it at entry.
use Rattle.std.proofs.Common.{◌≡◌, ◌-◌}
use Rattle.sublist_rules.specs.Passes.{laid}
use Rattle.sublist.proofs.lay.Given as goal

abbrev pub invariant-loop-i : goal.invariant-loop-i
invariant-loop-i l = laid l.node_words l.i (l.count - l.i) l.from ≡ laid l.initial.node_words 0 l.count 0
