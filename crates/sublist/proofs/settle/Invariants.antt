-- `sublist::settle` meets its contract. The loop's invariant: what is left of the pass makes of the area what the whole makes of it at entry.
use Rattle.std.proofs.Common.{◌≡◌, ◌-◌}
use Rattle.sublist_rules.specs.Passes.{settled}
use Rattle.sublist.proofs.settle.Given as goal

abbrev pub invariant-loop-i : goal.invariant-loop-i
invariant-loop-i l = settled l.node_words (l.i - 1) ≡ settled l.initial.node_words (l.count - 1)
