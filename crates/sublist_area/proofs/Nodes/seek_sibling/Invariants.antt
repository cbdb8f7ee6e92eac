-- `Nodes::seek_sibling` meets its contract. The loop's invariant: the search from here, with the steps left, gives what the search from the start gives. Assumes nothing.
use Rattle.std.proofs.Common.{◌≡◌, ◌*◌, ◌-◌, ◌<◌}
use Rattle.sublist_area_rules.specs.Words.{by_hash, seek}
use Rattle.sublist_area.proofs.Nodes.seek_sibling.Given as goal

abbrev pub invariant-loop-step : goal.invariant-loop-step
invariant-loop-step l =
    (seek (by_hash l.self.words.now l.hash) l.self.words.now l.self.count l.hash l.self.count l.start
    ≡ seek (by_hash l.self.words.now l.hash) l.self.words.now l.self.count l.rest (l.self.count - l._step) l.link)
    × (l.link < l.self.count * 16)
