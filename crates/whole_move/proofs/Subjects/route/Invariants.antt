-- The loop's invariant: behind the targets gathered, one a subject, the subjects that are left come to what all come to, and none of them is refused.
use Rattle.std.proofs.Common.{◌≡◌, length, map, drop}
use Rattle.std.proofs.Math.Option.{none}
use Rattle.sublist_snapshot.specs.Snapshot.{walk_of}
use Rattle.whole_move_rules.specs.Move.{text_at, bad_subjects, routes}
use Rattle.whole_move.specs.Told.{span_of}
use Rattle.whole_move.proofs.Routing.{behind}
use Rattle.whole_move.proofs.Subjects.route.Given as goal

abbrev pub invariant-loop-place : goal.invariant-loop-place
invariant-loop-place l =
    let walk = walk_of l.standing.snapshot l.standing.area.now in
    let texts = map (text_at l.self.bytes.now) in
    (behind l.targets.items (routes walk l.place (texts (map span_of (drop l.place l.self.spans.now)))) ≡ routes walk 0 (texts (map span_of l.self.spans.now)))
    × (length l.targets.items ≡ l.place)
    × (bad_subjects l.self.bytes.now l.place (map span_of (drop l.place l.self.spans.now)) ≡ none)
