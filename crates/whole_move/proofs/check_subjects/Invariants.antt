-- The loop's invariant: the subjects that are left give the answer for all.
use Rattle.std.proofs.Common.{◌≡◌, map, drop}
use Rattle.whole_move_rules.specs.Move.{bad_subjects}
use Rattle.whole_move.specs.Told.{span_of}
use Rattle.whole_move.proofs.check_subjects.Given as goal

abbrev pub invariant-loop-place : goal.invariant-loop-place
invariant-loop-place l = bad_subjects l.bytes l.place (map span_of (drop l.place l.spans)) ≡ bad_subjects l.bytes 0 (map span_of l.spans)
