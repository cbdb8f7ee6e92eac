-- Subjects none of which is refused: the one at a place lies in the bytes and is accepted, and so are those behind it.
use Rattle.std.proofs.Common.{◌≡◌, ℕ, ◌+◌, ◌-◌, ◌<◌, List, [], length, map, get_or, take, drop, add-one, drop-cons}
use Rattle.std.proofs.Math.Option.{none}
use Rattle.std.proofs.Math.Nat.{add-sub_cancel_left}
use Rattle.subject_rules.proofs.Depths.{first_none}
use Rattle.whole_move_rules.specs.Move.{bad_subject, bad_subjects}
use Rattle.whole_move_rules.specs.Asked.{Sound}
use Rattle.whole_move_rules.proofs.Subjects.{passes_sound}
use Rattle.whole_move.specs.Told.{span_of, Accepted}

module _ (bytes : List ℕ) (spans : List (List ℕ)) (i : ℕ) (h : i < length spans) (e : bad_subjects bytes i (map span_of (drop i spans)) ≡ none) where
  abbrev here : List ℕ
  here = get_or spans i []

  both : (bad_subject bytes i (span_of here) ≡ none) × (bad_subjects bytes (i + 1) (map span_of (drop (i + 1) spans)) ≡ none)
  both = first_none _ _ (rw (add-one i) (rw (drop-cons spans i [] h, add-one i) at e))

  sound : Sound bytes (span_of here)
  sound = passes_sound bytes i (span_of here) both.0

  pub sound-accepted : Accepted (take (get_or here 0 0 + get_or here 1 0 - get_or here 0 0) (drop (get_or here 0 0) bytes))
  sound-accepted = rw (add-sub_cancel_left (get_or here 0 0) (get_or here 1 0)) (record { values = sound.values; says = sound.accepted })
