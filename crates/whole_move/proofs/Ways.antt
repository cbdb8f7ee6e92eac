-- What each way through a move makes of `whole_move`.
use Rattle.std.proofs.Common.{◌≡◌, ℕ, suc, ◌/◌, ◌≤◌, ◌<◌, true, false, List, [], ◌∷◌, ◌++◌, length, map, drop, Result, Ok, Err, refl, sym, ◌∙◌, ap, arith, lt-ltb, le-ltb}
use Rattle.std.specs.Simd.{first_chunks}
use Rattle.std.proofs.lemmas.List.{length-map}
use Rattle.std.proofs.Math.Option.{none, some}
use Rattle.sublist_snapshot.specs.declared.Snapshot.{Snapshot}
use Rattle.sublist_snapshot.specs.Snapshot.{stands_in, walk_of}
use Rattle.binding.specs.declared.Resolution.{Resolution}
use Rattle.whole_move_rules.specs.Move.{spans_in, text_at, bad_subjects, routes, written, whole_move}
use Rattle.whole_move.specs.declared.WholeMove.{WholeMove}
use Rattle.whole_move.specs.declared.WholeMove.TheVariants.{Routed, Stopped}
use Rattle.whole_move.specs.declared.MoveError.{MoveError}
use Rattle.whole_move.specs.declared.MoveError.TheVariants.{SetTooLarge, Damaged, OutShort}
use Rattle.whole_move.specs.Answers.{move_refusal, moved}
use Rattle.whole_move.specs.Told.{span_of, Within, told}

-- the pairs that numbers make are the spans that they hold
listed : (ws : List ℕ) → map span_of (first_chunks 2 (length ws / 2) ws) ≡ spans_in ws
listed [] = refl
listed (a ∷ []) = refl
listed (a ∷ b ∷ ws) = let n : length (a ∷ b ∷ ws) / 2 ≡ suc (length ws / 2) = omega arith in rw (n, listed ws)

module _ (s : Snapshot) (area bytes ws : List ℕ) (spans : List (List ℕ)) (front : spans ≡ first_chunks 2 (length ws / 2) ws) (out : List ℕ) where
  held : map span_of spans ≡ spans_in ws
  held = ap (map span_of) front ∙ listed ws

  size : length (spans_in ws) ≡ length spans
  size = ap length (sym held) ∙ length-map spans span_of

  -- 22
  pub move_large : 64 < length spans → moved (Err SetTooLarge) out ≡ whole_move s area bytes (spans_in ws) out
  unfolding whole_move
  move_large h = rw (size, lt-ltb 64 (length spans) h)

  module _ (few : length spans ≤ 64) where
    -- 12, or 1 to 9
    pub move_refused : (why : MoveError) → some (move_refusal why) ≡ bad_subjects bytes 0 (map span_of spans) → moved (Err why) out ≡ whole_move s area bytes (spans_in ws) out
    unfolding whole_move
    move_refused why bad = rw (size, le-ltb 64 (length spans) few, ← held, ← bad)

    module _ (sound : none ≡ bad_subjects bytes 0 (map span_of spans)) where
      -- 19 on the counts
      pub move_damaged : stands_in s area ≡ false → moved (Err Damaged) out ≡ whole_move s area bytes (spans_in ws) out
      unfolding whole_move
      move_damaged f = rw (size, le-ltb 64 (length spans) few, ← held, ← sound, f)

      -- r is what the verdicts came to, with ts the targets gathered
      module _ (stands : stands_in s area ≡ true) (ts : List ℕ) (r : Result WholeMove MoveError)
          (e : told r ts ≡ routes (walk_of s area) 0 (map (text_at bytes) (map span_of spans))) where
        move_told : written (told r ts) out ≡ whole_move s area bytes (spans_in ws) out
        unfolding whole_move
        move_told = rw (size, le-ltb 64 (length spans) few, ← held, ← sound, stands, e)

        -- 19 of a walk
        pub move_failed : (why : MoveError) → r ≡ Err why → moved (Err why) out ≡ whole_move s area bytes (spans_in ws) out
        move_failed why k = rw k at move_told

      module _ (stands : stands_in s area ≡ true) (ts : List ℕ) (w : WholeMove)
          (e : told (Ok w) ts ≡ routes (walk_of s area) 0 (map (text_at bytes) (map span_of spans))) where
        pub move_stopped : (place : ℕ) (v : Resolution) → w ≡ Stopped place v → moved (Ok w) out ≡ whole_move s area bytes (spans_in ws) out
        move_stopped place v h = rw h (rw h at (move_told stands ts (Ok w) e))

        module _ (within : Within (Ok w) (length ts)) (count : ℕ) (h : w ≡ Routed count) where
          counted : count ≡ length ts
          counted = rw h at within

          -- 21
          pub move_short : length out < count → moved (Err (OutShort count)) out ≡ whole_move s area bytes (spans_in ws) out
          move_short l = rw (h, ← counted, lt-ltb (length out) count l) at (move_told stands ts (Ok w) e)

          pub move_routed : count ≤ length out → moved (Ok (Routed count)) (ts ++ drop count out) ≡ whole_move s area bytes (spans_in ws) out
          move_routed l = rw (h, ← counted, le-ltb (length out) count l) at (move_told stands ts (Ok w) e)

-- each way
pub ruleset ways = (move_large, move_refused, move_damaged, move_failed, move_stopped, move_short, move_routed)
