-- Slots looked at by a byte or two of each: those with a mark, and the bad ones.
use Rattle.std.proofs.Common.{◌≡◌, ℕ, zero, suc, ◌+◌, ◌-◌, ◌*◌, ◌/◌, ◌%◌, ◌<◌, ◌≤◌, Bool, true, false, ◌&&◌, ◌||◌, nat_eq, nat_lt, ltb, List, [], ◌∷◌, length, get_or, take, drop, slice_range, fold, sym, refl, ap, ◌∙◌, true≢false, add-zero, arith, ltb-false, ltb-true, le-ltb, lt-ltb, eq-eqb, ne_eqb, min}
use Rattle.std.specs.List.{list_any, zip}
use Rattle.std.proofs.lemmas.List.{drop_more}
use Rattle.std.proofs.lemmas.List.Edits.{length-between, get_or-between}
use Rattle.std.proofs.lemmas.List.Folds.{list_any_at}
use Rattle.std.proofs.lemmas.Slice.Zip.{length-zip, get_or-zip}
use Rattle.subject_rules.specs.Choice.{or}
use Rattle.subject_rules.proofs.Booleans.{or_same}
use Rattle.resolve_cache_rules.specs.Mark.{mark}
use Rattle.resolve_cache_rules.specs.Area.{mark_at}
use Rattle.resolve_cache_rules.specs.Cache.{bad_slot, bad_from}
use Rattle.resolve_cache.specs.Deciding.{Absent}

-- a fold that looks at all elements says what `any` does
pub fold-any : {X : Type 0} (p : X → Bool) (b : Bool) (xs : List X) → fold (λ a x. a || p x) b xs ≡ (b || list_any p xs)
fold-any p true [] = refl
fold-any p false [] = refl
fold-any p true (x ∷ xs) = fold-any p true xs
fold-any p false (x ∷ xs) = fold-any p (p x) xs

-- 32 bytes from a place on
module _ (keys : List ℕ) (from : ℕ) (room : from + 32 ≤ length keys) where
  abbrev run : List ℕ
  run = slice_range keys from (from + 32)

  run-length : length run ≡ 32
  run-length = simp length-between (omega arith)

  run-at : (k : ℕ) → k < 32 → get_or run k 0 ≡ get_or keys (from + k) 0
  run-at k h = get_or-between keys from (from + 32) k 0 (omega arith)

-- 32 slots from i on, by their bytes in the two lists of marks: where no pair is a mark's, none of the slots has it
module _ (c i low high : ℕ) (keys : List ℕ) (byte : (j : ℕ) → get_or keys j 0 < 256) (small : low < 256)
    (lows : 2 * c + i + 32 ≤ length keys) (highs : 3 * c + i + 32 ≤ length keys) where
  abbrev paired : ℕ × ℕ → Bool
  paired p = nat_eq p.0 low && nat_eq p.1 high

  abbrev pub pairs : List (ℕ × ℕ)
  pairs = zip (run keys (2 * c + i) lows) (run keys (3 * c + i) highs)

  pub unmarked : fold (λ (any : Bool) (p : ℕ × ℕ). any || (nat_eq p.0 low && nat_eq p.1 high)) false pairs ≡ false
      → (k : ℕ) → k < 32 → mark_at c keys (i + k) ≡ low + 256 * high → ⊥
  unmarked none k h e =
      let at_low : 2 * c + i + k ≡ 2 * c + (i + k) = omega arith in
      let at_high : 3 * c + i + k ≡ 3 * c + (i + k) = omega arith in
      let first = run-at keys (2 * c + i) lows k h ∙ ap (λ j. get_or keys j 0) at_low in
      let second = run-at keys (3 * c + i) highs k h ∙ ap (λ j. get_or keys j 0) at_high in
      let is_low : get_or keys (2 * c + (i + k)) 0 ≡ low = omega (arith, byte (2 * c + (i + k))) in
      let is_high : get_or keys (3 * c + (i + k)) 0 ≡ high = omega (arith, byte (2 * c + (i + k))) in
      let in_low : k < length (run keys (2 * c + i) lows) = omega (arith, run-length keys (2 * c + i) lows) in
      let in_high : k < length (run keys (3 * c + i) highs) = omega (arith, run-length keys (3 * c + i) highs) in
      let found = list_any_at paired pairs k (0, 0) (omega (arith, length-zip (run keys (2 * c + i) lows) (run keys (3 * c + i) highs)))
      (rw (get_or-zip, first, second, eq-eqb _ low is_low, eq-eqb _ high is_high)) in
      true≢false (sym found ∙ sym (fold-any paired false pairs) ∙ none)

-- a length's upper bits are above a number of targets in b: one of the two is too large exactly if b is over 16
over_sixteen : (low b : ℕ) → low < 256 → or (ltb 256 (1 + low + 256 * (b / 32))) (ltb 16 (b % 32)) ≡ ltb 16 b
over_sixteen low b h = go (ltb 31 b) refl
  where
    go : (t : Bool) → ltb 31 b ≡ t → or (ltb 256 (1 + low + 256 * (b / 32))) (ltb 16 (b % 32)) ≡ ltb 16 b
    go true e =
        let l : 31 < b = ltb-true 31 b e in
        rw (lt-ltb 256 (1 + low + 256 * (b / 32)) (omega arith), lt-ltb 16 b (omega arith))
    go false e =
        let l : b ≤ 31 = ltb-false 31 b e in
        let z : b % 32 ≡ b = omega arith in
        rw (le-ltb 256 (1 + low + 256 * (b / 32)) (omega arith), z)

-- the bad slots from i on, by the bytes of the second list
bad-any : (c : ℕ) (keys : List ℕ) (i n : ℕ) → c + i + n ≤ length keys → ((j : ℕ) → get_or keys j 0 < 256)
    → list_any (nat_lt 16) (take n (drop (c + i) keys)) ≡ bad_from c keys i n
bad-any c keys i zero room byte = refl
bad-any c keys i (suc n) room byte =
    let next : c + i + 1 ≡ c + suc i = omega arith in
    rw (drop_more keys (c + i) 0 (omega arith), ← (over_sixteen (get_or keys i 0) (get_or keys (c + i) 0) (byte i)), next)
    (or_same (bad_slot c keys i) (list_any (nat_lt 16) (take n (drop (c + suc i) keys)))
    ∙ ap (or (bad_slot c keys i)) (bad-any c keys (suc i) n (omega arith) byte))

pub bad_read : (c n : ℕ) (keys : List ℕ) → c + n ≤ length keys → ((j : ℕ) → get_or keys j 0 < 256)
    → fold (λ (bad : Bool) (b : ℕ). bad || nat_lt 16 b) false (slice_range keys c (c + n)) ≡ bad_from c keys 0 n
bad_read c n keys room byte =
    let part : c + n - c ≡ n = omega arith in
    fold-any (nat_lt 16) false (slice_range keys c (c + n))
    ∙ rw part (rw add-zero at (bad-any c keys 0 n (omega arith) byte))

-- where none of 32 slots has the mark, none of them keeps the subject
pub absent_in_run : (c from to sought : ℕ) (keys subject : List ℕ) → sought ≡ mark subject → ((k : ℕ) → k < 32 → mark_at c keys (from + k) ≡ sought → ⊥)
    → Absent c keys subject from (min to (from + 32))
absent_in_run c from to sought keys subject is none i after before =
    let at : from + (i - from) ≡ i = omega arith in
    rw (ne_eqb (mark_at c keys i) (mark subject) (λ e. none (i - from) (omega arith) (ap (mark_at c keys) at ∙ e ∙ sym is)))
