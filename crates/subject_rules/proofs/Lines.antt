-- Laws of ranges, and of the lines of a table of ranges: `within`, `begins`, `length_in`.
use Prim.Native.Nat.{ℕ, zero, suc, ◌≤◌, ◌<◌}
use native.Mathlib.Omega.{arith}
use mathlib.Core.Path.{◌≡◌, refl, ap}
use mathlib.Core.Bool.{Bool, true, false}
use mathlib.Core.List.{List, [], ◌∷◌, ◌++◌}
use lib.Dec.{leb}
use lib.ListN.{length, get_or}
use borrow.Author.Tests.{le-leb, lt-leb, leb-true, leb-false}
use Rattle.subject_rules.specs.Choice.{pick, and, or}
use Rattle.subject_rules.specs.Utf8.{Range, range, within, begins, length_in}
use Rattle.subject_rules.proofs.Booleans.{and_false, and_left, and_right, and_both}

module _ (b low high : ℕ) where
  pub below : b < low → within (range low high) b ≡ false
  below h = rw (lt-leb low b h)

  pub inside : low ≤ b → b ≤ high → within (range low high) b ≡ true
  inside h k = rw (le-leb low b h, le-leb b high k)

  pub above : high < b → within (range low high) b ≡ false
  above h = rw (lt-leb b high h) (and_false (leb low b))

  pub within_true : within (range low high) b ≡ true → (low ≤ b) × (b ≤ high)
  within_true e =
      let r = and_both (leb low b) (leb b high) e in
      (leb-true low b r.0, leb-true b high r.1)

-- bytes that begin with a line of a range and more
pub begins_true : (low high : ℕ) (rs : List Range) (b : ℕ) (bs : List ℕ) → begins (range low high ∷ rs) (b ∷ bs) ≡ true
    → (low ≤ b) × (b ≤ high) × (begins rs bs ≡ true)
begins_true low high rs b bs e =
    let r = and_both (within (range low high) b) (begins rs bs) e in
    let w = within_true b low high r.0 in
    (w.0, w.1, r.1)

-- a line is no longer than bytes that begin with it
pub begins-length : (row : List Range) (bs : List ℕ) → begins row bs ≡ true → length row ≤ length bs
begins-length [] bs e = omega arith
begins-length (r ∷ rs) [] e = absurd (cc)
begins-length (r ∷ rs) (b ∷ bs) e = let h = begins-length rs bs (and_right (within r b) _ e) in omega arith

pub length_in_le : (rows : List (List Range)) (bs : List ℕ) → length_in rows bs ≤ length bs
length_in_le [] bs = omega arith
length_in_le (row ∷ rows) bs = go (begins row bs) refl (length_in_le rows bs)
  where
    go : (t : Bool) → begins row bs ≡ t → length_in rows bs ≤ length bs → length_in (row ∷ rows) bs ≤ length bs
    go true t h = rw t (begins-length row bs t)
    go false t h = rw t h

module _ (lo hi : ℕ) where
  -- the line can start with a byte from lo to hi
  abbrev meets : List Range → Bool
  meets [] = true
  meets (range low high ∷ rs) = and (leb low hi) (leb lo high)

  -- the lines of a table that can
  abbrev pub lines : List (List Range) → List (List Range)
  lines [] = []
  lines (row ∷ rows) = pick (meets row) (row ∷ lines rows) (lines rows)

-- for bytes that start with one from lo to hi, the other lines do not count
module _ (b lo hi : ℕ) (h : lo ≤ b) (k : b ≤ hi) where
  apart : (row : List Range) (bs : List ℕ) → meets lo hi row ≡ false → begins row (b ∷ bs) ≡ false
  apart [] bs e = absurd (cc)
  apart (range low high ∷ rs) bs e = go (leb low hi) refl
    where
      go : (t : Bool) → leb low hi ≡ t → begins (range low high ∷ rs) (b ∷ bs) ≡ false
      go true t = let l = leb-false lo high (rw t at e) in rw (above b low high (omega arith))
      go false t = let l = leb-false low hi t in rw (below b low high (omega arith))

  pub narrowed : (rows : List (List Range)) (bs : List ℕ) → length_in rows (b ∷ bs) ≡ length_in (lines lo hi rows) (b ∷ bs)
  narrowed [] bs = refl
  narrowed (row ∷ rows) bs = go (meets lo hi row) refl (narrowed rows bs)
    where
      go : (t : Bool) → meets lo hi row ≡ t → length_in rows (b ∷ bs) ≡ length_in (lines lo hi rows) (b ∷ bs)
          → length_in (row ∷ rows) (b ∷ bs) ≡ length_in (lines lo hi (row ∷ rows)) (b ∷ bs)
      go true t e = rw (t, e)
      go false t e = rw (t, apart row bs t) e

-- every range of the line starts at 80 or above
abbrev high : List Range → Bool
high [] = true
high (range low upto ∷ rs) = and (leb 0x80 low) (high rs)

-- so do those of every line of two or more
abbrev pub long_high : List (List Range) → Bool
long_high [] = true
long_high (row ∷ rows) = and (or (leb (length row) 1) (high row)) (long_high rows)

begins_high : (row : List Range) (bs : List ℕ) → high row ≡ true → begins row bs ≡ true → (i : ℕ) → i < length row → 0x80 ≤ get_or bs i 0
begins_high [] bs e f i h = absurd (omega arith)
begins_high (r ∷ rs) [] e f i h = absurd (cc)
begins_high (range low upto ∷ rs) (b ∷ bs) e f zero h =
    let w = and_left (leb low b) _ (and_left (within (range low upto) b) _ f) in
    omega (arith, leb-true 0x80 low (and_left _ (high rs) e), leb-true low b w)
begins_high (range low upto ∷ rs) (b ∷ bs) e f (suc i) h =
    begins_high rs bs (and_right (leb 0x80 low) _ e) (and_right (within (range low upto) b) _ f) i (omega arith)

pub length_in_high : (rows : List (List Range)) (bs : List ℕ) → long_high rows ≡ true → 2 ≤ length_in rows bs → (i : ℕ) → i < length_in rows bs → 0x80 ≤ get_or bs i 0
length_in_high [] bs e m i h = absurd (omega arith)
length_in_high (row ∷ rows) bs e m i h = go (begins row bs) refl (λ x y. length_in_high rows bs (and_right (or (leb (length row) 1) (high row)) _ e) x i y)
  where
    go : (t : Bool) → begins row bs ≡ t → (2 ≤ length_in rows bs → i < length_in rows bs → 0x80 ≤ get_or bs i 0) → 0x80 ≤ get_or bs i 0
    go true t f =
        let n = rw t at m in
        let l = rw (lt-leb (length row) 1 n) at (and_left (or (leb (length row) 1) (high row)) (long_high rows) e) in
        begins_high row bs l t i (rw t at h)
    go false t f = f (rw t at m) (rw t at h)

-- a line against the first of two pieces
begins_front : (row : List Range) (xs ys : List ℕ) → length row ≤ length xs → begins row (xs ++ ys) ≡ begins row xs
begins_front [] xs ys h = refl
begins_front (r ∷ rs) [] ys h = absurd (omega arith)
begins_front (r ∷ rs) (x ∷ xs) ys h = ap (and (within r x)) (begins_front rs xs ys (omega arith))

pub length_in_front : (rows : List (List Range)) (xs ys : List ℕ) → length_in rows (xs ++ ys) ≤ length xs → length_in rows (xs ++ ys) ≡ length_in rows xs
length_in_front [] xs ys h = refl
length_in_front (row ∷ rows) xs ys h = go (begins row (xs ++ ys)) (begins row xs) refl refl (length_in_front rows xs ys)
  where
    go : (t u : Bool) → begins row (xs ++ ys) ≡ t → begins row xs ≡ u → (length_in rows (xs ++ ys) ≤ length xs → length_in rows (xs ++ ys) ≡ length_in rows xs)
        → length_in (row ∷ rows) (xs ++ ys) ≡ length_in (row ∷ rows) xs
    go t true e f k = rw (begins_front row xs ys (begins-length row xs f), f)
    go true false e f k = rw (← begins_front row xs ys (rw e at h), e)
    go false false e f k = rw (e, f) (k (rw e at h))
