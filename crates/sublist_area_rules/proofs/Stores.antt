-- Reading after a run of stores, and the words of an area after `added` and `planted`.
use Prim.Native.Nat.{ℕ, zero, suc, ◌+◌, ◌*◌, ◌≤◌, ◌<◌}
use native.Mathlib.Nat.{add-zero, zero-add, add-suc, suc-add}
use native.Mathlib.Omega.{arith}
use mathlib.Core.Path.{◌≡◌, refl, sym, ◌∙◌, ap}
use mathlib.Core.List.{List, [], ◌∷◌, ◌++◌, append_assoc}
use lib.ListN.{length, get_or, set, length-set, replicate, take, drop}
use lib.Seq.{sets, length-sets, get_or-set_same, get_or-set_other, drop-drop}
use borrow.Rule.Slice.PartMut.{put_mid}
use borrow.Author.Tests.{lt-ltb, le-ltb}
use Rattle.std.proofs.lemmas.List.Edits.{sets-eq}
use Rattle.std.specs.Prelude.{Err}
use Rattle.subject_rules.proofs.Stores.{zeros}
use Rattle.sublist_area_rules.specs.declared.PlaceError.TheVariants.{Full}
use Rattle.sublist_area_rules.specs.Growing.{fresh, added, planted, placed_at, rooted}

pub sets_below : (vs l : List ℕ) (i j : ℕ) → j < i → get_or (sets l i vs) j 0 ≡ get_or l j 0
sets_below [] l i j h = refl
sets_below (v ∷ vs) l i j h = sets_below vs (set l i v) (suc i) j (omega arith) ∙ get_or-set_other l i j v 0 (omega arith)

pub sets_above : (vs l : List ℕ) (i j : ℕ) → i + length vs ≤ j → get_or (sets l i vs) j 0 ≡ get_or l j 0
sets_above [] l i j h = refl
sets_above (v ∷ vs) l i j h = sets_above vs (set l i v) (suc i) j (omega arith) ∙ get_or-set_other l i j v 0 (omega arith)

pub sets-at : (vs l : List ℕ) (i j : ℕ) → j < length vs → i + length vs ≤ length l → get_or (sets l i vs) (i + j) 0 ≡ get_or vs j 0
sets-at [] l i j h k = absurd (omega arith)
sets-at (v ∷ vs) l i zero h k =
    rw add-zero (sets_below vs (set l i v) (suc i) i (omega arith) ∙ get_or-set_same l i v 0 (omega arith))
sets-at (v ∷ vs) l i (suc j) h k =
    rw (add-suc, ← suc-add) (sets-at vs (set l i v) (suc i) j (omega arith) (rw length-set (omega arith)))

-- a run of words that is put in at once
pub sets_put : (vs l : List ℕ) (i k : ℕ) → k ≡ length vs → i + k ≤ length l → put_mid i k l vs ≡ sets l i vs
sets_put vs l i k e h =
    ap (λ m. take i l ++ (vs ++ m)) (drop-drop k i l ∙ ap (λ n. drop (i + n) l) e) ∙ sym (append_assoc (take i l) vs _)
    ∙ sym (sets-eq vs l i (omega arith))

module _ (a : List ℕ) (n link h p : ℕ) (less : link < n * 16) (room : n * 16 + 16 ≤ length a) where
  -- the new node's words
  pub added_new : (f : ℕ) → f < 16 → get_or (added a n link h p) (n * 16 + f) 0 ≡ get_or (fresh h p) f 0
  unfolding added
  added_new f l =
      get_or-set_other (sets a (n * 16) (fresh h p)) link (n * 16 + f) n 0 (omega arith) ∙ sets-at (fresh h p) a (n * 16) f l room

  -- the link
  pub added_link : get_or (added a n link h p) link 0 ≡ n
  unfolding added
  added_link = get_or-set_same (sets a (n * 16) (fresh h p)) link n 0 (rw length-sets (omega arith))

  -- the words before it
  pub added_old : (x : ℕ) → x < n * 16 → (x ≡ link → ⊥) → get_or (added a n link h p) x 0 ≡ get_or a x 0
  unfolding added
  added_old x l ne =
      get_or-set_other (sets a (n * 16) (fresh h p)) link x n 0 ne ∙ sets_below (fresh h p) a (n * 16) x l

  -- and behind it
  pub added_behind : (x : ℕ) → n * 16 + 16 ≤ x → get_or (added a n link h p) x 0 ≡ get_or a x 0
  unfolding added
  added_behind x l =
      get_or-set_other (sets a (n * 16) (fresh h p)) link x n 0 (omega arith) ∙ sets_above (fresh h p) a (n * 16) x l

-- a new node's words are put in at once, then the link
pub added_by : (a : List ℕ) (n link h p k : ℕ) (vs : List ℕ) → vs ≡ fresh h p → k ≡ 16 → n * 16 + 16 ≤ length a
    → set (put_mid (n * 16) k a vs) link n ≡ added a n link h p
unfolding added
added_by a n link h p k vs e s l = ap (λ m. set m link n) (rw (e, s) (sets_put (fresh h p) a (n * 16) 16 refl l))

-- and those of the root, where there is room
pub rooted_by : (a vs : List ℕ) → vs ≡ fresh 0 0 → 16 ≤ length a → (placed_at 0 1, vs ++ drop 16 a) ≡ rooted a
unfolding planted rooted
rooted_by a vs e l = rw (le-ltb (length a) 16 l, e, sets-eq (fresh 0 0) a 0 l) refl

pub rooted_short : (a : List ℕ) → length a < 16 → (Err Full, a) ≡ rooted a
unfolding rooted
rooted_short a l = rw (lt-ltb (length a) 16 l) refl

pub length-added : (a : List ℕ) (n link h p : ℕ) → length (added a n link h p) ≡ length a
unfolding added
length-added a n link h p = simp length-set

-- a new node's words are 0, but for its hash and its parent
but_one : (m f p : ℕ) (vs : List ℕ) → ((g : ℕ) → get_or vs g 0 ≡ 0) → (f ≡ m → ⊥) → get_or (replicate m 0 ++ (p ∷ vs)) f 0 ≡ 0
but_one zero zero p vs z ne = absurd (ne refl)
but_one zero (suc f) p vs z ne = z f
but_one (suc m) zero p vs z ne = refl
but_one (suc m) (suc f) p vs z ne = but_one m f p vs z (λ e. ne (ap suc e))

pub fresh_zero : (h p f : ℕ) → 1 < f → (f ≡ 12 → ⊥) → get_or (fresh h p) f 0 ≡ 0
fresh_zero h p zero l ne = absurd (omega arith)
fresh_zero h p (suc zero) l ne = absurd (omega arith)
fresh_zero h p (suc (suc f)) l ne = but_one 10 f (get_or (fresh h p) 12 0) (0 ∷ 0 ∷ 0 ∷ []) (zeros 3) (λ e. ne (ap (λ x. suc (suc x)) e))

-- the root alone
module _ (a : List ℕ) where
  pub planted_zero : 16 ≤ length a → (f : ℕ) → f < 16 → get_or (planted a) f 0 ≡ 0
  unfolding planted
  planted_zero room f l = (rw zero-add at (sets-at (fresh 0 0) a 0 f l room)) ∙ zeros 16 f

  pub planted_behind : (x : ℕ) → 16 ≤ x → get_or (planted a) x 0 ≡ get_or a x 0
  unfolding planted
  planted_behind x l = sets_above (fresh 0 0) a 0 x l

  pub length-planted : length (planted a) ≡ length a
  unfolding planted
  length-planted = simp length-set
