-- The fourth pass: each line's target goes behind those that its end has, so each node's range holds the targets of the lines that end there, in order.
use Prim.Native.Nat.{ℕ, zero, suc, ◌+◌, ◌*◌, ◌%◌, ◌<◌, ◌≤◌}
use native.Mathlib.Omega.{arith}
use native.Mathlib.Nat.{mod-eq_of_lt}
use mathlib.Core.Path.{◌≡◌, refl, ap, ◌∙◌, subst}
use mathlib.Core.Bool.{Bool, true, false, beq}
use mathlib.Core.List.{List, [], ◌∷◌}
use lib.Dec.{eqb}
use lib.ListN.{length, set, get_or, length-set}
use lib.Seq.{get_or-set_same, get_or-set_other}
use borrow.Author.Tests.{eqb-true, eqb-false, eq-eqb}
use Rattle.std.specs.Cmp.{booleans_Decides}
use Rattle.subject_rules.specs.Choice.{pick, and}
use Rattle.sublist_tree.specs.Lists.{All}
use Rattle.sublist_area_rules.specs.Words.{word}
use Rattle.sublist_rules.specs.Passes.{End, end, count_word, start_word, counted, filling, node_words_in, target_words_in, filled_by, filled}
use Rattle.sublist_rules.proofs.Stores.{word_set, word_field, word_node}

-- the end is node i's, of this kind
abbrev pub end_is_lem : End → ℕ → Bool → Bool
end_is_lem (end j tail) i b = and (eqb j i) (beq tail b)

abbrev pub hit : End → ℕ → Bool → ℕ
hit e i b = pick (end_is_lem e i b) 1 0

abbrev pub count_ends : ℕ → Bool → List End → ℕ
count_ends i b [] = 0
count_ends i b (e ∷ es) = hit e i b + count_ends i b es

-- the targets of the lines that end at node i in this way
abbrev pub pick_ends : ℕ → Bool → List End → List ℕ → List ℕ
pick_ends i b [] xs = []
pick_ends i b (e ∷ es) [] = []
pick_ends i b (e ∷ es) (x ∷ xs) = pick (end_is_lem e i b) (x ∷ pick_ends i b es xs) (pick_ends i b es xs)

abbrev pub node_of : End → ℕ
node_of (end j tail) = j

-- an end that is node i's
pub end_is : (j : ℕ) (tail : Bool) (i : ℕ) (b : Bool) → end_is_lem (end j tail) i b ≡ true → (j ≡ i) × (tail ≡ b)
end_is j tail i b e = go (eqb j i) refl e
  where
    go : (c : Bool) → eqb j i ≡ c → and c (beq tail b) ≡ true → (j ≡ i) × (tail ≡ b)
    go true q e = (eqb-true j i q, (booleans_Decides tail b).0 e)
    go false q e = absurd (cc)

pub end_own : (j : ℕ) (tail : Bool) → end_is_lem (end j tail) j tail ≡ true
end_own j tail = rw (eq-eqb j j refl, (booleans_Decides tail tail).1 refl) refl

-- the words that count and start are told apart
count-start : (b c : Bool) → count_word b ≡ start_word c → ⊥
count-start true true e = omega arith
count-start true false e = omega arith
count-start false true e = omega arith
count-start false false e = omega arith

count_small : (b : Bool) → count_word b < 16
count_small true = omega arith
count_small false = omega arith

start_small : (b : Bool) → start_word b < 16
start_small true = omega arith
start_small false = omega arith

count-apart : (b c : Bool) → (b ≡ c → ⊥) → count_word b ≡ count_word c → ⊥
count-apart true true d e = d refl
count-apart true false d e = omega arith
count-apart false true d e = omega arith
count-apart false false d e = d refl

pub length-counted : (a : List ℕ) (j : ℕ) (tail : Bool) → length (counted a j tail) ≡ length a
unfolding counted
length-counted a j tail = length-set a (j * 16 + count_word tail) ((word a j (count_word tail) + 1) % 4294967296)

pub counted_start : (a : List ℕ) (j : ℕ) (tail : Bool) (i : ℕ) (b : Bool) → word (counted a j tail) i (start_word b) ≡ word a i (start_word b)
unfolding counted
counted_start a j tail i b = word_field a j (count_word tail) ((word a j (count_word tail) + 1) % 4294967296) i (start_word b) (count_small tail) (start_small b) (count-start tail b)

pub counted_own : (a : List ℕ) (j : ℕ) (tail : Bool) → suc j * 16 ≤ length a → word a j (count_word tail) + 1 < 4294967296 → word (counted a j tail) j (count_word tail) ≡ word a j (count_word tail) + 1
unfolding counted
counted_own a j tail fits small = word_set a j (count_word tail) ((word a j (count_word tail) + 1) % 4294967296) (omega (arith, count_small tail)) ∙ mod-eq_of_lt small

-- another end's count
pub counted_other : (a : List ℕ) (j : ℕ) (tail : Bool) (i : ℕ) (b : Bool) → end_is_lem (end j tail) i b ≡ false → word (counted a j tail) i (count_word b) ≡ word a i (count_word b)
unfolding counted
counted_other a j tail i b e = go (eqb j i) refl e
  where
    go : (c : Bool) → eqb j i ≡ c → and c (beq tail b) ≡ false → word (set a (j * 16 + count_word tail) ((word a j (count_word tail) + 1) % 4294967296)) i (count_word b) ≡ word a i (count_word b)
    go true q e =
        word_field a j (count_word tail) ((word a j (count_word tail) + 1) % 4294967296) i (count_word b) (count_small tail) (count_small b)
        (count-apart tail b (λ s. let t : beq tail b ≡ true = subst (λ x. beq tail x ≡ true) s ((booleans_Decides tail tail).1 refl) in let z : ◌≡◌ {A = ℕ} 0 1 = cc in omega arith))
    go false q e = word_node a j (count_word tail) ((word a j (count_word tail) + 1) % 4294967296) i (count_word b) (count_small tail) (count_small b) (eqb-false j i q)

-- words that are no count stay
pub counted-word : (a : List ℕ) (j : ℕ) (tail : Bool) (i g : ℕ) → g < 16 → (5 ≡ g → ⊥) → (7 ≡ g → ⊥) → word (counted a j tail) i g ≡ word a i g
unfolding counted
counted-word a j true i g lg d5 d7 = word_field a j 7 ((word a j 7 + 1) % 4294967296) i g (omega arith) lg d7
counted-word a j false i g lg d5 d7 = word_field a j 5 ((word a j 5 + 1) % 4294967296) i g (omega arith) lg d5

-- the ranges lie apart: a place in two of them is in one
abbrev pub Ranges : ℕ → (ℕ → Bool → ℕ) → (ℕ → Bool → ℕ) → Type 0
Ranges n start size =
    (i j : ℕ) (b c : Bool) (p : ℕ) → i < n → j < n → start i b ≤ p → p < start i b + size i b → start j c ≤ p → p < start j c + size j c → (i ≡ j) × (b ≡ c)

module _ (n : ℕ) (start size : ℕ → Bool → ℕ) (apart : Ranges n start size) (small : (i : ℕ) (b : Bool) → i < n → size i b < 4294967296) where
  -- the words say where each range starts and how many targets it has
  abbrev pub Says : List ℕ → (ℕ → Bool → ℕ) → Type 0
  Says a c = (i : ℕ) (b : Bool) → i < n → (word a i (start_word b) ≡ start i b) × (word a i (count_word b) ≡ c i b)

  -- a place that the ends es will not fill, if each range has c targets
  abbrev pub Free : (ℕ → Bool → ℕ) → List End → ℕ → Type 0
  Free c es p = (i : ℕ) (b : Bool) → i < n → start i b + c i b ≤ p → p < start i b + c i b + count_ends i b es → ⊥

  -- how many targets each range has with one end more
  abbrev more : (ℕ → Bool → ℕ) → End → ℕ → Bool → ℕ
  more c e i b = c i b + hit e i b

  abbrev Room : (ℕ → Bool → ℕ) → List End → Type 0
  Room c es = (i : ℕ) (b : Bool) → i < n → c i b + count_ends i b es ≤ size i b

  says_more : (a : List ℕ) (j : ℕ) (tail : Bool) (c : ℕ → Bool → ℕ) → j < n → n * 16 ≤ length a → Says a c → c j tail + 1 ≤ size j tail
      → Says (counted a j tail) (more c (end j tail))
  says_more a j tail c lj fits says room i b li = (counted_start a j tail i b ∙ (says i b li).0, go (end_is_lem (end j tail) i b) refl)
    where
      go : (h : Bool) → end_is_lem (end j tail) i b ≡ h → word (counted a j tail) i (count_word b) ≡ c i b + pick h 1 0
      go true e =
          let q = end_is j tail i b e in
          subst (λ x. word (counted a j tail) x (count_word b) ≡ c x b + 1) q.0
          (subst (λ x. word (counted a j tail) j (count_word x) ≡ c j x + 1) q.1
          (counted_own a j tail (omega arith) (omega (arith, small j tail lj, (says j tail lj).1)) ∙ ap (λ x. x + 1) (says j tail lj).1))
      go false e = counted_other a j tail i b e ∙ omega (arith, (says i b li).1)

  abbrev pub Result : List ℕ → List ℕ → List End → List ℕ → (ℕ → Bool → ℕ) → Type 0
  Result a ts es xs c =
      Says (node_words_in (filled (filling a ts) es xs)) (λ i b. c i b + count_ends i b es)
      × ((i : ℕ) (b : Bool) (k : ℕ) → i < n → k < count_ends i b es → get_or (target_words_in (filled (filling a ts) es xs)) (start i b + c i b + k) 0 ≡ get_or (pick_ends i b es xs) k 0)
      × ((p : ℕ) → Free c es p → get_or (target_words_in (filled (filling a ts) es xs)) p 0 ≡ get_or ts p 0)

  pub filled_at : (es : List End) (xs a ts : List ℕ) (c : ℕ → Bool → ℕ) → length es ≡ length xs → All (λ e. node_of e < n) es → n * 16 ≤ length a → Says a c → Room c es
      → ((i : ℕ) (b : Bool) → i < n → start i b + size i b ≤ length ts) → Result a ts es xs c
  unfolding filled filled_by
  filled_at [] xs a ts c len in_n fits says room wide = ((λ i b l. ((says i b l).0, (says i b l).1 ∙ omega arith)), (λ i b k l h. absurd (omega arith)), (λ p f. refl))
  filled_at (e ∷ es) [] a ts c len in_n fits says room wide = absurd (omega arith)
  filled_at (end j tail ∷ es) (x ∷ xs) a ts c len in_n fits says room wide =
      let lj = in_n.0 in
      let one : c j tail + 1 ≤ size j tail = omega (arith, room j tail lj, ap (λ h. pick {A = ℕ} h 1 0) (end_own j tail)) in
      let ih = filled_at es xs (counted a j tail) (set ts (word a j (start_word tail) + word a j (count_word tail)) x) (more c (end j tail)) (omega arith) in_n.1
      (omega (arith, length-counted a j tail)) (says_more a j tail c lj fits says one) (λ i b l. omega (arith, room i b l))
      (λ i b l. omega (arith, wide i b l, length-set ts (word a j (start_word tail) + word a j (count_word tail)) x)) in (
        (λ i b l. ((ih.0 i b l).0, (ih.0 i b l).1 ∙ omega arith)),
        (λ i b k l h. ranges i b k l h lj one ih),
        (λ p f. ih.2 p (λ i b l lo hi. f i b l (omega arith) (omega arith)) ∙ get_or-set_other ts _ p x 0 (λ q. f j tail lj (omega (arith, (says j tail lj).0, (says j tail lj).1)) (omega (arith, (says j tail lj).0, (says j tail lj).1, ap (λ h. pick {A = ℕ} h 1 0) (end_own j tail))))),
      )
    where
      ranges : (i : ℕ) (b : Bool) (k : ℕ) → i < n → k < hit (end j tail) i b + count_ends i b es → j < n → c j tail + 1 ≤ size j tail
          → Result (counted a j tail) (set ts (word a j (start_word tail) + word a j (count_word tail)) x) es xs (more c (end j tail))
          → get_or (target_words_in (filled (filling (counted a j tail) (set ts (word a j (start_word tail) + word a j (count_word tail)) x)) es xs)) (start i b + c i b + k) 0
          ≡ get_or (pick (end_is_lem (end j tail) i b) (x ∷ pick_ends i b es xs) (pick_ends i b es xs)) k 0
      ranges i b k l h lj one ih = go (end_is_lem (end j tail) i b) refl k h
        where
          -- the place just filled is in no range's part that is left
          taken : (i' : ℕ) (b' : Bool) → i' < n → end_is_lem (end j tail) i b ≡ true → start i' b' + more c (end j tail) i' b' ≤ start i b + c i b + 0
              → start i b + c i b + 0 < start i' b' + more c (end j tail) i' b' + count_ends i' b' es → ⊥
          taken i' b' l' e lo hi =
              let one' : hit (end j tail) i b ≡ 1 = ap (λ h. pick {A = ℕ} h 1 0) e in
              let r = apart i i' b b' (start i b + c i b + 0) l l' (omega arith) (omega (arith, room i b l)) (omega arith) (omega (arith, room i' b' l')) in
              let same : start i b + more c (end j tail) i b ≡ start i' b' + more c (end j tail) i' b' = (λ k. start (r.0 k) (r.1 k) + more c (end j tail) (r.0 k) (r.1 k)) in
              omega arith

          go : (h : Bool) → end_is_lem (end j tail) i b ≡ h → (k : ℕ) → k < pick h 1 0 + count_ends i b es → get_or (target_words_in (filled (filling (counted a j tail) (set ts (word a j (start_word tail) + word a j (count_word tail)) x)) es xs)) (start i b + c i b + k) 0 ≡ get_or (pick h (x ∷ pick_ends i b es xs) (pick_ends i b es xs)) k 0
          go false e k h = ap (λ p. get_or (target_words_in (filled (filling (counted a j tail) (set ts (word a j (start_word tail) + word a j (count_word tail)) x)) es xs)) p 0) (omega (arith, ap (λ h. pick {A = ℕ} h 1 0) e)) ∙ ih.1 i b k l (omega arith)
          go true e (suc k) h = ap (λ p. get_or (target_words_in (filled (filling (counted a j tail) (set ts (word a j (start_word tail) + word a j (count_word tail)) x)) es xs)) p 0) (omega (arith, ap (λ h. pick {A = ℕ} h 1 0) e)) ∙ ih.1 i b k l (omega arith)
          go true e zero h =
              let q = end_is j tail i b e in
              let here : start i b + c i b + 0 ≡ word a j (start_word tail) + word a j (count_word tail) = omega (arith, (says i b l).0, (says i b l).1, ap (λ y. word a y (start_word tail)) q.0, ap (λ y. word a i (start_word y)) q.1, ap (λ y. word a y (count_word tail)) q.0, ap (λ y. word a i (count_word y)) q.1) in
              ih.2 (start i b + c i b + 0) (λ i' b' l' lo hi. taken i' b' l' e lo hi) ∙ ap (λ p. get_or (set ts (word a j (start_word tail) + word a j (count_word tail)) x) p 0) here ∙ get_or-set_same ts (word a j (start_word tail) + word a j (count_word tail)) x 0 (omega (arith, here, wide i b l, room i b l, ap (λ h. pick {A = ℕ} h 1 0) e))

pub length-filled : (es : List End) (xs a ts : List ℕ) → length (node_words_in (filled (filling a ts) es xs)) ≡ length a
unfolding filled filled_by
length-filled [] xs a ts = refl
length-filled (e ∷ es) [] a ts = refl
length-filled (end j tail ∷ es) (x ∷ xs) a ts = length-filled es xs (counted a j tail) (set ts (word a j (start_word tail) + word a j (count_word tail)) x) ∙ length-counted a j tail

pub length-targets : (es : List End) (xs a ts : List ℕ) → length (target_words_in (filled (filling a ts) es xs)) ≡ length ts
unfolding filled filled_by
length-targets [] xs a ts = refl
length-targets (e ∷ es) [] a ts = refl
length-targets (end j tail ∷ es) (x ∷ xs) a ts =
    length-targets es xs (counted a j tail) (set ts (word a j (start_word tail) + word a j (count_word tail)) x) ∙ length-set ts (word a j (start_word tail) + word a j (count_word tail)) x

-- words that are no count stay
pub filled-word : (es : List End) (xs a ts : List ℕ) (i g : ℕ) → g < 16 → (5 ≡ g → ⊥) → (7 ≡ g → ⊥) → word (node_words_in (filled (filling a ts) es xs)) i g ≡ word a i g
unfolding filled filled_by
filled-word [] xs a ts i g lg d5 d7 = refl
filled-word (e ∷ es) [] a ts i g lg d5 d7 = refl
filled-word (end j tail ∷ es) (x ∷ xs) a ts i g lg d5 d7 =
    filled-word es xs (counted a j tail) (set ts (word a j (start_word tail) + word a j (count_word tail)) x) i g lg d5 d7 ∙ counted-word a j tail i g lg d5 d7
