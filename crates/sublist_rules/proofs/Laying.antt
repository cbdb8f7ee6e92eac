-- The third pass: each node's targets start behind those of the nodes before it, exact ones before `>` ones.
use Prim.Native.Nat.{ℕ, zero, suc, ◌+◌, ◌*◌, ◌%◌, ◌<◌, ◌≤◌}
use native.Mathlib.Omega.{arith}
use native.Mathlib.Nat.{mod-eq_of_lt, add-zero, add-suc}
use mathlib.Core.Path.{◌≡◌, refl, sym, ap, ◌∙◌, subst}
use mathlib.Core.List.{List}
use lib.ListN.{length, set, length-set}
use Rattle.sublist_area_rules.specs.Words.{word}
use Rattle.sublist_rules.specs.Passes.{laid_at, laid}
use Rattle.sublist_rules.proofs.Stores.{word_set, word_field, word_node}

-- the targets of the nodes before node j
unfoldable pub before : List ℕ → ℕ → ℕ
before a zero = 0
before a (suc j) = before a j + word a j 5 + word a j 7

-- the sums look at the counts alone
pub before_same : (a b : List ℕ) (j : ℕ) → ((k : ℕ) → k < j → (word a k 5 ≡ word b k 5) × (word a k 7 ≡ word b k 7)) → before a j ≡ before b j
unfolding before
before_same a b zero e = refl
before_same a b (suc j) e = omega (arith, before_same a b j (λ k l. e k (omega arith)), (e j (omega arith)).0, (e j (omega arith)).1)

pub before_suc : (a : List ℕ) (j : ℕ) → before a (suc j) ≡ before a j + word a j 5 + word a j 7
unfolding before
before_suc a j = refl

pub before_mono : (a : List ℕ) (i d : ℕ) → before a i ≤ before a (i + d)
unfolding before
before_mono a i zero = omega (arith, ap (before a) (add-zero i))
before_mono a i (suc d) = omega (arith, before_mono a i d, ap (before a) (add-suc i d))

length-laid_at : (a : List ℕ) (i from : ℕ) → length (laid_at a i from) ≡ length a
unfolding laid_at
length-laid_at a i from = simp length-set

pub length-laid : (a : List ℕ) (i left from : ℕ) → length (laid a i left from) ≡ length a
unfolding laid
length-laid a i zero from = refl
length-laid a i (suc left) from = length-laid (laid_at a i from) (suc i) left ((from + word a i 5 + word a i 7) % 4294967296) ∙ length-laid_at a i from

-- what one turn stores
module _ (a : List ℕ) (i from : ℕ) (fits : suc i * 16 ≤ length a) where
  at_4 : word (laid_at a i from) i 4 ≡ from
  unfolding laid_at
  at_4 =
      word_field (set (set (set a (i * 16 + 4) from) (i * 16 + 5) 0) (i * 16 + 6) ((from + word a i 5) % 4294967296)) i 7 0 i 4 (omega arith) (omega arith) (λ e. omega arith)
      ∙ word_field (set (set a (i * 16 + 4) from) (i * 16 + 5) 0) i 6 ((from + word a i 5) % 4294967296) i 4 (omega arith) (omega arith) (λ e. omega arith)
      ∙ word_field (set a (i * 16 + 4) from) i 5 0 i 4 (omega arith) (omega arith) (λ e. omega arith)
      ∙ word_set a i 4 from (omega arith)

  at_5 : word (laid_at a i from) i 5 ≡ 0
  unfolding laid_at
  at_5 =
      word_field (set (set (set a (i * 16 + 4) from) (i * 16 + 5) 0) (i * 16 + 6) ((from + word a i 5) % 4294967296)) i 7 0 i 5 (omega arith) (omega arith) (λ e. omega arith)
      ∙ word_field (set (set a (i * 16 + 4) from) (i * 16 + 5) 0) i 6 ((from + word a i 5) % 4294967296) i 5 (omega arith) (omega arith) (λ e. omega arith)
      ∙ word_set (set a (i * 16 + 4) from) i 5 0 (omega (arith, length-set a (i * 16 + 4) from))

  at_6 : word (laid_at a i from) i 6 ≡ (from + word a i 5) % 4294967296
  unfolding laid_at
  at_6 =
      word_field (set (set (set a (i * 16 + 4) from) (i * 16 + 5) 0) (i * 16 + 6) ((from + word a i 5) % 4294967296)) i 7 0 i 6 (omega arith) (omega arith) (λ e. omega arith)
      ∙ word_set (set (set a (i * 16 + 4) from) (i * 16 + 5) 0) i 6 ((from + word a i 5) % 4294967296)
      (omega (arith, length-set (set a (i * 16 + 4) from) (i * 16 + 5) 0, length-set a (i * 16 + 4) from))

  at_7 : word (laid_at a i from) i 7 ≡ 0
  unfolding laid_at
  at_7 =
      word_set (set (set (set a (i * 16 + 4) from) (i * 16 + 5) 0) (i * 16 + 6) ((from + word a i 5) % 4294967296)) i 7 0
      (omega (arith, length-set (set (set a (i * 16 + 4) from) (i * 16 + 5) 0) (i * 16 + 6) ((from + word a i 5) % 4294967296), length-set (set a (i * 16 + 4) from) (i * 16 + 5) 0, length-set a (i * 16 + 4) from))

-- another node, and another word than 4 to 7, stay
turn_node : (a : List ℕ) (i from j g : ℕ) → (i ≡ j → ⊥) → g < 16 → word (laid_at a i from) j g ≡ word a j g
unfolding laid_at
turn_node a i from j g d lg =
    word_node (set (set (set a (i * 16 + 4) from) (i * 16 + 5) 0) (i * 16 + 6) ((from + word a i 5) % 4294967296)) i 7 0 j g (omega arith) lg d
    ∙ word_node (set (set a (i * 16 + 4) from) (i * 16 + 5) 0) i 6 ((from + word a i 5) % 4294967296) j g (omega arith) lg d
    ∙ word_node (set a (i * 16 + 4) from) i 5 0 j g (omega arith) lg d
    ∙ word_node a i 4 from j g (omega arith) lg d

-- the nodes passed stay
pub laid-below : (left i : ℕ) (a : List ℕ) (from j g : ℕ) → j < i → g < 16 → word (laid a i left from) j g ≡ word a j g
unfolding laid
laid-below zero i a from j g l lg = refl
laid-below (suc left) i a from j g l lg =
    laid-below left (suc i) (laid_at a i from) ((from + word a i 5 + word a i 7) % 4294967296) j g (omega arith) lg
    ∙ turn_node a i from j g (λ e. omega arith) lg

-- and so do the other words
turn_word : (a : List ℕ) (i from j g : ℕ) → g < 16 → (4 ≡ g → ⊥) → (5 ≡ g → ⊥) → (6 ≡ g → ⊥) → (7 ≡ g → ⊥) → word (laid_at a i from) j g ≡ word a j g
unfolding laid_at
turn_word a i from j g lg d4 d5 d6 d7 =
    word_field (set (set (set a (i * 16 + 4) from) (i * 16 + 5) 0) (i * 16 + 6) ((from + word a i 5) % 4294967296)) i 7 0 j g (omega arith) lg d7
    ∙ word_field (set (set a (i * 16 + 4) from) (i * 16 + 5) 0) i 6 ((from + word a i 5) % 4294967296) j g (omega arith) lg d6
    ∙ word_field (set a (i * 16 + 4) from) i 5 0 j g (omega arith) lg d5
    ∙ word_field a i 4 from j g (omega arith) lg d4

pub laid_word : (left i : ℕ) (a : List ℕ) (from j g : ℕ) → g < 16 → (4 ≡ g → ⊥) → (5 ≡ g → ⊥) → (6 ≡ g → ⊥) → (7 ≡ g → ⊥) → word (laid a i left from) j g ≡ word a j g
unfolding laid
laid_word zero i a from j g lg d4 d5 d6 d7 = refl
laid_word (suc left) i a from j g lg d4 d5 d6 d7 =
    laid_word left (suc i) (laid_at a i from) ((from + word a i 5 + word a i 7) % 4294967296) j g lg d4 d5 d6 d7
    ∙ turn_word a i from j g lg d4 d5 d6 d7

-- the counts of the nodes from i on are those of a
abbrev Counts : List ℕ → List ℕ → ℕ → Type 0
Counts a b i = (k : ℕ) → i ≤ k → (word b k 5 ≡ word a k 5) × (word b k 7 ≡ word a k 7)

-- what the pass says of node i + d, from node i on
abbrev Laid : List ℕ → List ℕ → ℕ → Type 0
Laid a b j = (word b j 4 ≡ before a j) × (word b j 5 ≡ 0) × (word b j 6 ≡ before a j + word a j 5) × (word b j 7 ≡ 0)

pub laid-at : (left i d : ℕ) (a b : List ℕ) → d < left → (i + left) * 16 ≤ length b → Counts a b i → before a (i + left) < 4294967296
    → Laid a (laid b i left (before a i)) (i + d)
unfolding laid
laid-at zero i d a b l fits same small = absurd (omega arith)
laid-at (suc left) i zero a b l fits same small =
    let e5 = (same i (omega arith)).0 in
    let e7 = (same i (omega arith)).1 in
    let room : suc i * 16 ≤ length b = omega arith in
    let low : before a i + word a i 5 < 4294967296 = omega (arith, mono, before_suc a i) in
    rw (add-zero i) (
      keep 4 (omega arith) ∙ at_4 b i (before a i) room,
      keep 5 (omega arith) ∙ at_5 b i (before a i) room,
      keep 6 (omega arith) ∙ at_6 b i (before a i) room ∙ ap (λ x. (before a i + x) % 4294967296) e5 ∙ mod-eq_of_lt low,
      keep 7 (omega arith) ∙ at_7 b i (before a i) room,
    )
  where
    keep : (g : ℕ) → g < 16 → word (laid (laid_at b i (before a i)) (suc i) left ((before a i + word b i 5 + word b i 7) % 4294967296)) i g ≡ word (laid_at b i (before a i)) i g
    keep g lg = laid-below left (suc i) (laid_at b i (before a i)) ((before a i + word b i 5 + word b i 7) % 4294967296) i g (omega arith) lg

    mono : before a (suc i) ≤ before a (i + suc left)
    mono = subst (λ x. before a (suc i) ≤ before a x) (omega arith) (before_mono a (suc i) left)
laid-at (suc left) i (suc d) a b l fits same small =
    go _ step (laid-at left (suc i) d a (laid_at b i (before a i)) (omega arith) (omega (arith, length-laid_at b i (before a i))) still (subst (λ x. before a x < 4294967296) (omega arith) small))
  where
    still : Counts a (laid_at b i (before a i)) (suc i)
    still k h = (
      turn_node b i (before a i) k 5 (λ e. omega arith) (omega arith) ∙ (same k (omega arith)).0,
      turn_node b i (before a i) k 7 (λ e. omega arith) (omega arith) ∙ (same k (omega arith)).1,
    )

    mono : before a (suc i) ≤ before a (i + suc left)
    mono = subst (λ x. before a (suc i) ≤ before a x) (omega arith) (before_mono a (suc i) left)

    step : (before a i + word b i 5 + word b i 7) % 4294967296 ≡ before a (suc i)
    step = mod-eq_of_lt (omega (arith, mono, (same i (omega arith)).0, (same i (omega arith)).1, before_suc a i)) ∙ omega (arith, (same i (omega arith)).0, (same i (omega arith)).1, before_suc a i)

    go : (from : ℕ) → from ≡ before a (suc i) → Laid a (laid (laid_at b i (before a i)) (suc i) left (before a (suc i))) (suc i + d) → Laid a (laid (laid_at b i (before a i)) (suc i) left from) (i + suc d)
    go from e p = subst (λ x. Laid a (laid (laid_at b i (before a i)) (suc i) left x) (i + suc d)) (sym e) (subst (λ x. Laid a (laid (laid_at b i (before a i)) (suc i) left (before a (suc i))) x) (omega arith) p)
