-- The frontier by node numbers is the frontier of the lines left below them, node by node.
use Prim.Native.Nat.{ℕ, ◌<◌, max}
use mathlib.Core.Path.{◌≡◌, refl, sym, ◌∙◌, ap}
use mathlib.Core.Bool.{Bool, true}
use mathlib.Core.List.{List, [], ◌∷◌, ◌++◌, map}
use lib.ListN.{length, length-map}
use Rattle.subject_rules.proofs.Booleans.{by_eqb}
use Rattle.sublist_tree.specs.Lists.{All}
use Rattle.sublist_tree.specs.Tree.{Key, star, lit, Line, present, below, step, peak, left_at}
use Rattle.sublist_trie.proofs.Trie.{Trie, size, run, parent_of, child, Good, keep, front}
use Rattle.sublist_trie.proofs.Runs.{size_pos, snoc_inj, run_root, child_less, child_parent, run_child}
use Rattle.sublist_tree.proofs.Bytes.{All-map}
use Rattle.sublist_tree.proofs.Members.{Distinct}
use Rattle.sublist_trie.proofs.For.{For, left_of, child_none, child_some}

-- all are nodes of the tree
abbrev pub Inside : {K : Type 0} → Trie K → List ℕ → Type 0
Inside t fr = All (λ i. i < size t) fr

-- the frontier after the tokens hs, by numbers and by lines
abbrev pub fronts : {K : Type 0} → (K → K → Bool) → Trie K → List K → List ℕ → List ℕ
fronts eq t [] fr = fr
fronts eq t (h ∷ hs) fr = fronts eq t hs (front eq t h fr)

abbrev pub steps : {K : Type 0} → (K → K → Bool) → List K → List (List (Line K)) → List (List (Line K))
steps eq [] ns = ns
steps eq (h ∷ hs) ns = steps eq hs (step eq h ns)

-- the largest frontier by numbers
abbrev pub widest : {K : Type 0} → (K → K → Bool) → Trie K → List K → List ℕ → ℕ
widest eq t [] fr = length fr
widest eq t (h ∷ hs) fr = max (length fr) (widest eq t hs (front eq t h fr))

present_some : {K : Type 0} (m : List (Line K)) → (m ≡ [] → ⊥) → present m ≡ m ∷ []
present_some [] ne = absurd (ne refl)
present_some (l ∷ ls) ne = refl

module _ {K : Type 0} (eq : K → K → Bool) where
  keep_all : (P : ℕ → Type 0) (j : ℕ) (l : List ℕ) → ((j ≡ 0 → ⊥) → P j) → All P l → All P (keep eq j l)
  keep_all P j l f a = by_eqb (All P) j 0 l (j ∷ l) (λ z. a) (λ ne. (f ne, a))

  keep-distinct : (j : ℕ) (l : List ℕ) → ((j ≡ 0 → ⊥) → All (λ i. j ≡ i → ⊥) l) → Distinct l → Distinct (keep eq j l)
  keep-distinct j l f a = by_eqb Distinct j 0 l (j ∷ l) (λ z. a) (λ ne. (f ne, a))

  -- the next frontier has nodes of the tree
  pub front_inside : (t : Trie K) (h : K) (fr : List ℕ) → Inside t (front eq t h fr)
  unfolding front
  front_inside t h [] = tt
  front_inside t h (i ∷ fr) =
      keep_all (λ j. j < size t) (child eq t i (lit h)) (keep eq (child eq t i star) (front eq t h fr)) (λ _. child_less eq t i (lit h))
      (keep_all (λ j. j < size t) (child eq t i star) (front eq t h fr) (λ _. child_less eq t i star) (front_inside t h fr))

  pub fronts_inside : (t : Trie K) (hs : List K) (fr : List ℕ) → Inside t fr → Inside t (fronts eq t hs fr)
  fronts_inside t [] fr a = a
  fronts_inside t (h ∷ hs) fr a = fronts_inside t hs (front eq t h fr) (front_inside t h fr)

  -- the equality test is sound and complete
  module _ (sound : (h g : K) → eq h g ≡ true → h ≡ g) (whole : (h : K) → eq h h ≡ true) where
    -- children of one node by different keys differ
    pub child_key : (t : Trie K) (i : ℕ) (k l : Key K) → Good eq t → (child eq t i k ≡ 0 → ⊥) → child eq t i k ≡ child eq t i l → k ≡ l
    child_key t i k l g ne e =
        let a = run_child eq sound whole t i k g ne in
        let b = run_child eq sound whole t i l g (λ z. ne (e ∙ z)) in
        (snoc_inj (run t i) (run t i) k l (sym a ∙ ap (run t) e ∙ b)).1

    pub star_literal : (t : Trie K) (i : ℕ) (h : K) → Good eq t → (child eq t i (lit h) ≡ 0 → ⊥) → child eq t i (lit h) ≡ child eq t i star → ⊥
    star_literal t i h g ne e = let q = child_key t i (lit h) star g ne e in cc

    -- the parents of the next frontier are in this one
    front_parents : (P : ℕ → Type 0) (t : Trie K) (h : K) (fr : List ℕ) → Good eq t → All P fr → All (λ j. P (parent_of t j)) (front eq t h fr)
    unfolding front
    front_parents P t h [] g a = tt
    front_parents P t h (i ∷ fr) g a =
        keep_all Q (child eq t i (lit h)) (keep eq (child eq t i star) (front eq t h fr)) (λ ne. own (lit h) ne)
        (keep_all Q (child eq t i star) (front eq t h fr) (λ ne. own star ne) (front_parents P t h fr g a.1))
      where
        Q : ℕ → Type 0
        Q j = P (parent_of t j)

        own : (k : Key K) → (child eq t i k ≡ 0 → ⊥) → P (parent_of t (child eq t i k))
        own k ne = rw (child_parent eq sound whole t i k g ne).1 a.0

    -- a frontier with no node twice leads to one with none twice
    pub front_distinct : (t : Trie K) (h : K) (fr : List ℕ) → Good eq t → Distinct fr → Distinct (front eq t h fr)
    unfolding front
    front_distinct t h [] g d = tt
    front_distinct t h (i ∷ fr) g d =
        keep-distinct (child eq t i (lit h)) (keep eq (child eq t i star) (front eq t h fr))
        (λ ne. keep_all (λ j. child eq t i (lit h) ≡ j → ⊥) (child eq t i star) (front eq t h fr) (λ _. star_literal t i h g ne) (others (lit h) ne))
        (keep-distinct (child eq t i star) (front eq t h fr) (others star) (front_distinct t h fr g d.1))
      where
        others : (k : Key K) → (child eq t i k ≡ 0 → ⊥) → All (λ j. child eq t i k ≡ j → ⊥) (front eq t h fr)
        others k ne =
            All-map (λ j. i ≡ parent_of t j → ⊥) (λ j. child eq t i k ≡ j → ⊥) (front eq t h fr)
            (λ j f e. f (sym (child_parent eq sound whole t i k g ne).1 ∙ ap (parent_of t) e))
            (front_parents (λ p. i ≡ p → ⊥) t h fr g d.0)

    pub fronts_distinct : (t : Trie K) (hs : List K) (fr : List ℕ) → Good eq t → Distinct fr → Distinct (fronts eq t hs fr)
    fronts_distinct t [] fr g d = d
    fronts_distinct t (h ∷ hs) fr g d = fronts_distinct t hs (front eq t h fr) g (front_distinct t h fr g d)

    module _ (ls : List (Line K)) (t : Trie K) (of : For eq ls t) where
      keep-present : (i : ℕ) (k : Key K) (fr : List ℕ) → i < size t
          → map (left_of eq ls t) (keep eq (child eq t i k) fr) ≡ present (below eq k (left_of eq ls t i)) ++ map (left_of eq ls t) fr
      keep-present i k fr h =
          by_eqb (λ l. map (left_of eq ls t) l ≡ present (below eq k (left_of eq ls t i)) ++ map (left_of eq ls t) fr) (child eq t i k) 0 fr (child eq t i k ∷ fr)
          (λ z. rw (child_none eq sound whole ls t of i k h z))
          (λ ne. let s = child_some eq sound whole ls t of i k ne in rw (s.1, present_some (below eq k (left_of eq ls t i)) s.0))

      -- one token
      pub front_step : (h : K) (fr : List ℕ) → Inside t fr → map (left_of eq ls t) (front eq t h fr) ≡ step eq h (map (left_of eq ls t) fr)
      unfolding front
      front_step h [] a = refl
      front_step h (i ∷ fr) a =
          keep-present i (lit h) (keep eq (child eq t i star) (front eq t h fr)) a.0
          ∙ ap (λ l. present (below eq (lit h) (left_of eq ls t i)) ++ l)
          (keep-present i star (front eq t h fr) a.0 ∙ ap (λ l. present (below eq star (left_of eq ls t i)) ++ l) (front_step h fr a.1))

      -- all tokens
      pub fronts_steps : (hs : List K) (fr : List ℕ) → Inside t fr → map (left_of eq ls t) (fronts eq t hs fr) ≡ steps eq hs (map (left_of eq ls t) fr)
      fronts_steps [] fr a = refl
      fronts_steps (h ∷ hs) fr a = fronts_steps hs (front eq t h fr) (front_inside t h fr) ∙ ap (steps eq hs) (front_step h fr a)

      pub widest_peak : (hs : List K) (fr : List ℕ) → Inside t fr → widest eq t hs fr ≡ peak eq hs (map (left_of eq ls t) fr)
      widest_peak [] fr a = sym (length-map fr (left_of eq ls t))
      widest_peak (h ∷ hs) fr a =
          rw (length-map fr (left_of eq ls t))
          (ap (max (length fr)) (widest_peak hs (front eq t h fr) (front_inside t h fr) ∙ ap (peak eq hs) (front_step h fr a)))

      -- ---- from the root

      pub left-root : left_of eq ls t 0 ≡ ls
      unfolding left_at
      left-root = rw (run_root t)

      pub root-inside : Inside t (0 ∷ [])
      root-inside = (size_pos t, tt)

      pub root_fronts : (hs : List K) → map (left_of eq ls t) (fronts eq t hs (0 ∷ [])) ≡ steps eq hs (ls ∷ [])
      root_fronts hs = fronts_steps hs (0 ∷ []) root-inside ∙ ap (λ n. steps eq hs (n ∷ [])) left-root

      pub root_lengths : (hs : List K) → length (fronts eq t hs (0 ∷ [])) ≡ length (steps eq hs (ls ∷ []))
      root_lengths hs = sym (length-map (fronts eq t hs (0 ∷ [])) (left_of eq ls t)) ∙ ap length (root_fronts hs)

      pub root-inside_all : (hs : List K) → Inside t (fronts eq t hs (0 ∷ []))
      root-inside_all hs = fronts_inside t hs (0 ∷ []) root-inside

      pub root-distinct : (hs : List K) → Distinct (fronts eq t hs (0 ∷ []))
      root-distinct hs = fronts_distinct t hs (0 ∷ []) of.good (tt, tt)

      pub root-peak : (hs : List K) → widest eq t hs (0 ∷ []) ≡ peak eq hs (ls ∷ [])
      root-peak hs = widest_peak hs (0 ∷ []) root-inside ∙ ap (λ n. peak eq hs (n ∷ [])) left-root
