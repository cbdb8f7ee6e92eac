-- The original's nodes hold a history of nodes: the literals of node i are the hashes and numbers of its literal children, and its star child is its `*` child.
use Prim.Native.Nat.{ℕ, suc, ◌<◌}
use native.Mathlib.Omega.{arith}
use native.Mathlib.Decide.{ℕ_discrete}
use mathlib.Core.Path.{◌≡◌, refl, sym, ◌∙◌, ap}
use mathlib.Core.Logic.{◌⊎◌, inl, inr}
use mathlib.Core.Bool.{Bool, true, false}
use mathlib.Core.List.{List, [], ◌∷◌, ◌++◌, map-append}
use mathlib.Core.Option.{Option, none, some}
use lib.Dec.{eqb}
use lib.ListN.{length, get_or, set, length-set}
use lib.Seq.{get_or-set_same, get_or-set_other}
use borrow.Author.Tests.{eq-eqb, ne_eqb, eqb-true, eqb-false}
use Rattle.subject_rules.specs.Choice.{pick}
use Rattle.sublist_tree.specs.Lists.{All}
use Rattle.sublist_tree.specs.Tree.{Key, star, lit, key_is}
use Rattle.sublist_tree.proofs.Sorting.{All-append}
use Rattle.sublist_tree.proofs.Bytes.{eqb_sound, eqb_whole}
use Rattle.sublist_trie.proofs.Trie.{Trie, root, grow, size, child, Good}
use Rattle.sublist_tree.proofs.Members.{In, Distinct, All-in, in_left, in_right, in_append}
use Rattle.sublist_trie.proofs.Runs.{size_pos, child-new, child-kept}
use Rattle.sublist_original.specs.Original.{Literal, find, NodeScratch, new_scratch, push, push_literal, set_star}
use Rattle.sublist_original.proofs.Library.{keys, keys_in}
use Rattle.sublist_original.proofs.Indexing.{push_default, push-length}

-- the number of a child, where 0 is none
abbrev pub optional : ℕ → Option ℕ
optional j = pick (eqb j 0) none (some j)

pub optional_some : (j : ℕ) → (j ≡ 0 → ⊥) → optional j ≡ some j
optional_some j ne = rw (ne_eqb j 0 ne)

pub record Nodes (ns : List NodeScratch) (t : Trie ℕ) : Type 0 where
  pub good : Good eqb t
  pub many : length ns ≡ size t
  pub child_of_literal : (i h c : ℕ) → In {A = Literal} (h, c) (get_or ns i new_scratch).literals → (child eqb t i (lit h) ≡ c) × (c ≡ 0 → ⊥)
  pub literal_of_child : (i h : ℕ) → (child eqb t i (lit h) ≡ 0 → ⊥) → In {A = Literal} (h, child eqb t i (lit h)) (get_or ns i new_scratch).literals
  pub apart : (i : ℕ) → Distinct (keys (get_or ns i new_scratch).literals)
  pub stars : (i : ℕ) → (get_or ns i new_scratch).star_child ≡ optional (child eqb t i star)

-- ---- the search for a literal

find_some : (xs : List Literal) (h c : ℕ) → find xs h ≡ some c → In {A = Literal} (h, c) xs
find_some [] h c e = absurd (cc)
find_some ((g, n) ∷ xs) h c e = go (eqb g h) refl e (find_some xs h c)
  where
    go : (b : Bool) → eqb g h ≡ b → pick b (some n) (find xs h) ≡ some c → (find xs h ≡ some c → In {A = Literal} (h, c) xs) → In {A = Literal} (h, c) ((g, n) ∷ xs)
    go true b e ih = let same : g ≡ h = eqb-true g h b in let at : n ≡ c = cc in inl (cc)
    go false b e ih = inr (ih e)

find_none : (xs : List Literal) (h c : ℕ) → find xs h ≡ none → In {A = Literal} (h, c) xs → ⊥
find_none [] h c e m = m
find_none ((g, n) ∷ xs) h c e m = go (eqb g h) refl e m (find_none xs h c)
  where
    go : (b : Bool) → eqb g h ≡ b → pick b (some n) (find xs h) ≡ none → In {A = Literal} (h, c) ((g, n) ∷ xs) → (find xs h ≡ none → In {A = Literal} (h, c) xs → ⊥) → ⊥
    go true b e m ih = cc
    go false b e (inl d) ih = eqb-false g h b (sym (ap (λ (x : Literal). x.0) d))
    go false b e (inr m) ih = ih e m

-- the first literal with the hash leads to the child
pub find-child : (ns : List NodeScratch) (t : Trie ℕ) → Nodes ns t → (i h : ℕ) → find (get_or ns i new_scratch).literals h ≡ optional (child eqb t i (lit h))
find-child ns t r i h = go (find (get_or ns i new_scratch).literals h) refl
  where
    go : (o : Option ℕ) → find (get_or ns i new_scratch).literals h ≡ o → o ≡ optional (child eqb t i (lit h))
    go (some c) e =
        let w = r.child_of_literal i h c (find_some (get_or ns i new_scratch).literals h c e) in
        rw w.0 (sym (optional_some c w.1))
    go none e = at (ℕ_discrete (child eqb t i (lit h)) 0)
      where
        at : Dec (child eqb t i (lit h) ≡ 0) → none ≡ optional (child eqb t i (lit h))
        at (yes z) = rw (eq-eqb (child eqb t i (lit h)) 0 z)
        at (no ne) = absurd (find_none (get_or ns i new_scratch).literals h (child eqb t i (lit h)) e (r.literal_of_child i h ne))

distinct_snoc : (xs : List ℕ) (k : ℕ) → Distinct xs → All (λ x. x ≡ k → ⊥) xs → Distinct (xs ++ (k ∷ []))
distinct_snoc [] k d a = (tt, tt)
distinct_snoc (x ∷ xs) k d a = (All-append (λ y. x ≡ y → ⊥) xs (k ∷ []) d.0 (a.0, tt), distinct_snoc xs k d.1 a.1)

-- ---- one node more

module _ (t : Trie ℕ) (p : ℕ) where
  pub child-elsewhere : (l : Key ℕ) (i : ℕ) (k : Key ℕ) → (p ≡ i → ⊥) → child eqb (grow t p l) i k ≡ child eqb t i k
  unfolding child
  child-elsewhere l i k ne = rw (ne_eqb p i ne)

  child_other : (l : Key ℕ) (i : ℕ) (k : Key ℕ) → key_is eqb k l ≡ false → child eqb (grow t p l) i k ≡ child eqb t i k
  unfolding child
  child_other l i k e = rw e (go (eqb p i))
    where
      go : (b : Bool) → pick b (child eqb t i k) (child eqb t i k) ≡ child eqb t i k
      go true = refl
      go false = refl

-- a new node at the end, and node p changed
abbrev pub grown : List NodeScratch → ℕ → (NodeScratch → NodeScratch) → List NodeScratch
grown ns p f = set (push ns new_scratch) p (f (get_or (push ns new_scratch) p new_scratch))

module _ (ns : List NodeScratch) (p : ℕ) (f : NodeScratch → NodeScratch) where
  grown-length : length (grown ns p f) ≡ suc (length ns)
  grown-length = length-set (push ns new_scratch) p (f (get_or (push ns new_scratch) p new_scratch)) ∙ push-length ns new_scratch

  grown_other : (i : ℕ) → (p ≡ i → ⊥) → get_or (grown ns p f) i new_scratch ≡ get_or ns i new_scratch
  grown_other i ne =
      get_or-set_other (push ns new_scratch) p i (f (get_or (push ns new_scratch) p new_scratch)) new_scratch (λ e. ne (sym e)) ∙ push_default ns new_scratch i

  grown-same : p < length ns → get_or (grown ns p f) p new_scratch ≡ f (get_or ns p new_scratch)
  grown-same h =
      get_or-set_same (push ns new_scratch) p (f (get_or (push ns new_scratch) p new_scratch)) new_scratch (omega (arith, push-length ns new_scratch))
      ∙ ap f (push_default ns new_scratch p)

module _ (ns : List NodeScratch) (t : Trie ℕ) (r : Nodes ns t) (p : ℕ) (inside : p < size t) where
  within : p < length ns
  within = omega (arith, r.many)

  -- a literal child of node p
  module _ (h : ℕ) (free : child eqb t p (lit h) ≡ 0) where
    abbrev after : List NodeScratch
    after = grown ns p (push_literal (h, size t))

    kept : (i : ℕ) (k : Key ℕ) → (child eqb t i k ≡ 0 → ⊥) → child eqb (grow t p (lit h)) i k ≡ child eqb t i k
    kept i k ne = child-kept eqb eqb_sound eqb_whole t p (lit h) i k free ne

    made : child eqb (grow t p (lit h)) p (lit h) ≡ size t
    made = child-new eqb eqb_sound eqb_whole t p (lit h)

    old_child : (i g c : ℕ) → In {A = Literal} (g, c) (get_or ns i new_scratch).literals → (child eqb (grow t p (lit h)) i (lit g) ≡ c) × (c ≡ 0 → ⊥)
    old_child i g c m = let w = r.child_of_literal i g c m in (kept i (lit g) (λ z. w.1 (sym w.0 ∙ z)) ∙ w.0, w.1)

    has_child : (i g c : ℕ) → In {A = Literal} (g, c) (get_or after i new_scratch).literals → (child eqb (grow t p (lit h)) i (lit g) ≡ c) × (c ≡ 0 → ⊥)
    has_child i g c m = go (ℕ_discrete p i)
      where
        new : In {A = Literal} (g, c) (get_or ns p new_scratch).literals ⊎ In {A = Literal} (g, c) ((h, size t) ∷ []) → (child eqb (grow t p (lit h)) p (lit g) ≡ c) × (c ≡ 0 → ⊥)
        new (inl n) = old_child p g c n
        new (inr (inl e)) =
            let key : g ≡ h = ap (λ (x : Literal). x.0) e in
            let num : c ≡ size t = ap (λ (x : Literal). x.1) e in
            let pos = size_pos t in
            (rw (key, num) made, omega arith)
        new (inr (inr n)) = absurd n

        go : Dec (p ≡ i) → (child eqb (grow t p (lit h)) i (lit g) ≡ c) × (c ≡ 0 → ⊥)
        go (yes e) =
            rw (← e) (new (in_append (g, c) (get_or ns p new_scratch).literals ((h, size t) ∷ []) (rw (← e, grown-same ns p (push_literal (h, size t)) within) at m)))
        go (no ne) = old_child i g c (rw (grown_other ns p (push_literal (h, size t)) i ne) at m)

    has_literal : (i g : ℕ) → (child eqb (grow t p (lit h)) i (lit g) ≡ 0 → ⊥) → In {A = Literal} (g, child eqb (grow t p (lit h)) i (lit g)) (get_or after i new_scratch).literals
    has_literal i g ne = go (ℕ_discrete p i)
      where
        same : (child eqb (grow t p (lit h)) p (lit g) ≡ 0 → ⊥) → Dec (g ≡ h) → In {A = Literal} (g, child eqb (grow t p (lit h)) p (lit g)) (push (get_or ns p new_scratch).literals (h, size t))
        same ne' (yes e) = rw (e, made) (in_right (h, size t) (get_or ns p new_scratch).literals ((h, size t) ∷ []) (inl refl))
        same ne' (no d) =
            let old = child_other t p (lit h) p (lit g) (ne_eqb g h d) in
            rw old (in_left (g, child eqb t p (lit g)) (get_or ns p new_scratch).literals ((h, size t) ∷ []) (r.literal_of_child p g (λ z. ne' (old ∙ z))))

        go : Dec (p ≡ i) → In {A = Literal} (g, child eqb (grow t p (lit h)) i (lit g)) (get_or after i new_scratch).literals
        go (yes e) = rw (← e, grown-same ns p (push_literal (h, size t)) within) (same (rw (← e) at ne) (ℕ_discrete g h))
        go (no d) =
            rw (grown_other ns p (push_literal (h, size t)) i d, child-elsewhere t p (lit h) i (lit g) d) (r.literal_of_child i g (λ z. ne (child-elsewhere t p (lit h) i (lit g) d ∙ z)))

    has_star : (i : ℕ) → (get_or after i new_scratch).star_child ≡ optional (child eqb (grow t p (lit h)) i star)
    has_star i = rw (child_other t p (lit h) i star refl) (go (ℕ_discrete p i))
      where
        go : Dec (p ≡ i) → (get_or after i new_scratch).star_child ≡ optional (child eqb t i star)
        go (yes e) = rw (← e, grown-same ns p (push_literal (h, size t)) within) (r.stars p)
        go (no d) = rw (grown_other ns p (push_literal (h, size t)) i d) (r.stars i)

    -- its hash is new there
    still_apart : (i : ℕ) → Distinct (keys (get_or after i new_scratch).literals)
    still_apart i = go (ℕ_discrete p i)
      where
        others : (g : ℕ) → In g (keys (get_or ns p new_scratch).literals) → g ≡ h → ⊥
        others g m e =
            let w = keys_in (get_or ns p new_scratch).literals g m in
            let v = r.child_of_literal p g w.0 w.1 in
            v.1 (sym v.0 ∙ ap (λ q. child eqb t p (lit q)) e ∙ free)

        go : Dec (p ≡ i) → Distinct (keys (get_or after i new_scratch).literals)
        go (yes e) =
            rw (← e, grown-same ns p (push_literal (h, size t)) within, map-append (λ (x : Literal). x.0) (get_or ns p new_scratch).literals ((h, size t) ∷ []))
            (distinct_snoc (keys (get_or ns p new_scratch).literals) h (r.apart p) (All-in (λ g. g ≡ h → ⊥) (keys (get_or ns p new_scratch).literals) others))
        go (no d) = rw (grown_other ns p (push_literal (h, size t)) i d) (r.apart i)

    pub nodes_literal : Nodes after (grow t p (lit h))
    unfolding Good size
    nodes_literal = record {
      good = (inside, free, r.good);
      many = grown-length ns p (push_literal (h, size t)) ∙ ap suc r.many;
      child_of_literal = has_child;
      literal_of_child = has_literal;
      apart = still_apart;
      stars = has_star;
    }

  -- a `*` child of node p
  module _ (free : child eqb t p star ≡ 0) where
    abbrev after-star : List NodeScratch
    after-star = grown ns p (set_star (size t))

    same-literals : (i : ℕ) → (get_or after-star i new_scratch).literals ≡ (get_or ns i new_scratch).literals
    same-literals i = go (ℕ_discrete p i)
      where
        go : Dec (p ≡ i) → (get_or after-star i new_scratch).literals ≡ (get_or ns i new_scratch).literals
        go (yes e) = rw (← e, grown-same ns p (set_star (size t)) within)
        go (no d) = rw (grown_other ns p (set_star (size t)) i d)

    star_there : (i : ℕ) → (get_or after-star i new_scratch).star_child ≡ optional (child eqb (grow t p star) i star)
    star_there i = go (ℕ_discrete p i)
      where
        go : Dec (p ≡ i) → (get_or after-star i new_scratch).star_child ≡ optional (child eqb (grow t p star) i star)
        go (yes e) =
            let pos = size_pos t in
            rw (← e, grown-same ns p (set_star (size t)) within, child-new eqb eqb_sound eqb_whole t p star) (sym (optional_some (size t) (omega arith)))
        go (no d) = rw (grown_other ns p (set_star (size t)) i d, child-elsewhere t p star i star d) (r.stars i)

    pub nodes-star : Nodes after-star (grow t p star)
    unfolding Good size
    nodes-star = record {
      good = (inside, free, r.good);
      many = grown-length ns p (set_star (size t)) ∙ ap suc r.many;
      child_of_literal = λ i h c m. rw (child_other t p star i (lit h) refl) (r.child_of_literal i h c (rw (same-literals i) at m));
      literal_of_child = λ i h ne. rw (child_other t p star i (lit h) refl, same-literals i) (r.literal_of_child i h (rw (child_other t p star i (lit h) refl) at ne));
      apart = λ i. rw (same-literals i) (r.apart i);
      stars = star_there;
    }

-- the root alone
pub nodes-root : Nodes (new_scratch ∷ []) root
unfolding Good size child
nodes-root = record {
  good = tt;
  many = refl;
  child_of_literal = λ i h c m. absurd (none_in i h c m);
  literal_of_child = λ i h ne. absurd (ne refl);
  apart = λ i. rw (push_default [] new_scratch i) tt;
  stars = λ i. ap (λ (n : NodeScratch). n.star_child) (push_default [] new_scratch i);
}
  where
    none_in : (i h c : ℕ) → In {A = Literal} (h, c) (get_or (new_scratch ∷ []) i new_scratch).literals → ⊥
    none_in i h c m = rw (push_default [] new_scratch i) at m
