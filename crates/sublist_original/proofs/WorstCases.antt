-- The original's falling pass over the final nodes gives each node the worst case of the lines left below it.
use Prim.Native.Nat.{ℕ, zero, suc, ◌+◌, ◌≤◌, ◌<◌, max}
use native.Mathlib.Omega.{arith}
use native.Mathlib.Decide.{ℕ_discrete}
use mathlib.Core.Path.{◌≡◌, refl, sym, ◌∙◌, ap}
use mathlib.Core.Logic.{inl, inr}
use mathlib.Core.Bool.{Bool, true, false, ◌&&◌}
use mathlib.Core.List.{List, [], ◌∷◌, map}
use lib.Dec.{eqb, ltb}
use lib.ListN.{length, get_or, set, replicate, length-set, length-replicate}
use lib.Seq.{get_or-set_same, get_or-set_other}
use borrow.Author.Tests.{eq-eqb, ltb-false}
use Rattle.subject_rules.specs.Original.{when◌then◌else◌}
use Rattle.sublist_tree.specs.Lists.{largest}
use Rattle.sublist_tree.specs.Tree.{Key, star, lit, Line, if_any, below, heads, worst}
use Rattle.sublist_tree.proofs.Fork.{Within, worst_fuel}
use Rattle.sublist_tree.proofs.Bytes.{eqb_sound, eqb_whole}
use Rattle.sublist_trie.proofs.Trie.{size, run, child, built}
use Rattle.sublist_trie.proofs.Children.{built_for}
use Rattle.sublist_tree.proofs.Members.{In}
use Rattle.sublist_trie.proofs.Runs.{size_pos, child_less, child_parent}
use Rattle.sublist_trie.proofs.Growth.{good_built}
use Rattle.sublist_trie.proofs.For.{left_of, child_none, child_some}
use Rattle.sublist_trie.proofs.Frontier.{left-root}
use Rattle.sublist_trie.proofs.Heads.{if_any_some, within-left, heads_reach, heads_least}
use Rattle.sublist_original.specs.Original.{Ok, Literal, Node, best_literal, star_of, deeper, each_id, first_or, worst_case_frontier}
use Rattle.sublist_original.proofs.Indexing.{index_in, change_in}
use Rattle.sublist_original.proofs.Scratches.{optional, optional_some}
use Rattle.sublist_original.proofs.Flattening.{no_node}
use Rattle.sublist_original.proofs.Tables.{Tabled}

-- ---- one node's numbers

-- the largest number of the children
abbrev best : List ℕ → List Literal → ℕ
best wcf [] = 0
best wcf ((h, c) ∷ xs) = max (get_or wcf c 0) (best wcf xs)

best_in : (wcf : List ℕ) (xs : List Literal) → ((h c : ℕ) → In {A = Literal} (h, c) xs → c < length wcf) → best_literal wcf xs ≡ Ok (best wcf xs)
unfolding best_literal
best_in wcf [] f = refl
best_in wcf ((h, c) ∷ xs) f = rw (index_in wcf c 0 (f h c (inl refl)), best_in wcf xs (λ g d m. f g d (inr m)))

best_reach : (wcf : List ℕ) (xs : List Literal) (h c : ℕ) → In {A = Literal} (h, c) xs → get_or wcf c 0 ≤ best wcf xs
best_reach wcf [] h c m = absurd m
best_reach wcf ((g, d) ∷ xs) h c (inl e) = let same : c ≡ d = ap (λ (x : Literal). x.1) e in omega (arith, ap (λ n. get_or wcf n 0) same)
best_reach wcf ((g, d) ∷ xs) h c (inr m) = omega (arith, best_reach wcf xs h c m)

best_least : (wcf : List ℕ) (xs : List Literal) (b : ℕ) → ((h c : ℕ) → In {A = Literal} (h, c) xs → get_or wcf c 0 ≤ b) → best wcf xs ≤ b
best_least wcf [] b f = omega arith
best_least wcf ((h, c) ∷ xs) b f = omega (arith, f h c (inl refl), best_least wcf xs b (λ g d m. f g d (inr m)))

-- the original's choice between sum and maximum is the sum
deeper-sum : (s l : ℕ) → max (deeper s l) 1 ≡ max 1 (s + l)
unfolding deeper
deeper-sum s l = go (ltb 0 s) refl (ltb 0 l) refl
  where
    go : (b : Bool) → ltb 0 s ≡ b → (c : Bool) → ltb 0 l ≡ c → max (when b && c then s + l else max s l) 1 ≡ max 1 (s + l)
    go true e true d = omega arith
    go true e false d = omega (arith, ltb-false 0 l d)
    go false e c d = omega (arith, ltb-false 0 s e)

-- ---- the pass

module _ (d : ℕ) (ls : List (Line ℕ)) (within : Within d ls) (ns : List Node) (ts : List ℕ) (r : Tabled ls ns ts) where
  -- the nodes from m on have their worst cases
  abbrev Done : ℕ → List ℕ → Type 0
  Done m wcf = (length wcf ≡ size (built eqb ls)) × ((j : ℕ) → m ≤ j → j < size (built eqb ls) → get_or wcf j 0 ≡ worst eqb d (left_of eqb ls (built eqb ls) j))

  abbrev literal_part : ℕ → ℕ
  literal_part i = largest (map (λ h. worst eqb d (below eqb (lit h) (left_of eqb ls (built eqb ls) i))) (heads eqb (left_of eqb ls (built eqb ls) i)))

  abbrev star_part : ℕ → ℕ
  star_part i = if_any (below eqb star (left_of eqb ls (built eqb ls) i)) (worst eqb d (below eqb star (left_of eqb ls (built eqb ls) i)))

  worst-step : (i : ℕ) → worst eqb d (left_of eqb ls (built eqb ls) i) ≡ max 1 (star_part i + literal_part i)
  unfolding worst
  worst-step i = sym (worst_fuel eqb d (left_of eqb ls (built eqb ls) i) (within-left eqb (run (built eqb ls) i) d ls within))

  -- node m, when those above it have theirs
  module _ (m : ℕ) (h : m < size (built eqb ls)) (wcf : List ℕ) (done : Done (suc m) wcf) where
    abbrev literals : List Literal
    literals = (get_or ns m no_node).literals

    -- a child is newer, and has its worst case
    child_has : (k : Key ℕ) → (child eqb (built eqb ls) m k ≡ 0 → ⊥)
        → (child eqb (built eqb ls) m k < length wcf) × (get_or wcf (child eqb (built eqb ls) m k) 0 ≡ worst eqb d (below eqb k (left_of eqb ls (built eqb ls) m)))
    child_has k ne =
        let newer = (child_parent eqb eqb_sound eqb_whole (built eqb ls) m k (good_built eqb eqb_sound eqb_whole ls) ne).0 in
        let less = child_less eqb (built eqb ls) m k in (
          omega (arith, done.0),
          done.1 (child eqb (built eqb ls) m k) newer less ∙ ap (worst eqb d) (child_some eqb eqb_sound eqb_whole ls (built eqb ls) (built_for eqb eqb_sound eqb_whole ls) m k ne).1,
        )

    literal_has : (g c : ℕ) → In {A = Literal} (g, c) literals → (c < length wcf) × (get_or wcf c 0 ≡ worst eqb d (below eqb (lit g) (left_of eqb ls (built eqb ls) m))) × (below eqb (lit g) (left_of eqb ls (built eqb ls) m) ≡ [] → ⊥)
    literal_has g c i =
        let w = r.child_of_literal m g c h i in
        let ne : child eqb (built eqb ls) m (lit g) ≡ 0 → ⊥ = λ z. w.1 (sym w.0 ∙ z) in
        let v = child_has (lit g) ne in
        (rw (← w.0) v.0, rw (← w.0) v.1, (child_some eqb eqb_sound eqb_whole ls (built eqb ls) (built_for eqb eqb_sound eqb_whole ls) m (lit g) ne).0)

    best_part : best wcf literals ≡ literal_part m
    best_part =
        omega (
          arith,
          best_least wcf literals (literal_part m) (λ g c i. let w = literal_has g c i in
              omega (arith, w.1, heads_reach eqb eqb_sound eqb_whole (λ q. worst eqb d (below eqb (lit q) (left_of eqb ls (built eqb ls) m))) g (left_of eqb ls (built eqb ls) m) w.2)),
          heads_least eqb eqb_sound eqb_whole (λ q. worst eqb d (below eqb (lit q) (left_of eqb ls (built eqb ls) m))) (best wcf literals) (left_of eqb ls (built eqb ls) m) (λ g ne. reach g (λ z. ne (child_none eqb eqb_sound eqb_whole ls (built eqb ls) (built_for eqb eqb_sound eqb_whole ls) m (lit g) h z))),
        )
      where
        reach : (g : ℕ) → (child eqb (built eqb ls) m (lit g) ≡ 0 → ⊥) → worst eqb d (below eqb (lit g) (left_of eqb ls (built eqb ls) m)) ≤ best wcf literals
        reach g ne = omega (arith, (child_has (lit g) ne).1, best_reach wcf literals g (child eqb (built eqb ls) m (lit g)) (r.literal_of_child m g h ne))

    star-part : star_of wcf (optional (child eqb (built eqb ls) m star)) ≡ Ok (star_part m)
    unfolding star_of
    star-part = go (ℕ_discrete (child eqb (built eqb ls) m star) 0)
      where
        go : Dec (child eqb (built eqb ls) m star ≡ 0) → star_of wcf (optional (child eqb (built eqb ls) m star)) ≡ Ok (star_part m)
        go (yes z) = rw (eq-eqb (child eqb (built eqb ls) m star) 0 z, child_none eqb eqb_sound eqb_whole ls (built eqb ls) (built_for eqb eqb_sound eqb_whole ls) m star h z)
        go (no ne) =
            let v = child_has star ne in
            rw (optional_some (child eqb (built eqb ls) m star) ne, index_in wcf (child eqb (built eqb ls) m star) 0 v.0, v.1)
            (ap Ok (sym (if_any_some (below eqb star (left_of eqb ls (built eqb ls) m)) (worst eqb d (below eqb star (left_of eqb ls (built eqb ls) m))) (child_some eqb eqb_sound eqb_whole ls (built eqb ls) (built_for eqb eqb_sound eqb_whole ls) m star ne).0)))

    abbrev after : List ℕ
    after = set wcf m (worst eqb d (left_of eqb ls (built eqb ls) m))

    one : each_id ns (suc m) wcf ≡ each_id ns m after
    unfolding each_id
    one =
        rw (
          index_in ns m no_node (omega (arith, r.many)),
          best_in wcf literals (λ g c i. (literal_has g c i).0),
          best_part,
          r.stars m h,
          star-part,
          deeper-sum (star_part m) (literal_part m),
          ← worst-step m,
          change_in wcf m (λ _. worst eqb d (left_of eqb ls (built eqb ls) m)) 0 (omega (arith, done.0)),
        )

    done_more : Done m after
    done_more = (length-set wcf m (worst eqb d (left_of eqb ls (built eqb ls) m)) ∙ done.0, λ j l o. go j l o (ℕ_discrete j m))
      where
        go : (j : ℕ) → m ≤ j → j < size (built eqb ls) → Dec (j ≡ m) → get_or after j 0 ≡ worst eqb d (left_of eqb ls (built eqb ls) j)
        go j l o (yes e) = rw e (get_or-set_same wcf m (worst eqb d (left_of eqb ls (built eqb ls) m)) 0 (omega (arith, done.0)))
        go j l o (no ne) = get_or-set_other wcf m j (worst eqb d (left_of eqb ls (built eqb ls) m)) 0 ne ∙ done.1 j (omega arith) o

  -- all nodes
  all_ids : (m : ℕ) (wcf : List ℕ) → m ≤ size (built eqb ls) → Done m wcf → (out : List ℕ) × (each_id ns m wcf ≡ Ok out) × Done 0 out
  unfolding each_id
  all_ids zero wcf l done = (wcf, refl, done)
  all_ids (suc m) wcf l done = let w = all_ids m (after m l wcf done) (omega arith) (done_more m l wcf done) in (w.0, one m l wcf done ∙ w.1, w.2)

  first-is : (wcf : List ℕ) → 0 < length wcf → first_or 1 wcf ≡ get_or wcf 0 0
  first-is [] h = absurd (omega arith)
  first-is (x ∷ xs) h = refl

  -- the root's
  pub worst-found : worst_case_frontier ns ≡ Ok (worst eqb d ls)
  unfolding worst_case_frontier
  worst-found =
      let n = size (built eqb ls) in
      let w = all_ids (length ns) (replicate (length ns) 0) (omega (arith, r.many)) (length-replicate (length ns) 0 ∙ r.many, λ j l o. absurd (omega (arith, r.many))) in
      let pos = size_pos (built eqb ls) in
      rw (w.1, first-is w.0 (omega (arith, w.2.0)), w.2.1 0 (omega arith) pos, left-root eqb eqb_sound eqb_whole ls (built eqb ls) (built_for eqb eqb_sound eqb_whole ls))
