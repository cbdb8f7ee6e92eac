-- The original's walk over the final nodes collects the list that the walk over the lines does, and no frontier passes its limit.
use Prim.Native.Nat.{ℕ, ◌≤◌, ◌<◌}
use native.Mathlib.Omega.{arith}
use native.Mathlib.Decide.{ℕ_discrete}
use mathlib.Core.Path.{◌≡◌, refl, sym, ◌∙◌, ap}
use mathlib.Core.Logic.{inl}
use mathlib.Core.Bool.{Bool, true, false}
use mathlib.Core.List.{List, [], ◌∷◌, ◌++◌, map, append-nil, append_assoc}
use mathlib.Core.Option.{Option, none, some}
use lib.Dec.{eqb}
use lib.ListN.{length, get_or, length-append}
use borrow.Author.Tests.{eq-eqb, ne_eqb, lt-ltb}
use Rattle.subject_rules.specs.Choice.{pick}
use Rattle.subject_rules.specs.Text.{tokens}
use Rattle.subject_rules.specs.Fnv.{fnv}
use Rattle.subject_rules.proofs.SameGrammar.{split-tokens}
use Rattle.sublist_tree.specs.Lists.{All, concat}
use Rattle.sublist_tree.specs.Tree.{star, lit, Line, ends, walk, worst}
use Rattle.sublist_tree.proofs.Fork.{Within, peak-worst}
use Rattle.sublist_tree.proofs.Bytes.{eqb_sound, eqb_whole}
use Rattle.sublist_trie.proofs.Trie.{size, child, built, keep, front}
use Rattle.sublist_trie.proofs.Children.{built_for}
use Rattle.sublist_tree.proofs.Members.{Distinct, All-in, All-at, in_left, in_right}
use Rattle.sublist_trie.proofs.Growth.{good_built}
use Rattle.sublist_trie.proofs.For.{left_of}
use Rattle.sublist_trie.proofs.Frontier.{Inside, widest, front_inside, front_distinct, left-root, root-inside, root-peak}
use Rattle.sublist_trie.proofs.Walks.{walk_by, walk_by_lem}
use Rattle.sublist_original.specs.Original.{Ok, Std, Literal, Sublist, push_unique_capped, push_some, collect_range, each_live, child_at, literal_child, each_nid, each_level, match_into}
use Rattle.sublist_original.proofs.Indexing.{index_in, index_found, slice_in, contains_none}
use Rattle.sublist_original.proofs.Library.{each_in}
use Rattle.sublist_original.proofs.Scratches.{optional, optional_some}
use Rattle.sublist_original.proofs.Flattening.{Range, no_node}
use Rattle.sublist_original.proofs.Tables.{Tabled}

-- ---- the next frontier

distinct-left : (xs ys : List ℕ) → Distinct (xs ++ ys) → Distinct xs
distinct-left [] ys d = tt
distinct-left (x ∷ xs) ys d = (All-in (λ y. x ≡ y → ⊥) xs (λ y m. All-at (λ z. x ≡ z → ⊥) (xs ++ ys) d.0 y (in_left y xs ys m)), distinct-left xs ys d.1)

distinct-last : (xs : List ℕ) (j : ℕ) → Distinct (xs ++ (j ∷ [])) → All (λ x. x ≡ j → ⊥) xs
distinct-last [] j d = tt
distinct-last (x ∷ xs) j d = (All-at (λ y. x ≡ y → ⊥) (xs ++ (j ∷ [])) d.0 j (in_right j xs (j ∷ []) (inl refl)), distinct-last xs j d.1)

keep_append : (j : ℕ) (l : List ℕ) → keep eqb j l ≡ keep eqb j [] ++ l
keep_append j l = go (eqb j 0)
  where
    go : (b : Bool) → pick b l (j ∷ l) ≡ pick b [] (j ∷ []) ++ l
    go true = refl
    go false = refl

-- a child that is there joins the frontier, which has room for it and has it not
push-child : (next : List ℕ) (j : ℕ) → Distinct (next ++ keep eqb j []) → length (next ++ keep eqb j []) ≤ 1024 → push_some next (optional j) ≡ Ok (next ++ keep eqb j [])
unfolding push_some push_unique_capped
push-child next j d l = go (ℕ_discrete j 0)
  where
    go : Dec (j ≡ 0) → push_some next (optional j) ≡ Ok (next ++ keep eqb j [])
    go (yes z) = rw (eq-eqb j 0 z, append-nil next)
    go (no ne) =
        let off = ne_eqb j 0 ne in
        let room : length next < 1024 = omega (arith, length-append next (j ∷ []), rw off at l) in
        rw (off, lt-ltb (length next) 1024 room, contains_none next j (distinct-last next j (rw off at d)))

-- the targets in a range
collected : (table : Sublist ℕ) (r : ℕ × ℕ) (xs out : List ℕ) → Range table.targets r xs → collect_range table r out ≡ Ok (out ++ xs)
unfolding collect_range
collected table r xs out a = rw (slice_in table.targets r.0 r.1 a.0 a.1, a.2)

module _ (std : Std) (ls : List (Line ℕ)) (table : Sublist ℕ) (r : Tabled ls table.nodes table.targets) where
  abbrev tails : ℕ → List ℕ
  tails i = ends true (left_of eqb ls (built eqb ls) i)

  abbrev exacts : ℕ → List ℕ
  exacts i = ends false (left_of eqb ls (built eqb ls) i)

  -- the search finds the child
  child-found : (i h : ℕ) → i < size (built eqb ls) → literal_child std (get_or table.nodes i no_node) h ≡ Ok (optional (child eqb (built eqb ls) i (lit h)))
  unfolding literal_child child_at
  child-found i h l = go (std.binary_search_by_key literals h) refl
    where
      literals : List Literal
      literals = (get_or table.nodes i no_node).literals

      go : (o : Option ℕ) → std.binary_search_by_key literals h ≡ o → child_at literals o ≡ Ok (optional (child eqb (built eqb ls) i (lit h)))
      go (some at) e =
          let f = std.found literals h at (r.ascending i l) e in
          let x = f.0 in
          let w = r.child_of_literal i x.0 x.1 l (index_found literals at x f.1) in
          let same : child eqb (built eqb ls) i (lit h) ≡ x.1 = ap (λ g. child eqb (built eqb ls) i (lit g)) (sym f.2) ∙ w.0 in
          rw (f.1, same, optional_some x.1 w.1)
      go none e = at (ℕ_discrete (child eqb (built eqb ls) i (lit h)) 0)
        where
          at : Dec (child eqb (built eqb ls) i (lit h) ≡ 0) → Ok none ≡ Ok (optional (child eqb (built eqb ls) i (lit h)))
          at (yes z) = rw (eq-eqb (child eqb (built eqb ls) i (lit h)) 0 z)
          at (no ne) =
              absurd (each_in (λ x. x.0 ≡ h → ⊥) literals (std.missing literals h (r.ascending i l) e) (h, child eqb (built eqb ls) i (lit h)) (r.literal_of_child i h l ne) refl)

  in_nodes : (i : ℕ) → i < size (built eqb ls) → i < length table.nodes
  in_nodes i l = omega (arith, r.many)

  -- one node of the frontier
  module _ (h i : ℕ) (l : i < size (built eqb ls)) (fr out next : List ℕ) where
    abbrev one_more : List ℕ
    one_more = next ++ keep eqb (child eqb (built eqb ls) i (lit h)) []

    abbrev two_more : List ℕ
    two_more = one_more ++ keep eqb (child eqb (built eqb ls) i star) []

    node_step : Distinct two_more → length two_more ≤ 1024
        → each_nid std table h (i ∷ fr) out next ≡ each_nid std table h fr (out ++ tails i) two_more
    unfolding each_nid
    node_step d m =
        rw (
          index_in table.nodes i no_node (in_nodes i l),
          collected table (get_or table.nodes i no_node).gt_terminal (tails i) out (r.tails i l),
          child-found i h l,
          push-child next (child eqb (built eqb ls) i (lit h)) (distinct-left one_more (keep eqb (child eqb (built eqb ls) i star) []) d)
              (omega (arith, length-append one_more (keep eqb (child eqb (built eqb ls) i star) []))),
          r.stars i l,
          push-child one_more (child eqb (built eqb ls) i star) d m,
        )

    -- the frontier that comes of it
    front_more : next ++ front eqb (built eqb ls) h (i ∷ fr) ≡ two_more ++ front eqb (built eqb ls) h fr
    unfolding front
    front_more =
        rw (
          keep_append (child eqb (built eqb ls) i (lit h)) (keep eqb (child eqb (built eqb ls) i star) (front eqb (built eqb ls) h fr)),
          keep_append (child eqb (built eqb ls) i star) (front eqb (built eqb ls) h fr),
        )
        (sym (simp append_assoc))

  -- the frontier, for one token
  no_nid : (h : ℕ) (out next : List ℕ) → each_nid std table h [] out next ≡ Ok (out ++ [], next ++ front eqb (built eqb ls) h [])
  unfolding each_nid front
  no_nid h out next = rw (append-nil out, append-nil next)

  all_nids : (h : ℕ) (fr out next : List ℕ) → Inside (built eqb ls) fr → Distinct (next ++ front eqb (built eqb ls) h fr) → length (next ++ front eqb (built eqb ls) h fr) ≤ 1024
      → each_nid std table h fr out next ≡ Ok (out ++ concat (map tails fr), next ++ front eqb (built eqb ls) h fr)
  all_nids h [] out next a d m = no_nid h out next
  all_nids h (i ∷ fr) out next a d m =
      let two = two_more h i a.0 fr out next in
      let e : next ++ front eqb (built eqb ls) h (i ∷ fr) ≡ two ++ front eqb (built eqb ls) h fr = front_more h i a.0 fr out next in
      let d' : Distinct (two ++ front eqb (built eqb ls) h fr) = rw e at d in
      let m' : length (two ++ front eqb (built eqb ls) h fr) ≤ 1024 = rw e at m in
      rw (e, ← append_assoc out (tails i) (concat (map tails fr)))
      (node_step h i a.0 fr out next (distinct-left two (front eqb (built eqb ls) h fr) d') (omega (arith, length-append two (front eqb (built eqb ls) h fr)))
      ∙ all_nids h fr (out ++ tails i) two a.1 d' m')

  -- the end of the subject
  all_live : (fr out : List ℕ) → Inside (built eqb ls) fr → each_live table fr out ≡ Ok (out ++ concat (map exacts fr))
  unfolding each_live
  all_live [] out a = rw (append-nil out)
  all_live (i ∷ fr) out a =
      rw (index_in table.nodes i no_node (in_nodes i a.0), collected table (get_or table.nodes i no_node).terminal (exacts i) out (r.exacts i a.0))
      (all_live fr (out ++ exacts i) a.1 ∙ ap Ok (append_assoc out (exacts i) (concat (map exacts fr))))

  -- an empty frontier collects nothing more
  walk_none : (hs : List ℕ) → walk_by eqb tails exacts (built eqb ls) hs [] ≡ []
  unfolding front
  walk_none [] = refl
  walk_none (h ∷ hs) = walk_none hs

  widest_first : (hs fr : List ℕ) → length fr ≤ widest eqb (built eqb ls) hs fr
  widest_first [] fr = omega arith
  widest_first (h ∷ hs) fr = omega arith

  no_more : (fr : List ℕ) → length fr ≡ 0 → fr ≡ []
  no_more [] e = refl
  no_more (i ∷ fr) e = absurd (omega arith)

  -- the tokens
  all_levels : (toks : List (List ℕ)) (out fr : List ℕ) → Inside (built eqb ls) fr → Distinct fr → widest eqb (built eqb ls) (map fnv toks) fr ≤ 1024
      → each_level std table toks out fr ≡ Ok (out ++ walk_by eqb tails exacts (built eqb ls) (map fnv toks) fr)
  unfolding each_level
  all_levels [] out fr a d w = all_live fr out a
  all_levels (token ∷ toks) out fr a d w =
      let next = front eqb (built eqb ls) (fnv token) fr in
      let d' = front_distinct eqb eqb_sound eqb_whole (built eqb ls) (fnv token) fr (good_built eqb eqb_sound eqb_whole ls) d in
      let few : length next ≤ 1024 = omega (arith, widest_first (map fnv toks) next) in
      rw (all_nids (fnv token) fr out [] a d' few, ← append_assoc out (concat (map tails fr)) (walk_by eqb tails exacts (built eqb ls) (map fnv toks) next))
      (go (ℕ_discrete (length next) 0) (all_levels toks (out ++ concat (map tails fr)) next (front_inside eqb (built eqb ls) (fnv token) fr) d' (omega arith)))
    where
      next : List ℕ
      next = front eqb (built eqb ls) (fnv token) fr

      sofar : List ℕ
      sofar = out ++ concat (map tails fr)

      go : Dec (length next ≡ 0) → each_level std table toks sofar next ≡ Ok (sofar ++ walk_by eqb tails exacts (built eqb ls) (map fnv toks) next)
          → pick (eqb (length next) 0) (Ok sofar) (each_level std table toks sofar next) ≡ Ok (sofar ++ walk_by eqb tails exacts (built eqb ls) (map fnv toks) next)
      go (yes z) ih = rw (eq-eqb (length next) 0 z, no_more next z, walk_none (map fnv toks), append-nil sofar)
      go (no ne) ih = rw (ne_eqb (length next) 0 ne) ih

  -- from the root alone, of a table whose worst case is within the limit
  pub match_found : (d : ℕ) → Within d ls → worst eqb d ls ≤ 1024 → (subject out : List ℕ)
      → match_into std table subject out ≡ Ok (walk eqb (map fnv (tokens subject)) (ls ∷ []))
  unfolding match_into
  match_found d within fork subject out =
      let hs = map fnv (tokens subject) in
      let few : widest eqb (built eqb ls) hs (0 ∷ []) ≤ 1024 = omega (arith, root-peak eqb eqb_sound eqb_whole ls (built eqb ls) (built_for eqb eqb_sound eqb_whole ls) hs, peak-worst eqb eqb_sound d hs ls within) in
      rw (split-tokens subject, all_levels (tokens subject) [] (0 ∷ []) (root-inside eqb eqb_sound eqb_whole ls (built eqb ls) (built_for eqb eqb_sound eqb_whole ls)) (tt, tt) few)
      (ap Ok
      (walk_by_lem eqb eqb_sound eqb_whole ls (built eqb ls) (built_for eqb eqb_sound eqb_whole ls) tails exacts (λ i l. refl) (λ i l. refl) hs (0 ∷ []) (root-inside eqb eqb_sound eqb_whole ls (built eqb ls) (built_for eqb eqb_sound eqb_whole ls))
      ∙ ap (λ n. walk eqb hs (n ∷ [])) (left-root eqb eqb_sound eqb_whole ls (built eqb ls) (built_for eqb eqb_sound eqb_whole ls))))
