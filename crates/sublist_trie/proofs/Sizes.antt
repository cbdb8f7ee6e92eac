-- The tree of a list of lines has as many nodes as there are distinct runs.
use Prim.Native.Nat.{ℕ, zero, suc, ◌≤◌, ◌<◌}
use native.Mathlib.Omega.{arith}
use native.Mathlib.Decide.{ℕ_discrete}
use mathlib.Core.Path.{◌≡◌, refl, sym, ◌∙◌, ap, subst}
use mathlib.Core.Logic.{◌⊎◌, inl, inr}
use mathlib.Core.Bool.{Bool, true}
use mathlib.Core.List.{List, [], ◌∷◌, ◌++◌, map, cons-ne-nil}
use lib.ListN.{length}
use Rattle.sublist_tree.specs.Lists.{prefixes}
use Rattle.sublist_tree.specs.Tree.{Key, Line, line, count, run_is, left_at}
use Rattle.sublist_tree.specs.Nodes.{runs, nodes}
use Rattle.sublist_tree.proofs.Fork.{Within}
use Rattle.sublist_tree.proofs.Order.{key_is-same}
use Rattle.sublist_tree.proofs.Counting.{run_is-sound, count-nodes}
use Rattle.sublist_trie.proofs.Trie.{Trie, size, run, Good}
use Rattle.sublist_tree.proofs.Members.{In, Distinct, All-in, in_left, in_right, in_append, distinct_in, in_distinct, distinct_once, as_many}
use Rattle.sublist_trie.proofs.Runs.{size_pos, run_root, run_inj}
use Rattle.sublist_trie.proofs.Left.{nil_left, nil_right, some_part, left_cons, left_none, left_own, left-begins}
use Rattle.sublist_trie.proofs.For.{At, For}

pub in_map : {A B : Type 0} (f : A → B) (x : A) (xs : List A) → In x xs → In (f x) (map f xs)
in_map f x [] m = absurd m
in_map f x (y ∷ xs) (inl e) = inl (ap f e)
in_map f x (y ∷ xs) (inr m) = inr (in_map f x xs m)

pub map_in : {A B : Type 0} (f : A → B) (y : B) (xs : List A) → In y (map f xs) → (x : A) × In x xs × (y ≡ f x)
map_in f y [] m = absurd m
map_in f y (x ∷ xs) (inl e) = (x, inl refl, e)
map_in f y (x ∷ xs) (inr m) = let w = map_in f y xs m in (w.0, inr w.1, w.2)

module _ {A : Type 0} where
  in_prefixes : (r s : List A) → In r (prefixes (r ++ s))
  in_prefixes [] [] = inl refl
  in_prefixes [] (x ∷ s) = inl refl
  in_prefixes (x ∷ r) s = inr (in_map (λ p. x ∷ p) r (prefixes (r ++ s)) (in_prefixes r s))

  prefixes_in : (r ks : List A) → In r (prefixes ks) → (s : List A) × (ks ≡ r ++ s)
  prefixes_in r [] (inl e) = ([], rw e)
  prefixes_in r [] (inr m) = absurd m
  prefixes_in r (x ∷ ks) (inl e) = (x ∷ ks, rw e)
  prefixes_in r (x ∷ ks) (inr m) =
      let w = map_in (λ p. x ∷ p) r (prefixes ks) m in
      let v = prefixes_in w.0 ks w.1 in
      (v.0, ap (λ l. x ∷ l) v.1 ∙ ap (λ l. l ++ v.0) (sym w.2))

module _ {K : Type 0} where
  -- the runs of the nodes below number n
  abbrev labels : Trie K → ℕ → List (List (Key K))
  labels t zero = []
  labels t (suc n) = run t n ∷ labels t n

  labels_length : (t : Trie K) (n : ℕ) → length (labels t n) ≡ n
  labels_length t zero = refl
  labels_length t (suc n) = ap suc (labels_length t n)

  labels_in : (t : Trie K) (n : ℕ) (r : List (Key K)) → In r (labels t n) → (j : ℕ) × (j < n) × (run t j ≡ r)
  labels_in t zero r m = absurd m
  labels_in t (suc n) r (inl e) = (n, omega arith, sym e)
  labels_in t (suc n) r (inr m) = let w = labels_in t n r m in let l = w.1 in (w.0, omega arith, w.2)

  in_labels : (t : Trie K) (n j : ℕ) → j < n → In (run t j) (labels t n)
  in_labels t zero j h = absurd (omega arith)
  in_labels t (suc n) j h = go (ℕ_discrete j n) (in_labels t n j)
    where
      go : Dec (j ≡ n) → (j < n → In (run t j) (labels t n)) → In (run t j) (run t n ∷ labels t n)
      go (yes e) ih = inl (ap (run t) e)
      go (no ne) ih = inr (ih (omega arith))

-- the equality test is sound and complete
module _ {K : Type 0} (eq : K → K → Bool) (sound : (h g : K) → eq h g ≡ true → h ≡ g) (whole : (h : K) → eq h h ≡ true) where
  run_is-same : (ks : List (Key K)) → run_is eq ks ks ≡ true
  run_is-same [] = refl
  run_is-same (k ∷ ks) = rw (key_is-same eq whole k) (run_is-same ks)

  -- a run begins some line where a line is left below it
  runs-left : (ls : List (Line K)) (r : List (Key K)) → In r (runs ls) → left_at eq ls r ≡ [] → ⊥
  runs-left [] r m z = m
  runs-left (line ks b x ∷ ls) r m z = go (in_append r (prefixes ks) (runs ls) m) (runs-left ls r)
    where
      both : left_at eq (line ks b x ∷ []) r ++ left_at eq ls r ≡ []
      both = sym (left_cons eq r (line ks b x) ls) ∙ z

      go : In r (prefixes ks) ⊎ In r (runs ls) → (In r (runs ls) → left_at eq ls r ≡ [] → ⊥) → ⊥
      go (inl n) ih =
          let w = prefixes_in r ks n in
          cons-ne-nil (line w.0 b x) [] (sym (left_own eq sound whole r w.0 b x) ∙ nil_left _ (left_at eq ls r) (rw w.1 at both))
      go (inr n) ih = ih n (nil_right (left_at eq (line ks b x ∷ []) r) (left_at eq ls r) both)

  left-runs : (ls : List (Line K)) (r : List (Key K)) → (left_at eq ls r ≡ [] → ⊥) → In r (runs ls)
  left-runs [] r ne = absurd (ne (left_none eq r))
  left-runs (line ks b x ∷ ls) r ne = go (some_part (left_at eq (line ks b x ∷ []) r) (left_at eq ls r) (λ z. ne (left_cons eq r (line ks b x) ls ∙ z))) (left-runs ls r)
    where
      go : (left_at eq (line ks b x ∷ []) r ≡ [] → ⊥) ⊎ (left_at eq ls r ≡ [] → ⊥) → ((left_at eq ls r ≡ [] → ⊥) → In r (runs ls)) → In r (prefixes ks ++ runs ls)
      go (inl m) ih = let w = left-begins eq sound whole r ks b x m in in_left r (prefixes ks) (runs ls) (rw w.1 (in_prefixes r w.0))
      go (inr m) ih = in_right r (prefixes ks) (runs ls) (ih m)

  labels_distinct : (t : Trie K) → Good eq t → (n : ℕ) → n ≤ size t → Distinct (labels t n)
  labels_distinct t g zero h = tt
  labels_distinct t g (suc n) h = (
    All-in (λ r. run t n ≡ r → ⊥) (labels t n)
        (λ r m e. let w = labels_in t n r m in let l = w.1 in let d = run_inj eq sound whole t g n w.0 (omega arith) (omega arith) (e ∙ sym w.2) in omega arith),
    labels_distinct t g n (omega arith),
  )

  -- a tree that belongs to the lines
  module _ (ls : List (Line K)) (t : Trie K) (of : For eq ls t) where
    -- the runs of the tree's nodes are the distinct runs
    pub node_in : (j : ℕ) → j < size t → In (run t j) (nodes eq ls)
    node_in j h = in_distinct (run_is eq) (run_is-sound eq sound whole) run_is-same (run t j) ([] ∷ runs ls) (go (ℕ_discrete j 0))
      where
        go : Dec (j ≡ 0) → In (run t j) ([] ∷ runs ls)
        go (yes z) = inl (rw z (run_root t))
        go (no ne) = inr (left-runs ls (run t j) (of.node_left j (omega arith) h))

    pub in_node : (r : List (Key K)) → In r (nodes eq ls) → At t r
    in_node r m = go (distinct_in (run_is eq) (run_is-sound eq sound whole) run_is-same r ([] ∷ runs ls) m)
      where
        go : In r ([] ∷ runs ls) → At t r
        go (inl e) = (0, size_pos t, run_root t ∙ sym e)
        go (inr n) = of.left-at r (runs-left ls r n)

    pub size_nodes : size t ≡ length (nodes eq ls)
    size_nodes =
        sym (labels_length t (size t))
        ∙ as_many (run_is eq) (run_is-sound eq sound whole) run_is-same (labels t (size t)) (nodes eq ls) (labels_distinct t of.good (size t) (omega arith))
        (distinct_once (run_is eq) (run_is-sound eq sound whole) run_is-same ([] ∷ runs ls))
        (λ r m. let w = labels_in t (size t) r m in subst (λ q. In q (nodes eq ls)) w.2 (node_in w.0 w.1))
        (λ r m. let w = in_node r m in rw (← w.2) (in_labels t (size t) w.0 w.1))

    pub size_count : (d : ℕ) → Within d ls → size t ≡ count eq d ls
    size_count d a = size_nodes ∙ sym (count-nodes eq sound whole d ls a)
