-- How many nodes one more line needs: as many as it has keys, less the longest run that it shares with a line before it. Assumes nothing.
use Rattle.std.proofs.Common.{◌≡◌, ℕ, zero, suc, ◌+◌, ◌-◌, ◌≤◌, max, Bool, true, false, not, leb, List, [], ◌∷◌, ◌++◌, map, length, sym, refl, ap, ◌∙◌, ap₂, append_assoc, append-nil, arith, length-append, le-leb, leb-false, leb-true}
use mathlib.Core.Path.{fun_ext}
use borrow.Author.Tests.{lt-leb}
use lib.Dec.{leb-suc-suc, leb-suc-zero, leb-zero}
use lib.ListN.{length-map}
use Rattle.subject_rules.specs.Choice.{pick, and, or}
use Rattle.sublist_tree.specs.Lists.{largest, filter, without, distinct, prefixes, All}
use Rattle.sublist_tree.specs.Tree.{Key, Line, line, key_is, run_is, keys_of}
use Rattle.sublist_tree.specs.Nodes.{runs, nodes}
use Rattle.subject_rules.proofs.Booleans.{and_false}
use Rattle.sublist_tree.proofs.Order.{filter-filter, key_is-same}
use Rattle.sublist_tree.proofs.Bytes.{All-map}
use Rattle.sublist_tree.proofs.Counting.{filter-append, filter_all, filter_map, distinct-map}
use Rattle.sublist.specs.Sharing.{shared}

neither : (a b : Bool) → and (not b) (not a) ≡ not (or a b)
neither true true = refl
neither true false = refl
neither false true = refl
neither false false = refl

or_assoc : (a b c : Bool) → or (or a b) c ≡ or a (or b c)
or_assoc true b c = refl
or_assoc false b c = refl

module _ {A : Type 0} (eq : A → A → Bool) where
  -- y equals one of the elements
  abbrev among : A → List A → Bool
  among y [] = false
  among y (x ∷ xs) = or (eq x y) (among y xs)

  among-append : (y : A) (xs zs : List A) → among y (xs ++ zs) ≡ or (among y xs) (among y zs)
  among-append y [] zs = refl
  among-append y (x ∷ xs) zs = rw (among-append y xs zs) (sym (or_assoc (eq x y) (among y xs) (among y zs)))

  -- the later elements count where they are not among the earlier
  distinct_append : (xs ys : List A) → distinct eq (xs ++ ys) ≡ distinct eq xs ++ filter (λ y. not (among y xs)) (distinct eq ys)
  distinct_append [] ys = sym (filter_all (distinct eq ys))
  distinct_append (x ∷ xs) ys =
      ap (λ l. x ∷ l)
      (ap (without eq x) (distinct_append xs ys)
      ∙ filter-append (λ y. not (eq x y)) (distinct eq xs) (filter (λ y. not (among y xs)) (distinct eq ys))
      ∙ ap (λ l. without eq x (distinct eq xs) ++ l)
      (filter-filter (λ y. not (eq x y)) (λ y. not (among y xs)) (distinct eq ys)
      ∙ ap (λ p. filter p (distinct eq ys)) (fun_ext (λ y. neither (eq x y) (among y xs)))))

or_swap : (a b c : Bool) → or a (or b c) ≡ or b (or a c)
or_swap true true c = refl
or_swap true false c = refl
or_swap false b c = refl

-- a number is at most one of two if it is at most the larger
or_leb : (d a b : ℕ) → or (leb d a) (leb d b) ≡ leb d (max a b)
or_leb d a b = go (leb d a) refl (leb d b) refl
  where
    go : (x : Bool) → leb d a ≡ x → (y : Bool) → leb d b ≡ y → or x y ≡ leb d (max a b)
    go true e y f = sym (le-leb d (max a b) (omega (arith, leb-true d a e)))
    go false e true f = sym (le-leb d (max a b) (omega (arith, leb-true d b f)))
    go false e false f = sym (lt-leb d (max a b) (omega (arith, leb-false d a e, leb-false d b f)))

module _ {A : Type 0} where
  All-image : {B : Type 0} (P : B → Type 0) (f : A → B) (xs : List A) → All (λ x. P (f x)) xs → All P (map f xs)
  All-image P f [] a = tt
  All-image P f (x ∷ xs) a = (a.0, All-image P f xs a.1)

  filter_on : (p q : A → Bool) (xs : List A) → All (λ x. p x ≡ q x) xs → filter p xs ≡ filter q xs
  filter_on p q [] a = refl
  filter_on p q (x ∷ xs) a = rw (a.0, filter_on p q xs a.1)

  length-prefixes : (xs : List A) → length (prefixes xs) ≡ suc (length xs)
  length-prefixes [] = refl
  length-prefixes (x ∷ xs) = ap suc (length-map (prefixes xs) (λ p. x ∷ p) ∙ length-prefixes xs)

  -- the prefixes longer than m
  longer : (xs : List A) (m : ℕ) → length (filter (λ p. not (leb (length p) m)) (prefixes xs)) ≡ length xs - m
  longer [] m = rw (leb-zero m) (omega arith)
  longer (x ∷ xs) m =
      rw (leb-zero m, filter_map (λ p. x ∷ p) (λ p. not (leb (length p) m)) (prefixes xs), length-map (filter (λ p. not (leb (suc (length p)) m)) (prefixes xs)) (λ p. x ∷ p))
      (go m (longer xs))
    where
      go : (m : ℕ) → ((m : ℕ) → length (filter (λ p. not (leb (length p) m)) (prefixes xs)) ≡ length xs - m) → length (filter (λ p. not (leb (suc (length p)) m)) (prefixes xs)) ≡ suc (length xs) - m
      go zero ih = ap length (ap (λ q. filter q (prefixes xs)) (fun_ext (λ p. ap not (leb-suc-zero (length p)))) ∙ filter_all (prefixes xs)) ∙ length-prefixes xs ∙ omega arith
      go (suc m) ih = ap (λ q. length (filter q (prefixes xs))) (fun_ext (λ p. ap not (leb-suc-suc (length p) m))) ∙ ih m ∙ omega arith

module _ {K : Type 0} (eq : K → K → Bool) where
  among_below : (k j : Key K) (p : List (Key K)) (qs : List (List (Key K))) → among (run_is eq) (k ∷ p) (map (λ q. j ∷ q) qs) ≡ and (key_is eq j k) (among (run_is eq) p qs)
  among_below k j p [] = sym (and_false (key_is eq j k))
  among_below k j p (q ∷ qs) = rw (among_below k j p qs) (go (key_is eq j k))
    where
      go : (b : Bool) → or (and b (run_is eq q p)) (and b (among (run_is eq) p qs)) ≡ and b (or (run_is eq q p) (among (run_is eq) p qs))
      go true = refl
      go false = refl

  among-root : (js : List (Key K)) → among (run_is eq) [] (prefixes js) ≡ true
  among-root [] = refl
  among-root (j ∷ js) = refl

  -- a run that begins ks begins js as well if it is no longer than what they share
  begins_both : (ks : List (Key K)) → All (λ p. (js : List (Key K)) → among (run_is eq) p (prefixes js) ≡ leb (length p) (shared eq ks js)) (prefixes ks)
  begins_both [] = (λ js. among-root js ∙ sym (leb-zero (shared eq [] js)), tt)
  begins_both (k ∷ ks) = (
    λ js. among-root js ∙ sym (leb-zero (shared eq (k ∷ ks) js)),
    All-image (λ p. (js : List (Key K)) → among (run_is eq) p (prefixes js) ≡ leb (length p) (shared eq (k ∷ ks) js)) (λ p. k ∷ p) (prefixes ks)
        (All-map (λ p. (js : List (Key K)) → among (run_is eq) p (prefixes js) ≡ leb (length p) (shared eq ks js))
        (λ p. (js : List (Key K)) → among (run_is eq) (k ∷ p) (prefixes js) ≡ leb (suc (length p)) (shared eq (k ∷ ks) js)) (prefixes ks) more (begins_both ks)),
  )
    where
      more : (p : List (Key K)) → ((js : List (Key K)) → among (run_is eq) p (prefixes js) ≡ leb (length p) (shared eq ks js))
          → (js : List (Key K)) → among (run_is eq) (k ∷ p) (prefixes js) ≡ leb (suc (length p)) (shared eq (k ∷ ks) js)
      more p h [] = sym (leb-suc-zero (length p))
      more p h (j ∷ js) = among_below k j p (prefixes js) ∙ go (key_is eq j k)
        where
          go : (b : Bool) → and b (among (run_is eq) p (prefixes js)) ≡ leb (suc (length p)) (pick b (suc (shared eq ks js)) 0)
          go true = h js ∙ sym (leb-suc-suc (length p) (shared eq ks js))
          go false = sym (leb-suc-zero (length p))

  -- the longest run that the keys share with one of the lines
  abbrev pub longest_run : List (Key K) → List (Line K) → ℕ
  longest_run ks ls = largest (map (λ l. shared eq ks (keys_of l)) ls)

  pub shared-most : (ks js : List (Key K)) → shared eq ks js ≤ length ks
  shared-most [] js = omega arith
  shared-most (k ∷ ks) [] = omega arith
  shared-most (k ∷ ks) (j ∷ js) = go (key_is eq j k) (shared-most ks js)
    where
      go : (b : Bool) → shared eq ks js ≤ length ks → pick b (suc (shared eq ks js)) 0 ≤ suc (length ks)
      go true h = omega arith
      go false h = omega arith

  pub longest-most : (ks : List (Key K)) (ls : List (Line K)) → longest_run ks ls ≤ length ks
  longest-most ks [] = omega arith
  longest-most ks (l ∷ ls) = omega (arith, shared-most ks (keys_of l), longest-most ks ls)

  -- a run is a node already if it is no longer than what ks shares with one of the lines
  there_already : (ks p : List (Key K)) → ((js : List (Key K)) → among (run_is eq) p (prefixes js) ≡ leb (length p) (shared eq ks js))
      → (ls : List (Line K)) → among (run_is eq) p ([] ∷ runs ls) ≡ leb (length p) (longest_run ks ls)
  there_already ks [] h [] = refl
  there_already ks (k ∷ p) h [] = sym (leb-suc-zero (length p))
  there_already ks p h (line js t x ∷ ls) =
      ap (or (run_is eq [] p)) (among-append (run_is eq) p (prefixes js) (runs ls))
      ∙ or_swap (run_is eq [] p) (among (run_is eq) p (prefixes js)) (among (run_is eq) p (runs ls))
      ∙ ap₂ or (h js) (there_already ks p h ls)
      ∙ or_leb (length p) (shared eq ks js) (longest_run ks ls)

  runs_append : (ls ms : List (Line K)) → runs (ls ++ ms) ≡ runs ls ++ runs ms
  runs_append [] ms = refl
  runs_append (line ks t x ∷ ls) ms = rw (runs_append ls ms) (sym (append_assoc (prefixes ks) (runs ls) (runs ms)))

  runs_more : (ls : List (Line K)) (l : Line K) → runs (ls ++ (l ∷ [])) ≡ runs ls ++ prefixes (keys_of l)
  runs_more ls (line ks t x) = runs_append ls (line ks t x ∷ []) ∙ ap (λ r. runs ls ++ r) (append-nil (prefixes ks))

  module _ (whole : (h : K) → eq h h ≡ true) where
    -- a pattern shares all its keys with itself
    pub shared_self : (ks : List (Key K)) → shared eq ks ks ≡ length ks
    shared_self [] = refl
    shared_self (k ∷ ks) = rw (key_is-same eq whole k) (ap suc (shared_self ks))

    distinct-prefixes : (ks : List (Key K)) → distinct (run_is eq) (prefixes ks) ≡ prefixes ks
    distinct-prefixes [] = refl
    distinct-prefixes (k ∷ ks) =
        ap (λ r. [] ∷ r)
        (ap (without (run_is eq) []) (distinct-map (λ p. k ∷ p) (run_is eq) (run_is eq) (λ x y. rw (key_is-same eq whole k)) (prefixes ks) ∙ ap (map (λ p. k ∷ p)) (distinct-prefixes ks))
        ∙ filter_map (λ p. k ∷ p) (λ p. not (run_is eq [] p)) (prefixes ks)
        ∙ ap (map (λ p. k ∷ p)) (filter_all (prefixes ks)))

    pub nodes_more : (ls : List (Line K)) (l : Line K) → length (nodes eq (ls ++ (l ∷ []))) ≡ length (nodes eq ls) + (length (keys_of l) - longest_run (keys_of l) ls)
    nodes_more ls l =
        ap (λ r. length (distinct (run_is eq) ([] ∷ r))) (runs_more ls l)
        ∙ ap length (distinct_append (run_is eq) ([] ∷ runs ls) (prefixes ks))
        ∙ length-append (nodes eq ls) (filter new (distinct (run_is eq) (prefixes ks)))
        ∙ ap (λ n. length (nodes eq ls) + n) (ap (λ r. length (filter new r)) (distinct-prefixes ks) ∙ ap length (filter_on new (λ p. not (leb (length p) (longest_run ks ls))) (prefixes ks) each) ∙ longer ks (longest_run ks ls))
      where
        ks : List (Key K)
        ks = keys_of l

        new : List (Key K) → Bool
        new p = not (among (run_is eq) p ([] ∷ runs ls))

        each : All (λ p. new p ≡ not (leb (length p) (longest_run ks ls))) (prefixes ks)
        each =
            All-map (λ p. (js : List (Key K)) → among (run_is eq) p (prefixes js) ≡ leb (length p) (shared eq ks js)) (λ p. new p ≡ not (leb (length p) (longest_run ks ls))) (prefixes ks)
            (λ p h. ap not (there_already ks p h ls)) (begins_both ks)
