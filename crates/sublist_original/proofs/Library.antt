-- Of the two functions of Rust's library: what sorting keeps; and there are two such functions.
use Prim.Native.Nat.{ℕ, suc, ◌≤◌}
use native.Mathlib.Omega.{arith}
use mathlib.Core.Path.{◌≡◌, refl, sym, subst}
use mathlib.Core.Logic.{inl, inr}
use mathlib.Core.List.{List, [], ◌∷◌, map}
use mathlib.Core.Option.{Option, none, some}
use lib.Dec.{leb, eqb}
use mathlib.Core.Bool.{Bool, true, false}
use borrow.Author.Tests.{leb-true, leb-false, eqb-true, eqb-false}
use Rattle.subject_rules.specs.Choice.{pick}
use Rattle.sublist_tree.proofs.Members.{In, Distinct, All-in, All-at}
use Rattle.sublist_trie.proofs.Sizes.{in_map, map_in}
use Rattle.sublist_original.specs.Original.{Ok, ◌!◌, Literal, Each, Ascending, Reordered, empty, first, swap, in_turn, Std}

-- what is said of each is said of one that stands in the list
pub each_in : (P : Literal → Type 0) (xs : List Literal) → Each P xs → (x : Literal) → In x xs → P x
each_in P [] a x m = absurd m
each_in P (y ∷ xs) a x (inl e) = rw e a.0
each_in P (y ∷ xs) a x (inr m) = each_in P xs a.1 x m

-- another order has the same members
pub reordered_in : {xs ys : List Literal} → Reordered xs ys → (x : Literal) → In x xs → In x ys
reordered_in empty x m = m
reordered_in (first r) x (inl e) = inl e
reordered_in (first r) x (inr m) = inr (reordered_in r x m)
reordered_in swap x (inl e) = inr (inl e)
reordered_in swap x (inr (inl e)) = inl e
reordered_in swap x (inr (inr m)) = inr (inr m)
reordered_in (in_turn r s) x m = reordered_in s x (reordered_in r x m)

pub in_reordered : {xs ys : List Literal} → Reordered xs ys → (x : Literal) → In x ys → In x xs
in_reordered empty x m = m
in_reordered (first r) x (inl e) = inl e
in_reordered (first r) x (inr m) = inr (in_reordered r x m)
in_reordered swap x (inl e) = inr (inl e)
in_reordered swap x (inr (inl e)) = inl e
in_reordered swap x (inr (inr m)) = inr (inr m)
in_reordered (in_turn r s) x m = in_reordered r x (in_reordered s x m)

-- ---- hashes

abbrev pub keys : List Literal → List ℕ
keys xs = map (λ x. x.0) xs

pub keys_in : (xs : List Literal) (k : ℕ) → In k (keys xs) → (c : ℕ) × In {A = Literal} (k, c) xs
keys_in xs k m = let w = map_in (λ (x : Literal). x.0) k xs m in (w.0.1, subst (λ h. In {A = Literal} (h, w.0.1) xs) (sym w.2) w.1)

in_keys : (xs : List Literal) (k c : ℕ) → In {A = Literal} (k, c) xs → In k (keys xs)
in_keys xs k c = in_map (λ (x : Literal). x.0) (k, c) xs

-- where no two are equal, none are in another order
pub reordered-apart : {xs ys : List Literal} → Reordered xs ys → Distinct (keys xs) → Distinct (keys ys)
reordered-apart empty d = d
reordered-apart (first {x = x} {xs = xs} {ys = ys} r) d = (
  All-in (λ k. x.0 ≡ k → ⊥) (keys ys)
      (λ k m. let w = keys_in ys k m in All-at (λ j. x.0 ≡ j → ⊥) (keys xs) d.0 k (in_keys xs k w.0 (in_reordered r (k, w.0) w.1))),
  reordered-apart r d.1,
)
reordered-apart swap d = ((λ e. d.0.0 (sym e), d.1.0), (d.0.1, d.1.1))
reordered-apart (in_turn r s) d = reordered-apart s (reordered-apart r d)

-- ---- two such functions: sorting by insertion, and the first that has the key

abbrev put_in : Literal → List Literal → List Literal
put_in x [] = x ∷ []
put_in x (y ∷ ys) = pick (leb x.0 y.0) (x ∷ (y ∷ ys)) (y ∷ put_in x ys)

abbrev sorted : List Literal → List Literal
sorted [] = []
sorted (x ∷ xs) = put_in x (sorted xs)

each_put : (P : Literal → Type 0) (x : Literal) (ys : List Literal) → P x → Each P ys → Each P (put_in x ys)
each_put P x [] p a = (p, tt)
each_put P x (y ∷ ys) p a = go (leb x.0 y.0) (each_put P x ys p a.1)
  where
    go : (b : Bool) → Each P (put_in x ys) → Each P (pick b (x ∷ (y ∷ ys)) (y ∷ put_in x ys))
    go true ih = (p, a)
    go false ih = (a.0, ih)

each_more : (m n : ℕ) (ys : List Literal) → m ≤ n → Each (λ y. n ≤ y.0) ys → Each (λ y. m ≤ y.0) ys
each_more m n [] h a = tt
each_more m n (y ∷ ys) h a = let l = a.0 in (omega arith, each_more m n ys h a.1)

put-ascending : (x : Literal) (ys : List Literal) → Ascending ys → Ascending (put_in x ys)
put-ascending x [] a = (tt, tt)
put-ascending x (y ∷ ys) a = go (leb x.0 y.0) refl (put-ascending x ys a.1)
  where
    go : (b : Bool) → leb x.0 y.0 ≡ b → Ascending (put_in x ys) → Ascending (pick b (x ∷ (y ∷ ys)) (y ∷ put_in x ys))
    go true e ih = let l = leb-true x.0 y.0 e in ((l, each_more x.0 y.0 ys l a.0), a)
    go false e ih = let l = leb-false x.0 y.0 e in (each_put (λ z. y.0 ≤ z.0) x ys (omega arith) a.0, ih)

pub sorted_ascending : (xs : List Literal) → Ascending (sorted xs)
sorted_ascending [] = tt
sorted_ascending (x ∷ xs) = put-ascending x (sorted xs) (sorted_ascending xs)

put-reordered : (x : Literal) (ys : List Literal) → Reordered (x ∷ ys) (put_in x ys)
put-reordered x [] = first empty
put-reordered x (y ∷ ys) = go (leb x.0 y.0) (put-reordered x ys)
  where
    same : (zs : List Literal) → Reordered zs zs
    same [] = empty
    same (z ∷ zs) = first (same zs)

    go : (b : Bool) → Reordered (x ∷ ys) (put_in x ys) → Reordered (x ∷ (y ∷ ys)) (pick b (x ∷ (y ∷ ys)) (y ∷ put_in x ys))
    go true ih = same (x ∷ (y ∷ ys))
    go false ih = in_turn swap (first ih)

pub sorted_reordered : (xs : List Literal) → Reordered xs (sorted xs)
sorted_reordered [] = empty
sorted_reordered (x ∷ xs) = in_turn (first (sorted_reordered xs)) (put-reordered x (sorted xs))

abbrev next_place : Option ℕ → Option ℕ
next_place none = none
next_place (some i) = some (suc i)

abbrev searched : List Literal → ℕ → Option ℕ
searched [] key = none
searched (x ∷ xs) key = pick (eqb x.0 key) (some 0) (next_place (searched xs key))

pub searched_found : (xs : List Literal) (key i : ℕ) → searched xs key ≡ some i → (x : Literal) × (xs ! i ≡ Ok x) × (x.0 ≡ key)
searched_found [] key i e = absurd (cc)
searched_found (x ∷ xs) key i e = go (eqb x.0 key) refl (searched xs key) refl e (searched_found xs key)
  where
    go : (b : Bool) → eqb x.0 key ≡ b → (o : Option ℕ) → searched xs key ≡ o → pick b (some 0) (next_place o) ≡ some i
        → ((j : ℕ) → searched xs key ≡ some j → (y : Literal) × (xs ! j ≡ Ok y) × (y.0 ≡ key)) → (y : Literal) × ((x ∷ xs) ! i ≡ Ok y) × (y.0 ≡ key)
    go true b o f e ih = let z : 0 ≡ i = cc in (x, rw (← z) refl, eqb-true x.0 key b)
    go false b none f e ih = absurd (cc)
    go false b (some j) f e ih = let z : suc j ≡ i = cc in let w = ih j f in (w.0, rw (← z) w.1, w.2)

pub searched_missing : (xs : List Literal) (key : ℕ) → searched xs key ≡ none → Each (λ x. x.0 ≡ key → ⊥) xs
searched_missing [] key e = tt
searched_missing (x ∷ xs) key e = go (eqb x.0 key) refl (searched xs key) refl e (searched_missing xs key)
  where
    go : (b : Bool) → eqb x.0 key ≡ b → (o : Option ℕ) → searched xs key ≡ o → pick b (some 0) (next_place o) ≡ none
        → (searched xs key ≡ none → Each (λ x. x.0 ≡ key → ⊥) xs) → Each (λ x. x.0 ≡ key → ⊥) (x ∷ xs)
    go true b o f e ih = absurd (cc)
    go false b none f e ih = (eqb-false x.0 key b, ih f)
    go false b (some j) f e ih = absurd (cc)

abbrev pub simple : Std
simple = record {
  sort_unstable_by_key = sorted;
  ascending = sorted_ascending;
  reordered = sorted_reordered;
  binary_search_by_key = searched;
  found = λ xs key i a e. searched_found xs key i e;
  missing = λ xs key a e. searched_missing xs key e;
}
