-- The original's indexing, where the index is inside: what it gives, and what it leaves; and its `?`.
use Prim.Native.Nat.{ℕ, zero, suc, ◌-◌, ◌≤◌, ◌<◌}
use native.Mathlib.Omega.{arith}
use mathlib.Core.Path.{◌≡◌, refl, ap}
use mathlib.Core.Logic.{inl, inr}
use mathlib.Core.Bool.{false}
use mathlib.Core.List.{List, [], ◌∷◌}
use lib.ListN.{length, get_or, take, drop, set}
use borrow.Author.Tests.{lt-ltb, le-leb, ne_eqb}
use Rattle.sublist_tree.specs.Lists.{All}
use Rattle.sublist_tree.proofs.Members.{In}
use Rattle.sublist_original.specs.Original.{Outcome, Ok, Err, Panic, ◌>>=◌, ◌!◌, change, slice, push, u32_from, contains}

module _ {A : Type 0} where
  pub index_in : (xs : List A) (i : ℕ) (d : A) → i < length xs → xs ! i ≡ Ok (get_or xs i d)
  index_in [] i d h = absurd (omega arith)
  index_in (x ∷ xs) zero d h = refl
  index_in (x ∷ xs) (suc i) d h = index_in xs i d (omega arith)

  pub change_in : (xs : List A) (i : ℕ) (f : A → A) (d : A) → i < length xs → change xs i f ≡ Ok (set xs i (f (get_or xs i d)))
  change_in [] i f d h = absurd (omega arith)
  change_in (x ∷ xs) zero f d h = refl
  change_in (x ∷ xs) (suc i) f d h = rw (change_in xs i f d (omega arith))

  -- what is found by an index stands in the list
  pub index_found : (xs : List A) (i : ℕ) (x : A) → xs ! i ≡ Ok x → In x xs
  index_found [] i x e = absurd (cc)
  index_found (y ∷ xs) zero x e = inl (cc)
  index_found (y ∷ xs) (suc i) x e = inr (index_found xs i x e)

  -- an element pushed where the default is read changes nothing that is read
  pub push_default : (xs : List A) (d : A) (i : ℕ) → get_or (push xs d) i d ≡ get_or xs i d
  push_default [] d zero = refl
  push_default [] d (suc i) = refl
  push_default (x ∷ xs) d zero = refl
  push_default (x ∷ xs) d (suc i) = push_default xs d i

  pub push-length : (xs : List A) (x : A) → length (push xs x) ≡ suc (length xs)
  push-length [] x = refl
  push-length (y ∷ xs) x = ap suc (push-length xs x)

  pub slice_in : (xs : List A) (start end : ℕ) → start ≤ end → end ≤ length xs → slice xs start end ≡ Ok (take (end - start) (drop start xs))
  slice_in xs start end h l = rw (le-leb start end h, le-leb end (length xs) l)

-- what follows from success by one way on follows by another
pub carried : {A B C : Type 0} {f : A → Outcome B} {g : A → Outcome C} {b : B} {x : Outcome C} → ((a : A) → f a ≡ Ok b → g a ≡ x) → (m : Outcome A) → (m >>= f) ≡ Ok b → (m >>= g) ≡ x
carried h (Ok a) e = h a e
carried h (Err r) e = absurd (cc)
carried h Panic e = absurd (cc)

pub u32_in : (n : ℕ) → n < 4294967296 → u32_from n ≡ Ok n
u32_in n h = rw (lt-ltb n 4294967296 h)

-- an id that differs from all is not contained
pub contains_none : (xs : List ℕ) (id : ℕ) → All (λ x. x ≡ id → ⊥) xs → contains xs id ≡ false
contains_none [] id a = refl
contains_none (x ∷ xs) id a = rw (ne_eqb x id a.0) (contains_none xs id a.1)
