-- There is a choice as `Iter` asks: the first entry of smallest `last_used`.
use Prim.Native.Nat.{ℕ, ◌≤◌}
use native.Mathlib.Omega.{arith}
use mathlib.Core.Path.{◌≡◌, refl, subst}
use mathlib.Core.Logic.{◌⊎◌, inl, inr}
use mathlib.Core.Bool.{Bool, true, false}
use mathlib.Core.List.{[], ◌∷◌, Memᴰ}
use mathlib.Core.Option.{Option, none, some}
use lib.Dec.{ltb}
use borrow.Author.Tests.{ltb-true, ltb-false}
use Rattle.subject_rules.specs.Original.{when◌then◌else◌}
use Rattle.binding_original.specs.Original.{HashMap, Each, Iter}
use Rattle.binding_original.proofs.Maps.{Pair}

abbrev stamp_of : Pair → ℕ
stamp_of x = x.1.last_used

abbrev older : Pair → Pair → Pair
older best x = when ltb (stamp_of x) (stamp_of best) then x else best

abbrev smallest_of : Pair → HashMap ℕ → Pair
smallest_of best [] = best
smallest_of best (x ∷ rest) = smallest_of (older best x) rest

abbrev first_smallest : HashMap ℕ → Option Pair
first_smallest [] = none
first_smallest (x ∷ rest) = some (smallest_of x rest)

smallest_in : (best : Pair) (es : HashMap ℕ) → (smallest_of best es ≡ best) ⊎ Memᴰ (smallest_of best es) es
smallest_in best [] = inl refl
smallest_in best (x ∷ es) = go (ltb (stamp_of x) (stamp_of best)) (λ y. smallest_in y es)
  where
    go : (b : Bool) → ((y : Pair) → (smallest_of y es ≡ y) ⊎ Memᴰ (smallest_of y es) es)
        → (smallest_of (when b then x else best) es ≡ best) ⊎ Memᴰ (smallest_of (when b then x else best) es) (x ∷ es)
    go true ih = at (ih x)
      where
        at : (smallest_of x es ≡ x) ⊎ Memᴰ (smallest_of x es) es → (smallest_of x es ≡ best) ⊎ Memᴰ (smallest_of x es) (x ∷ es)
        at (inl e) = inr (Memᴰ.head e)
        at (inr m) = inr (Memᴰ.tail m)
    go false ih = at (ih best)
      where
        at : (smallest_of best es ≡ best) ⊎ Memᴰ (smallest_of best es) es → (smallest_of best es ≡ best) ⊎ Memᴰ (smallest_of best es) (x ∷ es)
        at (inl e) = inl e
        at (inr m) = inr (Memᴰ.tail m)

smallest_least : (best : Pair) (es : HashMap ℕ) → (stamp_of (smallest_of best es) ≤ stamp_of best) × Each (λ y. stamp_of (smallest_of best es) ≤ stamp_of y) es
smallest_least best [] = (omega arith, tt)
smallest_least best (x ∷ es) = go (ltb (stamp_of x) (stamp_of best)) refl (λ y. smallest_least y es)
  where
    go : (b : Bool) → ltb (stamp_of x) (stamp_of best) ≡ b → ((y : Pair) → (stamp_of (smallest_of y es) ≤ stamp_of y) × Each (λ z. stamp_of (smallest_of y es) ≤ stamp_of z) es)
        → (stamp_of (smallest_of (when b then x else best) es) ≤ stamp_of best) × Each (λ z. stamp_of (smallest_of (when b then x else best) es) ≤ stamp_of z) (x ∷ es)
    go true q ih = (omega (arith, (ih x).0, ltb-true (stamp_of x) (stamp_of best) q), ((ih x).0, (ih x).1))
    go false q ih = ((ih best).0, (omega (arith, (ih best).0, ltb-false (stamp_of x) (stamp_of best) q), (ih best).1))

pub first-smallest : Iter ℕ
first-smallest = record { min_by_last_used = first_smallest; given = in_them; smallest = least; none_if_empty = nothing }
  where
    in_them : (es : HashMap ℕ) (x : Pair) → first_smallest es ≡ some x → Memᴰ x es
    in_them [] x e = absurd (cc)
    in_them (y ∷ es) x e = let s : smallest_of y es ≡ x = cc in subst (λ z. Memᴰ z (y ∷ es)) s (at (smallest_in y es))
      where
        at : (smallest_of y es ≡ y) ⊎ Memᴰ (smallest_of y es) es → Memᴰ (smallest_of y es) (y ∷ es)
        at (inl e) = Memᴰ.head e
        at (inr m) = Memᴰ.tail m

    least : (es : HashMap ℕ) (x : Pair) → first_smallest es ≡ some x → Each (λ y. stamp_of x ≤ stamp_of y) es
    least [] x e = tt
    least (y ∷ es) x e = let s : smallest_of y es ≡ x = cc in subst (λ z. Each (λ u. stamp_of z ≤ stamp_of u) (y ∷ es)) s (smallest_least y es)

    nothing : (es : HashMap ℕ) → first_smallest es ≡ none → es ≡ []
    nothing [] e = refl
    nothing (y ∷ es) e = absurd (cc)
