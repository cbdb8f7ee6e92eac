-- Laws of `and`, `or` and `pick`.
use Prim.Native.Nat.{ℕ}
use mathlib.Core.Path.{◌≡◌, refl}
use mathlib.Core.Bool.{Bool, true, false, ◌||◌}
use lib.Dec.{eqb}
use borrow.Author.Tests.{eqb-true, eqb-false}
use Rattle.std.proofs.lemmas.Bool.{true≢false}
use Rattle.subject_rules.specs.Choice.{pick, and, or}

-- by a test of two numbers
pub by_eqb : {A : Type 0} (P : A → Type 0) (m n : ℕ) (x y : A) → (m ≡ n → P x) → ((m ≡ n → ⊥) → P y) → P (pick (eqb m n) x y)
by_eqb P m n x y f g = go (eqb m n) refl
  where
    go : (b : Bool) → eqb m n ≡ b → P (pick b x y)
    go true e = f (eqb-true m n e)
    go false e = g (eqb-false m n e)

pub and_false : (a : Bool) → and a false ≡ false
and_false true = refl
and_false false = refl

pub and_true : (a : Bool) → and a true ≡ a
and_true true = refl
and_true false = refl

pub and_left : (a b : Bool) → and a b ≡ true → a ≡ true
and_left true b e = refl
and_left false b e = e

pub and_right : (a b : Bool) → and a b ≡ true → b ≡ true
and_right true b e = e
and_right false true e = refl
and_right false false e = e

pub and_both : (a b : Bool) → and a b ≡ true → (a ≡ true) × (b ≡ true)
and_both a b e = (and_left a b e, and_right a b e)

pub or_true : (a : Bool) → or a true ≡ true
or_true true = refl
or_true false = refl

pub or_false : (a : Bool) → or a false ≡ a
or_false true = refl
or_false false = refl

pub or_left : (a b : Bool) → or a b ≡ false → a ≡ false
or_left true b e = e
or_left false b e = refl

pub or_right : (a b : Bool) → or a b ≡ false → b ≡ false
or_right true b e = absurd (true≢false e)
or_right false b e = e

-- std's `or` is this one
pub or_same : (a b : Bool) → (a || b) ≡ or a b
or_same true b = refl
or_same false b = refl
