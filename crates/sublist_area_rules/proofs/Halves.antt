-- The test of a node by the two halves of a hash.
use Prim.Native.Nat.{ℕ, ◌/◌, ◌%◌}
use native.Mathlib.Omega.{arith}
use native.Mathlib.Decide.{ℕ_discrete}
use mathlib.Core.Path.{◌≡◌, ◌∙◌, ap}
use mathlib.Core.Bool.{true, false}
use mathlib.Core.List.{List}
use lib.Dec.{eqb}
use borrow.Author.Tests.{eq-eqb, ne_eqb}
use Rattle.subject_rules.specs.Choice.{and}
use Rattle.sublist_area_rules.specs.Words.{word, hash_is}

-- the halves of a hash are equal where the hash is
module _ (a : List ℕ) (j g h : ℕ) (lo : word a j 0 ≡ g % 4294967296) (hi : word a j 1 ≡ g / 4294967296) where
  pub hash_hit : g ≡ h → hash_is a j h ≡ true
  hash_hit e =
      ap (λ b. and b (eqb (word a j 1) (h / 4294967296))) (eq-eqb (word a j 0) (h % 4294967296) (lo ∙ ap (λ x. x % 4294967296) e))
      ∙ eq-eqb (word a j 1) (h / 4294967296) (hi ∙ ap (λ x. x / 4294967296) e)

  pub hash_miss : (g ≡ h → ⊥) → hash_is a j h ≡ false
  hash_miss ne = go (ℕ_discrete (word a j 0) (h % 4294967296))
    where
      go : Dec (word a j 0 ≡ h % 4294967296) → hash_is a j h ≡ false
      go (no l) = ap (λ b. and b (eqb (word a j 1) (h / 4294967296))) (ne_eqb (word a j 0) (h % 4294967296) l)
      go (yes l) =
          ap (λ b. and b (eqb (word a j 1) (h / 4294967296))) (eq-eqb (word a j 0) (h % 4294967296) l)
          ∙ ne_eqb (word a j 1) (h / 4294967296) (λ u. ne (omega arith))
