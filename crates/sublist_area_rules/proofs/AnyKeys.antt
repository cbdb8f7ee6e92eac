-- Lookups and growth for keys of any kind: the definitions of specs/ with the test of a node as a parameter. No contract cites them.
use Prim.Native.Nat.{ℕ, ◌+◌, ◌*◌}
use mathlib.Core.List.{List, [], ◌∷◌}
use Rattle.std.specs.Prelude.{Result, Ok, Err}
use Rattle.subject_rules.specs.Choice.{pick}
use Rattle.sublist_tree.specs.Tree.{Key, star, lit}
use Rattle.sublist_area_rules.specs.declared.Child.{Child}
use Rattle.sublist_area_rules.specs.declared.Child.TheVariants.{Damaged}
use Rattle.sublist_area_rules.specs.declared.Placed.{Placed}
use Rattle.sublist_area_rules.specs.declared.PlaceError.{PlaceError}
use Rattle.sublist_area_rules.specs.Words.{Met, outside, seek, star_child}
use Rattle.sublist_area_rules.specs.Growing.{placed}

-- a key of any kind as its hash
abbrev pub hashed : {K : Type 0} → (K → ℕ) → Key K → Key ℕ
hashed hash star = star
hashed hash (lit x) = lit (hash x)

-- the child of node i by a key, by the test of a node for a key and the key's hash
unfoldable pub sought : (ℕ → Met) → List ℕ → ℕ → ℕ → ℕ → Child
sought test a n i h = pick (outside a n i) Damaged (seek test a n h n (i * 16 + 2))

module _ {K : Type 0} (test : List ℕ → K → ℕ → Met) (hash : K → ℕ) where
  abbrev pub child_by : List ℕ → ℕ → ℕ → Key K → Child
  child_by a n i star = star_child a n i
  child_by a n i (lit x) = sought (test a x) a n i (hash x)

-- the child made where it is missing, one key further, and a run of keys
module _ {K : Type 0} (test : List ℕ → K → ℕ → Met) (hash : K → ℕ) where
  unfoldable pub child_or_new_by : List ℕ → ℕ → ℕ → Key K → Result Placed PlaceError × List ℕ
  child_or_new_by a n i k = placed (child_by test hash a n i k) a n i (hashed hash k)

  unfoldable pub onward_by : Result Placed PlaceError → List ℕ → Key K → Result Placed PlaceError × List ℕ
  onward_by (Ok p) a k = child_or_new_by a p.count p.node k
  onward_by (Err e) a k = (Err e, a)

  unfoldable pub grown_by : Result Placed PlaceError × List ℕ → List (Key K) → Result Placed PlaceError × List ℕ
  grown_by s [] = s
  grown_by s (k ∷ ks) = grown_by (onward_by s.0 s.1 k) ks
