-- A text within the limit, or none.
use Prim.Native.Nat.{ℕ, ◌≤◌, ◌<◌}
use mathlib.Core.Path.{◌≡◌, refl}
use mathlib.Core.Bool.{Bool, true, false}
use mathlib.Core.List.{List}
use mathlib.Core.Option.{Option, none, some}
use lib.Dec.{ltb}
use lib.ListN.{length}
use borrow.Author.Tests.{ltb-true, ltb-false}
use Rattle.subject_rules.specs.Choice.{pick}
use Rattle.subject_rules.specs.Text.{joined}
use Rattle.crossing_rules.specs.Crossing.{of_tokens}

-- ---- a text within the limit, or none

module _ (ts : List (List ℕ)) (P : Option (List ℕ) → Type 0) where
  pub by_limit : (length (joined ts) ≤ 4096 → P (some (joined ts))) → (4096 < length (joined ts) → P none) → P (of_tokens (some ts))
  by_limit x y = go (ltb 4096 (length (joined ts))) refl
    where
      go : (b : Bool) → ltb 4096 (length (joined ts)) ≡ b → P (pick b none (some (joined ts)))
      go true h = y (ltb-true 4096 (length (joined ts)) h)
      go false h = x (ltb-false 4096 (length (joined ts)) h)
