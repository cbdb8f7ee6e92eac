-- The area finds a key that is there; it makes one that is not, or it has no room for it.
use Prim.Native.Nat.{ℕ, suc, ◌+◌, ◌*◌, ◌≤◌, ◌<◌}
use native.Mathlib.Omega.{arith}
use native.Mathlib.Numerals.{add-one}
use mathlib.Core.Path.{◌≡◌, sym, ◌∙◌, ap}
use mathlib.Core.Logic.{◌⊎◌, inl, inr}
use mathlib.Core.Bool.{Bool}
use mathlib.Core.List.{List}
use lib.ListN.{length}
use Rattle.std.specs.Prelude.{Err}
use Rattle.sublist_tree.specs.Tree.{Key}
use Rattle.sublist_trie.proofs.Trie.{Trie, size, child}
use Rattle.sublist_area_rules.specs.declared.PlaceError.TheVariants.{Full}
use Rattle.sublist_area_rules.specs.Words.{Met}
use Rattle.sublist_area_rules.specs.Growing.{placed_at}
use Rattle.sublist_area_rules.proofs.AnyKeys.{hashed, child_by, child_or_new_by}
use Rattle.sublist_area_rules.proofs.Ways.{way_node, way_full, way_new}
use Rattle.sublist_area_rules.proofs.Places.{place}
use Rattle.sublist_area_rules.proofs.Rep.{Keys, RepBy}
use Rattle.sublist_area_rules.proofs.Lookup.{lookup_there, lookup_none}
use Rattle.sublist_area_rules.proofs.Step.{with_child}

module _ {K : Type 0} {eq : K → K → Bool} {hash : K → ℕ} {test : List ℕ → K → ℕ → Met} {Named : List ℕ → ℕ → K → Type 0} (L : Keys eq hash test Named) where
  module _ (a : List ℕ) (t : Trie K) (i : ℕ) (k : Key K) (r : RepBy eq hash Named a t) (inside : i < size t) where
    pub step_there : (child eq t i k ≡ 0 → ⊥) → child_or_new_by test hash a (size t) i k ≡ (placed_at (child eq t i k) (size t), a)
    unfolding child_or_new_by
    step_there n = sym (way_node (child_by test hash a (size t) i k) a (size t) i (hashed hash k) (child eq t i k) (lookup_there L a t r i inside k n))

    module _ (z : child eq t i k ≡ 0) where
      pub step_full : length a < size t * 16 + 16 ⊎ (4294967295 ≤ size t) → child_or_new_by test hash a (size t) i k ≡ (Err Full, a)
      unfolding child_or_new_by
      step_full l =
          sym (way_full (child_by test hash a (size t) i k) a (size t) i (hashed hash k) (place hash t i k) (lookup_none L a t r i inside k z) (elim l [ inl l ↦ inl (omega arith) | inr l ↦ inr l ]))

      module _ (room : size t * 16 + 16 ≤ length a) where
        pub step-new : size t < 4294967295 → child_or_new_by test hash a (size t) i k ≡ (placed_at (size t) (suc (size t)), with_child hash a t i k)
        unfolding child_or_new_by
        step-new l =
            sym (way_new (child_by test hash a (size t) i k) a (size t) i (hashed hash k) (place hash t i k) (lookup_none L a t r i inside k z) (omega arith) l)
            ∙ ap (λ x. (placed_at (size t) x, with_child hash a t i k)) (add-one (size t))
