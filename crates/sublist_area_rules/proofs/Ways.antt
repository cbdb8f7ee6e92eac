-- What each way through `child` and `child_or_new` makes of their definitions, and where a missing child's number would stand.
use Prim.Native.Nat.{ℕ, ◌+◌, ◌*◌, ◌/◌, ◌≤◌, ◌<◌}
use native.Mathlib.Omega.{arith}
use mathlib.Core.Path.{◌≡◌, refl}
use mathlib.Core.Logic.{◌⊎◌, inl, inr}
use mathlib.Core.Bool.{false}
use mathlib.Core.List.{List}
use lib.Dec.{leb, ltb, eqb}
use lib.ListN.{length, get_or}
use borrow.Author.Tests.{le-ltb, le-leb, lt-leb, leb-false, ne_eqb}
use Rattle.std.specs.Prelude.{Result, Err}
use Rattle.subject_rules.specs.Choice.{pick}
use Rattle.subject_rules.proofs.Booleans.{or_right}
use Rattle.sublist_trie.proofs.Runs.{pick_ind}
use Rattle.sublist_area_rules.specs.declared.Child.{Child}
use Rattle.sublist_area_rules.specs.declared.Child.TheVariants.{Node, Missing, Damaged}
use Rattle.sublist_area_rules.specs.declared.Placed.{Placed}
use Rattle.sublist_area_rules.specs.declared.PlaceError.{PlaceError}
use Rattle.sublist_area_rules.specs.declared.PlaceError.TheVariants.{Full, Broken}
use Rattle.sublist_area_rules.specs.Words.{Met, word, by_hash, outside, seek, literal_child, star_child, child_of}
use Rattle.sublist_area_rules.specs.Growing.{hash_of, added, placed_at, placed}
use Rattle.sublist_area_rules.proofs.AnyKeys.{sought}
use Rattle.sublist_tree.specs.Tree.{Key, star, lit}
use Rattle.sublist_area_rules.proofs.Turns.{Below, seek-below, below-missing}

module _ (c : Child) (a : List ℕ) (n i : ℕ) (k : Key ℕ) where
  pub way_node : (j : ℕ) → c ≡ Node j → (placed_at j n, a) ≡ placed c a n i k
  unfolding placed
  way_node j e = rw e

  pub way_full : (link : ℕ) → c ≡ Missing link → length a / 16 ≤ n ⊎ (4294967295 ≤ n) → (Err Full, a) ≡ placed c a n i k
  unfolding placed
  way_full link e (inl h) = rw (e, le-leb (length a / 16) n h)
  way_full link e (inr l) =
      rw (e, le-leb 4294967295 n l)
      (pick_ind (λ (s : Result Placed PlaceError × List ℕ). (Err Full, a) ≡ s) (leb (length a / 16) n) (λ _. refl) (λ _. refl))

  pub way_new : (link : ℕ) → c ≡ Missing link → n < length a / 16 → n < 4294967295 → (placed_at n (n + 1), added a n link (hash_of k) i) ≡ placed c a n i k
  unfolding placed
  way_new link e h l = rw (e, lt-leb (length a / 16) n h, lt-leb 4294967295 n l)

  pub way_damaged : c ≡ Damaged → (Err Broken, a) ≡ placed c a n i k
  unfolding placed
  way_damaged e = rw e

-- where a node lies
module _ (a : List ℕ) (n i : ℕ) where
  pub inside : n ≤ length a / 16 → i < n → outside a n i ≡ false
  inside h l = rw (le-ltb (length a / 16) n h, lt-leb n i l)

  pub inside_less : outside a n i ≡ false → i < n
  inside_less e = leb-false n i (or_right (ltb (length a / 16) n) (leb n i) e)

  pub sought_in : (test : ℕ → Met) (h : ℕ) → n ≤ length a / 16 → i < n → seek test a n h n (i * 16 + 2) ≡ sought test a n i h
  unfolding sought
  sought_in test h l m = rw (inside l m)

  -- the `*` child by the number that stands in its word
  module _ (l : n ≤ length a / 16) (m : i < n) (id : ℕ) (e : id ≡ get_or a (i * 16 + 3) 0) where
    pub star_none : id ≡ 0 → Missing (i * 16 + 3) ≡ star_child a n i
    unfolding star_child
    star_none z = rw (inside l m, ← e, z)

    pub star_there : (id ≡ 0 → ⊥) → id < n → Node id ≡ star_child a n i
    unfolding star_child
    star_there k o = rw (inside l m, ← e, ne_eqb id 0 k, lt-leb n id o)

  -- the child of a node that is one of n, by a key
  abbrev pub within : Key ℕ → Child
  within star = pick (eqb (word a i 3) 0) (Missing (i * 16 + 3)) (pick (leb n (word a i 3)) Damaged (Node (word a i 3)))
  within (lit h) = seek (by_hash a h) a n h n (i * 16 + 2)

  pub child_says : (k : Key ℕ) → child_of a n i k ≡ pick (outside a n i) Damaged (within k)
  unfolding literal_child star_child
  child_says star = refl
  child_says (lit h) = refl

  -- where a missing child's number would stand
  pub missing_child : (k : Key ℕ) (link : ℕ) → child_of a n i k ≡ Missing link → link < n * 16
  unfolding literal_child star_child
  missing_child star link e =
      below-missing n (star_child a n i) link
      (pick_ind (Below n) (outside a n i) (λ _. tt)
      (λ t. pick_ind (Below n) (eqb (word a i 3) 0) (λ _. omega (arith, inside_less t))
      (λ _. pick_ind (Below n) (leb n (word a i 3)) (λ _. tt) (λ _. tt))))
      e
  missing_child (lit h) link e =
      below-missing n (literal_child a n i h) link
      (pick_ind (Below n) (outside a n i) (λ _. tt)
      (λ t. seek-below (by_hash a h) a n n h (i * 16 + 2) (omega (arith, inside_less t))))
      e

pub ruleset ways = (way_node, way_full, way_new, way_damaged, missing_child)
