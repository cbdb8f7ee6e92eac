-- The premises of demand 3 can be met: 01's five entries, built as 1, calls of every kind, a store of another table, a refused text and an output too short, through `interleaving`.
--
--   hashed_apart    a test of tokens that no two share a hash
--   met_premises    the premises hold of these calls
--   met-calls       so each of them is answered as demanded
use Prim.Native.Nat.{ℕ}
use native.Mathlib.Omega.{arith}
use mathlib.Core.Path.{◌≡◌, refl}
use mathlib.Core.Bool.{Bool, true, false, not}
use mathlib.Core.List.{List, [], ◌∷◌}
use lib.Dec.{eqb}
use lib.ListN.{replicate}
use borrow.Author.Tests.{eqb-false}
use Rattle.subject_rules.specs.Choice.{and, or}
use Rattle.subject_rules.specs.Text.{same}
use Rattle.subject_rules.specs.Utf8.{sequence, first_bad}
use Rattle.subject_rules.specs.Fnv.{fnv, fnv_from}
use Rattle.subject_rules.specs.Grammar.{grammar}
use Rattle.sublist_tree.specs.Lists.{All}
use Rattle.sublist_tree.specs.Tree.{worst}
use Rattle.sublist_tree.proofs.Bytes.{same-sound}
use Rattle.sublist_area_rules.specs.Words.{seek, literal_child, star_child}
use Rattle.sublist_area_rules.specs.Growing.{added, placed, child_or_new, onward, grown, planted}
use Rattle.sublist_rules.specs.Building.{needed, worst_of, build_says}
use Rattle.sublist_rules.specs.Passes.{counted, joined, line_in, lines_in, told, settled, laid_at, laid, filled_by, filled}
use Rattle.sublist_rules.specs.Leaving.{build_leaves}
use Rattle.sublist_snapshot.specs.Snapshot.{make}
use Rattle.resolve_cache_rules.specs.Cache.{with_capacity}
use Rattle.binding.specs.Built.{BuiltFrom}
use Rattle.subject_rules.proofs.Booleans.{and_both}
use Rattle.binding.specs.Demand.{in_play, HashedApart, Premises, Opened}
use Rattle.binding.specs.Timetable.{texts, list_from, table_of, words_for, cabinet, five_entries, other_entries, every_call}

abbrev every : {A : Type 0} → (A → Bool) → List A → Bool
every p [] = true
every p (x ∷ xs) = and (p x) (every p xs)

all_of : {A : Type 0} (p : A → Bool) (P : A → Type 0) → ((x : A) → p x ≡ true → P x) → (xs : List A) → every p xs ≡ true → All P xs
all_of p P f [] e = tt
all_of p P f (x ∷ xs) e = let both = and_both (p x) (every p xs) e in (f x both.0, all_of p P f xs both.1)

abbrev far : List ℕ → List ℕ → Bool
far t u = or (not (eqb (fnv t) (fnv u))) (same t u)

far_sound : (t u : List ℕ) → far t u ≡ true → fnv t ≡ fnv u → t ≡ u
far_sound t u e q = go (eqb (fnv t) (fnv u)) refl e
  where
    go : (b : Bool) → eqb (fnv t) (fnv u) ≡ b → or (not b) (same t u) ≡ true → t ≡ u
    go true r e = same-sound t u e
    go false r e = absurd (eqb-false (fnv t) (fnv u) r q)

-- a test of the premise on tokens
pub hashed_apart : (ts : List (List ℕ)) → every (λ t. every (far t) ts) ts ≡ true → HashedApart ts
hashed_apart ts e = all_of (λ t. every (far t) ts) (λ t. All (λ u. fnv t ≡ fnv u → t ≡ u) ts) (λ t q. all_of (far t) (λ u. fnv t ≡ fnv u → t ≡ u) (far_sound t) ts q) ts e

pub five_built : BuiltFrom (table_of 5 five_entries 1) five_entries
unfolding sequence first_bad fnv fnv_from grammar worst seek literal_child star_child added placed child_or_new onward grown planted needed worst_of build_says counted joined line_in lines_in told settled laid_at laid filled_by filled build_leaves
five_built = record {
  list = list_from 0 five_entries;
  store = texts five_entries;
  nodes_lent = replicate 80 0;
  targets_lent = replicate 5 0;
  worst_case = 2;
  accepted = refl;
  areas_left = refl;
  one_each = refl;
  texts_read = refl;
}

pub other_built : BuiltFrom (table_of 2 other_entries 0) other_entries
unfolding sequence first_bad fnv fnv_from grammar worst seek literal_child star_child added placed child_or_new onward grown planted needed worst_of build_says counted joined line_in lines_in told settled laid_at laid filled_by filled build_leaves
other_built = record {
  list = list_from 0 other_entries;
  store = texts other_entries;
  nodes_lent = replicate 32 0;
  targets_lent = replicate 1 0;
  worst_case = 1;
  accepted = refl;
  areas_left = refl;
  one_each = refl;
  texts_read = refl;
}

tokens-apart : HashedApart (in_play five_entries every_call)
unfolding fnv fnv_from
tokens-apart = hashed_apart (in_play five_entries every_call) refl

pub met_premises : Premises (table_of 5 five_entries 1) five_entries every_call
unfolding sequence first_bad fnv fnv_from grammar seek literal_child star_child added placed child_or_new onward grown planted counted joined line_in lines_in told settled laid_at laid filled_by filled build_leaves worst_of worst
met_premises = record {
  built = five_built;
  lent = (tt, (tt, (other_built, (tt, (tt, (tt, (tt, (tt, tt))))))));
  few = omega arith;
  apart = tokens-apart;
}

-- the makings are accepted
pub opened : Opened (table_of 5 five_entries 1) (words_for (table_of 5 five_entries 1)) (cabinet 1 (table_of 5 five_entries 1))
unfolding sequence first_bad fnv fnv_from grammar seek literal_child star_child added placed child_or_new onward grown planted counted joined line_in lines_in told settled laid_at laid filled_by filled build_leaves worst_of worst make with_capacity
opened = record { snapshot_made = refl; caches_made = λ i. (1, refl) }
