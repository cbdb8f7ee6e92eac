-- The theorem with nothing left open: for every list of calls of ours the original has the same calls, on snapshots and caches that it makes of the same entries and capacities.
--
--   original_same    tables from accepted builds, opened, fewer than 2^64 calls → the same calls of the original, its fresh snapshots and caches, EachSame
--   pairs-same       any such calls of the original, on any such snapshots and caches → EachSame
--   empty-same       `empty` is the snapshot of no entries
use Prim.Native.Nat.{ℕ, ◌<◌, ◌^◌, max}
use native.Mathlib.Omega.{arith}
use mathlib.Core.Path.{◌≡◌, refl, ◌∙◌, ap}
use mathlib.Core.List.{List, [], ◌∷◌, map}
use lib.ListN.{length, length-map}
use Rattle.sublist_tree.specs.Lists.{All}
use Rattle.sublist_tree.specs.Table.{TableEntry}
use Rattle.sublist_original.specs.Original.{Ok, Std, Sublist, build}
use Rattle.sublist_original.specs.Entries.{builder_of}
use Rattle.sublist_snapshot.specs.Snapshot.{Table, empty_table}
use Rattle.resolve_cache_rules.specs.declared.ResolveCache as ours
use Rattle.resolve_cache_rules.proofs.Keeps.{made_is}
use Rattle.binding.specs.Calls.{Call, store, clearing, asking, resolving, asking_home, resolving_home}
use Rattle.binding.specs.Demand.{Opened, Lent}
use Rattle.binding.specs.Built.{BuiltFrom}
use Rattle.binding.proofs.Builds.{empty-built}
use Rattle.binding_original.specs.Original.{Iter, new, empty, with-capacity}
use Rattle.binding_original.specs.Calls.{Yard, cabinet_of, NamedCall, World, Asked, asked, Tabled, SameCall, Fresh}
use Rattle.binding_original.specs.Caches.{unseen, EachSame}
use Rattle.binding_original.proofs.SameCalls.{firsts, calls_same}
use Rattle.binding_original.proofs.FirstTables.{built-few, their_table, FirstBuilt, first_table}

-- ---- the same calls

module _ (std : Std) where
  -- `any` is a table for the calls that store none
  partner : Sublist ℕ → (c : Call) → Lent c → (table : Sublist ℕ) × Tabled std table c
  partner any (store t es) built = let made = their_table std t es built 0 in (made.0, (built-few t es built, 0, made.1))
  partner any (clearing i) lent = (any, tt)
  partner any (asking subject out) lent = (any, tt)
  partner any (resolving i subject out) lent = (any, tt)
  partner any (asking_home subject out) lent = (any, tt)
  partner any (resolving_home i subject out) lent = (any, tt)

  partners : Sublist ℕ → (calls : List NamedCall) → All Lent (map (λ n. n.1) calls)
      → (xs : List (NamedCall × Asked)) × (map (λ x. x.0) xs ≡ calls) × All (SameCall std) xs × All Lent (firsts xs)
  partners any [] lent = ([], refl, tt, tt)
  partners any (n ∷ calls) lent =
      let one = partner any n.1 lent.0 in
      let rest = partners any calls lent.1 in
      ((n, asked one.0 n) ∷ rest.0, ap (λ ns. n ∷ ns) rest.1, ((one.0, refl, one.1), rest.2), (lent.0, rest.3))

-- ---- the theorems

pub pairs-same : (std : Std) (iter : Iter ℕ) (ts : ℕ → Table) (es : ℕ → List TableEntry) (calls : List (NamedCall × Asked))
    → ((j : ℕ) → BuiltFrom (ts j) (es j)) → All Lent (firsts calls) → All (SameCall std) calls → length calls < 2 ^ 64
    → (areas : ℕ → List ℕ) (y : Yard) → ((j : ℕ) → Opened (ts j) (areas j) (cabinet_of y j)) → (w : World) → Fresh std es w
    → ((i : ℕ) → (w.caches i).capacity ≡ (y.caches i).cache.capacity) → EachSame std iter unseen y w calls
pairs-same std iter ts es calls built lent same few areas y opened w fresh alike = calls_same std iter ts es built areas y opened w fresh alike calls lent same few

-- the original beside a list of calls of ours: its calls, and its snapshots and caches
pub record Original (std : Std) (iter : Iter ℕ) (ts : ℕ → Table) (es : ℕ → List TableEntry) (y : Yard) (calls : List NamedCall) : Type 0 where
  pub both_calls : List (NamedCall × Asked)
  pub of_ours : map (λ x. x.0) both_calls ≡ calls
  pub same-calls : All (SameCall std) both_calls
  pub world : World
  pub begins : Fresh std es world
  pub capacities : (i : ℕ) → (world.caches i).capacity ≡ (y.caches i).cache.capacity
  pub answers : EachSame std iter unseen y world both_calls

pub original_same : (std : Std) (iter : Iter ℕ) (ts : ℕ → Table) (es : ℕ → List TableEntry) (calls : List NamedCall)
    → ((j : ℕ) → BuiltFrom (ts j) (es j)) → All Lent (map (λ n. n.1) calls) → length calls < 2 ^ 64
    → (areas : ℕ → List ℕ) (y : Yard) → ((j : ℕ) → Opened (ts j) (areas j) (cabinet_of y j)) → Original std iter ts es y calls
original_same std iter ts es calls built lent few areas y opened = record {
  both_calls = xs;
  of_ours = ps.1;
  same-calls = ps.2;
  world = w;
  begins = begins;
  capacities = alike;
  answers = pairs-same std iter ts es xs built ps.3 ps.2 (omega (arith, few, length-map xs (λ x. x.0), ap length ps.1)) areas y opened w begins alike;
}
  where
    made : (j : ℕ) → (table : Sublist ℕ) × FirstBuilt std (es j) table
    made j = first_table std (ts j) (es j) (built j)

    ps : (xs : List (NamedCall × Asked)) × (map (λ x. x.0) xs ≡ calls) × All (SameCall std) xs × All Lent (firsts xs)
    ps = partners std (made 0).0 calls lent

    xs : List (NamedCall × Asked)
    xs = ps.0

    -- the number that each cache of ours was made with
    number : ℕ → ℕ
    number i = ((opened 0).caches_made i).0

    w : World
    w = record { snapshots = λ j. new (made j).0; caches = λ i. with-capacity (number i) }

    begins : Fresh std es w
    begins = record { tables = λ j. (made j).0; few = λ j. built-few (ts j) (es j) (built j); built = λ j. (made j).1; made = λ j. refl; caches = λ i. (number i, refl) }

    alike : (i : ℕ) → (w.caches i).capacity ≡ (y.caches i).cache.capacity
    alike i = let e : max (number i) 1 ≡ max 1 (number i) = omega arith in e ∙ ap (λ (d : ours.ResolveCache). d.capacity) (made_is (number i) (y.caches i).cache (y.caches i).area ((opened 0).caches_made i).1).1

-- the other name of the first call
pub empty-same : (std : Std) → (table : Sublist ℕ) × (build std (builder_of []) 0 ≡ Ok table) × (empty std ≡ Ok (new table))
empty-same std = let made = their_table std empty_table [] empty-built 0 in (made.0, made.1, rw made.1)
