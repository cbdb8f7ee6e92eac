-- The intended difference: the original's first table keeps the generation that build gave it. Built as 1, it has the one that the first store is stamped with, and a cache serves the old list.
-- Ours serves the new list: the timetable's row of 2026-03.
--
--   old_list_served    table a 7 built as 1, a cache of capacity 1: resolve `a` is 7, a store of any table is stamped 1, resolve `a` is 7 again
use Prim.Native.Nat.{ℕ}
use native.Mathlib.Omega.{arith}
use mathlib.Core.Path.{◌≡◌, refl, subst}
use mathlib.Core.List.{List, [], ◌∷◌}
use Rattle.subject_rules.specs.Utf8.{sequence, first_bad}
use Rattle.subject_rules.specs.Fnv.{fnv, fnv_from}
use Rattle.subject_rules.specs.Grammar.{grammar}
use Rattle.sublist_tree.specs.Lists.{All}
use Rattle.sublist_tree.specs.Table.{TableEntry, Accepted}
use Rattle.sublist_tree.specs.Timetable.{bytes, entry}
use Rattle.sublist_original.specs.Original.{Ok, Std, Sublist, build, match_into}
use Rattle.sublist_original.specs.Entries.{builder_of}
use Rattle.binding_original.specs.Original as original
use Rattle.binding_original.specs.Original.{Iter, stamp}
use Rattle.binding_original.specs.Calls.{World, with_cache, stores, resolves, storing, resolved, call}
use Rattle.binding_original.proofs.Stamping.{stamped-walks, stamped-same}

abbrev a_to7 : List TableEntry
a_to7 = entry "a" 7 ∷ []

abbrev a : List ℕ
a = bytes "a"

-- a fresh snapshot of a first table, and fresh caches of capacity 1
abbrev pub spare : Sublist ℕ → World
spare table = record { snapshots = λ j. original.new table; caches = λ i. original.with-capacity 1 }

accepts : All Accepted a_to7
unfolding sequence first_bad grammar
accepts = ((1, refl), tt)

module _ (std : Std) (iter : Iter ℕ) (other : Sublist ℕ) where
  -- three calls, of which each finds what the last left
  abbrev pub OldListServed : Sublist ℕ → Type 0
  OldListServed table =
      (u v x : World)
      × (call std iter (spare table) (resolves 0 0 a) ≡ Ok (resolved (7 ∷ []), u))
      × (call std iter u (stores 0 other) ≡ Ok (storing 1, v))
      × (call std iter v (resolves 0 0 a) ≡ Ok (resolved (7 ∷ []), x))

  pub old_list_served : (table : Sublist ℕ) → build std (builder_of a_to7) 1 ≡ Ok table → OldListServed table
  unfolding sequence first_bad fnv fnv_from grammar
  old_list_served table made = subst OldListServed whole (left, _, _, rw walks, refl, refl)
    where
      whole : stamp table 1 ≡ table
      whole = stamped-same std (builder_of a_to7) 1 table made

      -- the cache keeps the list under generation 1
      left : World
      left = with_cache (spare (stamp table 1)) 0 (original.miss iter (original.guarded 1 (original.with-capacity 1)) a (7 ∷ []))

      walks : match_into std (stamp table 1) a [] ≡ Ok (7 ∷ [])
      walks = stamped-walks std a_to7 table accepts (omega arith, 1, made) 1 a []
