-- What two snapshots, both of generation 0, do with one cache: a list that a resolve through the one left is handed back through the other. So do ours, and so does the original.
--
--   one-cache_two_snapshots    snapshot 0 has the table of a 7, snapshot 1 the empty one: resolve `a` through 0, then through 1, is Routed 7 both times; through 1, then through 0, NoStream
--   original_too               through 0, then through 1, the original's list is 7 both times, by pairs-same
use Prim.Native.Nat.{ℕ, zero, suc}
use native.Mathlib.Omega.{arith}
use mathlib.Core.Path.{◌≡◌, refl, sym, ◌∙◌, ap}
use mathlib.Core.List.{List, [], ◌∷◌}
use lib.ListN.{replicate}
use Rattle.subject_rules.specs.Utf8.{sequence, first_bad}
use Rattle.subject_rules.specs.Fnv.{fnv, fnv_from}
use Rattle.subject_rules.specs.Grammar.{grammar}
use Rattle.sublist_tree.specs.Tree.{worst}
use Rattle.sublist_tree.specs.Table.{TableEntry}
use Rattle.sublist_tree.specs.Timetable.{bytes, entry}
use Rattle.sublist_area_rules.specs.Words.{seek, literal_child, star_child}
use Rattle.sublist_area_rules.specs.Growing.{added, placed, child_or_new, onward, grown, planted}
use Rattle.sublist_walk_rules.specs.Walk.{collect, push, visit, visits, arrived, on_token, on_tokens, exact, listed, ended, walk_over}
use Rattle.sublist_rules.specs.Building.{needed, worst_of, build_says}
use Rattle.sublist_rules.specs.Passes.{counted, joined, line_in, lines_in, told, settled, laid_at, laid, filled_by, filled}
use Rattle.sublist_rules.specs.Leaving.{build_leaves}
use Rattle.sublist_original.specs.Original.{Ok, Std}
use Rattle.sublist_snapshot.specs.Snapshot.{Table, first, copied, make}
use Rattle.resolve_cache_rules.specs.Mark.{hash_from, mark}
use Rattle.resolve_cache_rules.specs.Cache.{with_capacity, resolve, fresh}
use Rattle.binding.specs.declared.Resolution.{Resolution}
use Rattle.binding.specs.declared.Resolution.TheVariants.{Routed, NoStream}
use Rattle.binding.specs.Calls.{Reply, resolved}
use Rattle.binding.specs.Demand.{Opened}
use Rattle.binding.specs.Built.{BuiltFrom}
use Rattle.binding.specs.Timetable.{texts, list_from, table_of, words_for, slots, resolve as resolving}
use Rattle.binding_original.specs.Original.{Iter}
use Rattle.binding_original.specs.Calls as theirs
use Rattle.binding_original.specs.Calls.{Yard, cabinet_of, NamedCall, reply_on, after_on, World, Asked, resolves, Told, call, Fresh}
use Rattle.binding_original.specs.Caches.{unseen, EachSame}
use Rattle.binding_original.proofs.Whole.{pairs-same}

-- snapshot 0 has the table of a 7, every other the empty table
abbrev pub entries_in : ℕ → List TableEntry
entries_in zero = entry "a" 7 ∷ []
entries_in (suc j) = []

abbrev pub table_in : ℕ → Table
table_in zero = table_of 2 (entry "a" 7 ∷ []) 0
table_in (suc j) = table_of 1 [] 0

-- fresh makings of them, and fresh caches of capacity 1
abbrev pub yard : Yard
yard = record {
  snapshots = λ j. record { snapshot = first (table_in j); words = copied (table_in j) (words_for (table_in j)) };
  caches = λ i. record { cache = fresh 1; area = slots 1 };
}

-- resolve `a` on cache 0 through snapshot j
abbrev pub through : ℕ → NamedCall
through j = (j, resolving "a")

abbrev pub replies_on : Yard → List NamedCall → List Reply
replies_on y [] = []
replies_on y (n ∷ ns) = reply_on y n ∷ replies_on (after_on y n) ns

-- through 0 and then 1 the list is that of snapshot 0, both times; the other way round it is that of snapshot 1
pub one-cache_two_snapshots :
    (replies_on yard (through 0 ∷ through 1 ∷ []) ≡ resolved (7 ∷ []) (Routed 7) ∷ resolved (7 ∷ []) (Routed 7) ∷ [])
    × (replies_on yard (through 1 ∷ through 0 ∷ []) ≡ resolved [] NoStream ∷ resolved [] NoStream ∷ [])
unfolding sequence first_bad fnv fnv_from grammar worst seek literal_child star_child added placed child_or_new onward grown planted collect push visit visits arrived on_token on_tokens exact listed ended walk_over needed worst_of build_says counted joined line_in lines_in told settled laid_at laid filled_by filled build_leaves hash_from mark resolve
one-cache_two_snapshots = (refl, refl)

-- ---- the original's side

-- accepted builds and makings
made : (j : ℕ) → BuiltFrom (table_in j) (entries_in j) × Opened (table_in j) (words_for (table_in j)) (cabinet_of yard j)
unfolding sequence first_bad fnv fnv_from grammar worst seek literal_child star_child added placed child_or_new onward grown planted needed worst_of build_says counted joined line_in lines_in told settled laid_at laid filled_by filled build_leaves make with_capacity
made zero = (
  record {
    list = list_from 0 (entry "a" 7 ∷ []);
    store = texts (entry "a" 7 ∷ []);
    nodes_lent = replicate 32 0;
    targets_lent = replicate 1 0;
    worst_case = 1;
    accepted = refl;
    areas_left = refl;
    one_each = refl;
    texts_read = refl;
  },
  record { snapshot_made = refl; caches_made = λ i. (1, refl) },
)
made (suc j) = (
  record { list = []; store = []; nodes_lent = replicate 16 0; targets_lent = []; worst_case = 1; accepted = refl; areas_left = refl; one_each = refl; texts_read = refl },
  record { snapshot_made = refl; caches_made = λ i. (1, refl) },
)

-- the same call of theirs
abbrev alike : ℕ → NamedCall × Asked
alike j = (through j, resolves 0 j (bytes "a"))

-- their answer is the list that ours has with its verdict
told-list : (list : List ℕ) (verdict : Resolution) (more : List ℕ) (x : Told) → resolved list verdict ≡ theirs.told more x → x ≡ theirs.resolved list
told-list list verdict more (theirs.refused e) q = absurd (cc)
told-list list verdict more (theirs.storing g) q = absurd (cc)
told-list list verdict more theirs.cleared q = absurd (cc)
told-list list verdict more (theirs.matched l g) q = absurd (cc)
told-list list verdict more (theirs.resolved l) q = let same : list ≡ l = cc in ap theirs.resolved (sym same)
told-list list verdict more (theirs.home v) q = absurd (cc)

-- any fresh snapshots of the same entries, any fresh caches of the same capacity
module _ (std : Std) (iter : Iter ℕ) (w : World) (begins : Fresh std entries_in w) (capacities : (i : ℕ) → (w.caches i).capacity ≡ 1) where
  each_same : EachSame std iter unseen yard w (alike 0 ∷ alike 1 ∷ [])
  each_same =
      pairs-same std iter table_in entries_in (alike 0 ∷ alike 1 ∷ []) (λ j. (made j).0) (tt, (tt, tt)) ((begins.tables 0, refl, tt), ((begins.tables 1, refl, tt), tt)) (omega arith)
      (λ j. words_for (table_in j)) yard (λ j. (made j).1) w begins capacities

  pub original_too : (u v : World) × (call std iter w (resolves 0 0 (bytes "a")) ≡ Ok (theirs.resolved (7 ∷ []), u))
      × (call std iter u (resolves 0 1 (bytes "a")) ≡ Ok (theirs.resolved (7 ∷ []), v))
  unfolding sequence first_bad fnv fnv_from grammar worst seek literal_child star_child added placed child_or_new onward grown planted collect push visit visits arrived on_token on_tokens exact listed ended walk_over needed worst_of build_says counted joined line_in lines_in told settled laid_at laid filled_by filled build_leaves hash_from mark resolve
  original_too =
      let one = each_same.1 in
      let two = one.3.1 in (
        one.0.1,
        two.0.1,
        one.1 ∙ ap (λ x. Ok (x, one.0.1)) (told-list (7 ∷ []) (Routed 7) one.2.0 one.0.0 one.2.1),
        two.1 ∙ ap (λ x. Ok (x, two.0.1)) (told-list (7 ∷ []) (Routed 7) two.2.0 two.0.0 two.2.1),
      )
