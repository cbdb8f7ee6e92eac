-- The definitions give each row of the timetable.
use mathlib.Core.Path.{refl}
use mathlib.Core.List.{List, [], ◌∷◌, ◌++◌, map}
use Rattle.subject_rules.specs.Utf8.{sequence, first_bad}
use Rattle.subject_rules.specs.Fnv.{fnv, fnv_from}
use Rattle.subject_rules.specs.Grammar.{grammar}
use Rattle.sublist_tree.specs.Lists.{All}
use Rattle.sublist_tree.specs.Tree.{worst}
use Rattle.sublist_tree.specs.Timetable.{Holds as holds_text, timetable as text_timetable}
use Rattle.sublist_tree.proofs.Rows.{timetable-holds as text-rows}
use Rattle.sublist_area_rules.specs.Words.{seek, literal_child, star_child}
use Rattle.sublist_area_rules.specs.Growing.{added, placed, child_or_new, onward, grown, planted}
use Rattle.sublist_walk_rules.specs.Walk.{collect, push, visit, visits, arrived, on_token, on_tokens, exact, listed, ended, walk_over}
use Rattle.sublist_walk_rules.specs.Matching.{match_table}
use Rattle.sublist_rules.specs.Building.{needed, worst_of, build_says}
use Rattle.sublist_rules.specs.Passes.{counted, joined, line_in, lines_in, told, settled, laid_at, laid, filled_by, filled}
use Rattle.sublist_rules.specs.Leaving.{build_leaves}
use Rattle.sublist_snapshot.specs.Snapshot.{make, store_in, match_in}
use Rattle.resolve_cache_rules.specs.Mark.{hash_from, mark}
use Rattle.resolve_cache_rules.specs.Cache.{with_capacity, clear, resolve}
use Rattle.resolve_cache_rules.specs.Rows.{Row as CacheRow, Holds as holds_lent, rows as cache_rows}
use Rattle.resolve_cache_rules.proofs.Rows.{rows_hold as cache-rows}
use Rattle.binding.specs.Verdict.{resolve_single_home, resolve_single_home_cached}
use Rattle.binding.specs.Timetable.{Row, text, lent, Holds, call_rows, timetable}

-- the rows with calls compute: two of routes, three of calls, two of caches
call_rows_lem : All Holds call_rows
unfolding call_rows sequence first_bad fnv fnv_from grammar worst seek literal_child star_child added placed child_or_new onward grown planted collect push visit visits arrived on_token on_tokens exact listed ended walk_over match_table needed worst_of build_says counted joined line_in lines_in told settled laid_at laid filled_by filled build_leaves make store_in match_in hash_from mark with_capacity clear resolve resolve_single_home resolve_single_home_cached
call_rows_lem = (
  (refl, record { snapshot_made = refl; caches_made = λ i. (1, refl) }, refl),
  (
    (refl, record { snapshot_made = refl; caches_made = λ i. (1, refl) }, refl),
    (
      ((1, refl), (tt, ((1, refl, (1, refl)), (tt, tt))), record { snapshot_made = refl; caches_made = λ i. (1, refl) }, refl),
      (
        ((1, refl), (tt, ((1, refl, (1, refl)), (tt, tt))), record { snapshot_made = refl; caches_made = λ i. (1, refl) }, refl),
        (
          ((2, refl), (tt, (tt, ((2, refl, (1, refl)), (tt, (tt, (tt, (tt, (tt, tt)))))))), record { snapshot_made = refl; caches_made = λ i. (1, refl) }, refl),
          (
            (record { snapshot_made = refl; caches_made = λ i. (2, refl) }, refl, refl),
            (
              (record { snapshot_made = refl; caches_made = λ i. (2, refl) }, refl, refl),
              tt,
            ),
          ),
        ),
      ),
    ),
  ),
)

-- rows of one kind and then others
rows_behind : {A : Type 0} (kind : A → Row) (P : A → Type 0) → ((a : A) → P a → Holds (kind a)) → (xs : List A) → All P xs → (others : List Row) → All Holds others → All Holds (map kind xs ++ others)
rows_behind kind P f [] h others o = o
rows_behind kind P f (x ∷ xs) h others o = (f x h.0, rows_behind kind P f xs h.1 others o)

-- two lists of rows
rows_join : (xs ys : List Row) → All Holds xs → All Holds ys → All Holds (xs ++ ys)
rows_join [] ys a b = b
rows_join (x ∷ xs) ys a b = (a.0, rows_join xs ys a.1 b)

cache-part : (xs : List CacheRow) → All holds_lent xs → All Holds (map lent xs)
cache-part [] h = tt
cache-part (x ∷ xs) h = (h.0, cache-part xs h.1)

-- the definitions give each row
pub timetable-holds : All Holds timetable
unfolding timetable
timetable-holds = rows_behind text holds_text (λ a h. h) text_timetable text-rows (call_rows ++ map lent cache_rows) (rows_join call_rows (map lent cache_rows) call_rows_lem (cache-part cache_rows cache-rows))
