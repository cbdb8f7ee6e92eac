-- The definitions give each row of ours.
use mathlib.Core.Path.{refl}
use Rattle.subject_rules.specs.Utf8.{sequence, first_bad}
use Rattle.subject_rules.specs.Fnv.{fnv, fnv_from}
use Rattle.subject_rules.specs.Grammar.{grammar}
use Rattle.sublist_tree.specs.Lists.{All}
use Rattle.sublist_area_rules.specs.Words.{seek, literal_child, star_child}
use Rattle.sublist_walk_rules.specs.Walk.{collect, push, visit, visits, arrived, on_token, on_tokens, exact, listed, ended, walk_over}
use Rattle.resolve_cache_rules.specs.Mark.{hash_from, mark}
use Rattle.resolve_cache_rules.specs.Cache.{with_capacity, clear, resolve}
use Rattle.resolve_cache_rules.specs.Rows.{Holds, rows}

pub rows_hold : All Holds rows
unfolding rows sequence first_bad fnv fnv_from grammar seek literal_child star_child collect push visit visits arrived on_token on_tokens exact listed ended walk_over hash_from mark with_capacity clear resolve
rows_hold = (refl, (refl, (refl, (refl, (refl, (refl, (refl, (refl, (refl, (refl, (refl, (refl, (refl, (refl, (refl, (refl, (refl, (refl, (refl, (refl, (refl, (refl, (refl, (refl, (refl, (refl, (refl, (refl, (refl, (refl, (refl, (refl, (refl, (refl, ((refl, refl), ((refl, refl), ((refl, refl), ((refl, refl), (refl, (refl, (refl, (refl, (refl, (refl, ((refl, refl, refl, refl), (refl, tt))))))))))))))))))))))))))))))))))))))))))))))
