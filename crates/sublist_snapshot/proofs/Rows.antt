-- The definitions give each row of ours.
use Rattle.std.proofs.Common.{refl}
use Rattle.subject_rules.specs.Utf8.{sequence, first_bad}
use Rattle.subject_rules.specs.Fnv.{fnv, fnv_from}
use Rattle.subject_rules.specs.Grammar.{grammar}
use Rattle.sublist_tree.specs.Lists.{All}
use Rattle.sublist_area_rules.specs.Words.{seek, literal_child, star_child}
use Rattle.sublist_walk_rules.specs.Walk.{collect, push, visit, visits, arrived, on_token, on_tokens, exact, listed, ended, walk_over}
use Rattle.sublist_walk_rules.specs.Matching.{match_table}
use Rattle.sublist_snapshot.specs.Snapshot.{make, make_empty, store_in, match_in}
use Rattle.sublist_snapshot.specs.Rows.{Holds, rows}

pub rows_hold : All Holds rows
unfolding rows sequence first_bad fnv fnv_from grammar seek literal_child star_child collect push visit visits arrived on_token on_tokens exact listed ended walk_over match_table make make_empty store_in match_in
rows_hold = (refl, (refl, (refl, (refl, (refl, (refl, (refl, (refl, (refl, ((refl, refl), ((refl, refl), ((refl, refl), (refl, ((refl, refl), (refl, (refl, (refl, (refl, (refl, (refl, (refl, (refl, tt))))))))))))))))))))))
