-- The definition gives each row.
use mathlib.Core.Path.{refl}
use Rattle.subject_rules.specs.Utf8.{sequence, first_bad}
use Rattle.subject_rules.specs.Fnv.{fnv, fnv_from}
use Rattle.subject_rules.specs.Grammar.{grammar}
use Rattle.sublist_tree.specs.Lists.{All}
use Rattle.sublist_tree.specs.Tree.{worst}
use Rattle.sublist_area_rules.specs.Words.{seek, literal_child, star_child}
use Rattle.sublist_area_rules.specs.Growing.{added, placed, child_or_new, onward, grown, planted}
use Rattle.sublist_walk_rules.specs.Walk.{collect, push, visit, visits, arrived, on_token, on_tokens, exact, listed, ended, walk_over}
use Rattle.sublist_rules.specs.Building.{needed, worst_of, build_says}
use Rattle.sublist_rules.specs.Passes.{counted, joined, line_in, lines_in, told, settled, laid_at, laid, filled_by, filled}
use Rattle.sublist_rules.specs.Leaving.{build_leaves}
use Rattle.whole_move_rules.specs.Move.{whole_move}
use Rattle.whole_move_rules.specs.Rows.{Holds, rows}

pub rows_hold : All Holds rows
unfolding rows whole_move sequence first_bad fnv fnv_from grammar worst needed worst_of build_says seek literal_child star_child added placed child_or_new onward grown planted collect push visit visits arrived on_token on_tokens exact listed ended walk_over counted joined line_in lines_in told settled laid_at laid filled_by filled build_leaves
rows_hold =
    (refl, (refl, (refl, (refl, (refl, (refl, (refl, (refl, (refl, (refl, (refl, (refl, (refl, (refl, (refl, (refl, (refl, (refl, (refl, (refl, (refl, tt)))))))))))))))))))))
