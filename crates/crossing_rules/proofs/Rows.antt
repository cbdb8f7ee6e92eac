-- The definitions give each row.
use mathlib.Core.Path.{refl}
use Rattle.subject_rules.specs.Utf8.{sequence, first_bad}
use Rattle.subject_rules.specs.Grammar.{grammar}
use Rattle.sublist_tree.specs.Lists.{All}
use Rattle.crossing_rules.specs.Crossing.{shown_for, crossing_with, crossing}
use Rattle.crossing_rules.specs.Rows.{Holds, rows}

pub rows_hold : All Holds rows
unfolding rows sequence first_bad grammar shown_for crossing_with crossing
rows_hold =
    (refl, (refl, (refl, (refl, (refl, (refl, (refl, (refl, (refl, (refl, (refl, (refl, (refl, (refl, (refl, (refl, (refl, tt)))))))))))))))))
