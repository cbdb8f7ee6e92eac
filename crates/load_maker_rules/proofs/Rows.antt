-- The definitions give each row.
use mathlib.Core.Path.{refl}
use Rattle.sublist_tree.specs.Lists.{All}
use Rattle.load_maker_rules.specs.Xorshift.{draw}
use Rattle.load_maker_rules.specs.Load.{made_text, new_state, make}
use Rattle.load_maker_rules.specs.Rows.{Holds, rows}

pub rows_hold : All Holds rows
unfolding rows draw made_text new_state make
rows_hold =
    (refl, (refl, (refl, (refl, (refl, (refl, (refl, (refl, (refl, (refl, (refl, (refl, (refl, (refl, (refl, (refl, (refl, (refl, (refl, (refl, (refl, (refl, (refl, (refl, (refl, (refl, (refl, (refl, tt))))))))))))))))))))))))))))
