-- Our entries, as the original's builder keeps them.
use Rattle.std.specs.Prelude.{ℕ, List, map}
use Rattle.sublist_tree.specs.Table.{TableEntry}
use Rattle.sublist_original.specs.Original.{SublistBuilder}

abbrev pub pair : TableEntry → List ℕ × ℕ
pair e = (e.pattern, e.target)

abbrev pub pairs : List TableEntry → List (List ℕ × ℕ)
pairs es = map pair es

-- a builder that has these
abbrev pub builder_of : List TableEntry → SublistBuilder ℕ
builder_of es = record { entries = pairs es }
