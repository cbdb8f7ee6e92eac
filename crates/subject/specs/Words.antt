-- Words of a text: eight of its bytes as a number.
use Rattle.std.specs.Prelude.{ℕ, ◌+◌, ◌*◌, List, [], ◌∷◌, slice_index}

-- the number that bytes spell, lowest first
abbrev pub spell : List ℕ → ℕ
spell [] = 0
spell (b ∷ bs) = b + 256 * spell bs

-- the number that the eight bytes from position `at` on spell; 0 stands for those that are not there
abbrev pub eight_at : List ℕ → ℕ → ℕ
eight_at s at =
    spell (slice_index s at ∷ slice_index s (at + 1) ∷ slice_index s (at + 2) ∷ slice_index s (at + 3)
    ∷ slice_index s (at + 4) ∷ slice_index s (at + 5) ∷ slice_index s (at + 6) ∷ slice_index s (at + 7) ∷ [])
