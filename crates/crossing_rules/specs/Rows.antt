-- Rows: 2026-01's sentences as examples. Outputs are lent as full of `-`, so that what is left alone can be seen.
use Prim.Native.String.{String}
use Rattle.std.specs.Prelude.{◌≡◌, List, [], ◌∷◌}
use Rattle.subject_rules.specs.Answers.{Answer, answer}
use Rattle.subject_rules.specs.Outputs.{outcome}
use Rattle.sublist_tree.specs.Timetable.{bytes}
use Rattle.crossing_rules.specs.Crossing.{crossing}

-- two patterns and the lent output; the answer, and the output then
pub data Row : Type 0 where
  row : (first second out : String) (says : Answer) (left : String) → Row

abbrev pub Holds : Row → Type 0
Holds (row first second out says left) =
    crossing (bytes first) (bytes second) (bytes out) ≡ outcome says (bytes left)

unfoldable pub rows : List Row
rows =
    -- a subject that both match
    row "a.*" "*.b" "-----" (answer 0 (1 ∷ 3 ∷ [])) "a.b--"
    ∷ row "yard.*.points.>" "yard.n.*.*.set" "--------------------" (answer 0 (1 ∷ 19 ∷ [])) "yard.n.points.x.set-"
    ∷ row "a.b" "a.b" "---" (answer 0 (1 ∷ 3 ∷ [])) "a.b"
    -- a position that is wild in both
    ∷ row "*" "*" "--" (answer 0 (1 ∷ 1 ∷ [])) "x-"
    ∷ row ">" ">" "--" (answer 0 (1 ∷ 1 ∷ [])) "x-"
    ∷ row "a.>" "*.*.b" "-----" (answer 0 (1 ∷ 5 ∷ [])) "a.x.b"
    ∷ row "*.>" ">" "-----" (answer 0 (1 ∷ 3 ∷ [])) "x.x--"
    ∷ row "*.b.>" "a.>" "-----" (answer 0 (1 ∷ 5 ∷ [])) "a.b.x"
    -- none: `>` takes a token, other lengths, other literals
    ∷ row "a.>" "a" "---" (answer 0 (0 ∷ [])) "---"
    ∷ row "a" "a.>" "---" (answer 0 (0 ∷ [])) "---"
    ∷ row "a.*" "a" "---" (answer 0 (0 ∷ [])) "---"
    ∷ row "a.*.c" "a.b.d" "---" (answer 0 (0 ∷ [])) "---"
    -- and with no output lent
    ∷ row "a" "b" "" (answer 0 (0 ∷ [])) ""
    -- too short an output, with the length needed
    ∷ row "a.*" "*.b" "--" (answer 21 (3 ∷ [])) "--"
    -- the first pattern is parsed before the second, and both before 21
    ∷ row "" ">.a" "--" (answer 3 []) "--"
    ∷ row ">.a" "" "--" (answer 4 (0 ∷ [])) "--"
    ∷ row "a" "b..c" "" (answer 6 (1 ∷ [])) ""
    ∷ []
