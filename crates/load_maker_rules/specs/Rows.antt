-- Rows: draws from Marsaglia's own start, and texts, as separate programs made them. Outputs are lent as full of `-`,
-- so that what is left alone can be seen.
use Rattle.std.specs.Prelude.{ℕ, ◌≡◌, true, false, List, [], ◌∷◌}
use Prim.Native.String.{String}
use Rattle.subject_rules.specs.Answers.{Answer, answer}
use Rattle.sublist_tree.specs.Timetable.{bytes}
use Rattle.load_maker_rules.specs.Xorshift.{draw}
use Rattle.load_maker_rules.specs.Load.{made, make}

pub data Row : Type 0 where
  -- a state, and the draw from it
  drawn : (state new : ℕ) → Row
  -- a start and the lent output; the answer, the state given back and the output then
  pattern : (start : ℕ) (out : String) (says : Answer) (state : ℕ) (left : String) → Row
  subject : (start : ℕ) (out : String) (says : Answer) (state : ℕ) (left : String) → Row

abbrev pub Holds : Row → Type 0
Holds (drawn state new) = draw state ≡ new
Holds (pattern start out says state left) = make true start (bytes out) ≡ made says state (bytes left)
Holds (subject start out says state left) = make false start (bytes out) ≡ made says state (bytes left)

unfoldable pub rows : List Row
rows =
    -- Marsaglia's own start, and the largest
    drawn 88172645463325252 8748534153485358512
    ∷ drawn 8748534153485358512 3040900993826735515
    ∷ drawn 3040900993826735515 3453997556048239312
    ∷ drawn 18446744073709551615 1065361344
    -- from start 1, one behind another: patterns
    ∷ pattern 1 "-----------" (answer 0 (7 ∷ [])) 9659130143999365733 "d.f.d.b----"
    ∷ pattern 9659130143999365733 "-----------" (answer 0 (3 ∷ [])) 14279964170112293133 "*.b--------"
    ∷ pattern 14279964170112293133 "-----------" (answer 0 (7 ∷ [])) 5632491372296299238 "g.c.b.g----"
    ∷ pattern 5632491372296299238 "-----------" (answer 0 (3 ∷ [])) 14960181732260564859 "g.h--------"
    ∷ pattern 14960181732260564859 "-----------" (answer 0 (11 ∷ [])) 2696366417989762466 "d.b.*.c.h.e"
    ∷ pattern 2696366417989762466 "-----------" (answer 0 (3 ∷ [])) 17489430009591986844 "*.c--------"
    -- and subjects
    ∷ subject 1 "-----------" (answer 0 (7 ∷ [])) 9659130143999365733 "b.b.f.f----"
    ∷ subject 9659130143999365733 "-----------" (answer 0 (3 ∷ [])) 14279964170112293133 "b.f--------"
    ∷ subject 14279964170112293133 "-----------" (answer 0 (7 ∷ [])) 5632491372296299238 "g.e.b.g----"
    ∷ subject 5632491372296299238 "-----------" (answer 0 (3 ∷ [])) 14960181732260564859 "e.d--------"
    ∷ subject 14960181732260564859 "-----------" (answer 0 (11 ∷ [])) 2696366417989762466 "b.h.e.a.b.c"
    ∷ subject 2696366417989762466 "-----------" (answer 0 (3 ∷ [])) 17489430009591986844 "c.e--------"
    -- `>` alone, `*` alone; draws of 0, 2, 1, 9 and 1 mod 10
    ∷ pattern 10 "-" (answer 0 (1 ∷ [])) 11529929988337863311 ">"
    ∷ pattern 12 "-" (answer 0 (1 ∷ [])) 13835915847492760330 "*"
    ∷ pattern 4019 "----------" (answer 0 (9 ∷ [])) 4936161919908677891 "*.a.*.h.>-"
    -- the largest start
    ∷ pattern 18446744073709551615 "--" (answer 0 (1 ∷ [])) 1152851127339773951 ">-"
    ∷ subject 18446744073709551615 "--" (answer 0 (1 ∷ [])) 1152851127339773951 "h-"
    -- too short an output by one byte: state and output as lent
    ∷ pattern 1 "------" (answer 21 (7 ∷ [])) 1 "------"
    ∷ subject 1 "------" (answer 21 (7 ∷ [])) 1 "------"
    ∷ pattern 10 "" (answer 21 (1 ∷ [])) 10 ""
    -- the start 0, with room and without
    ∷ pattern 0 "-----------" (answer 28 []) 0 "-----------"
    ∷ subject 0 "-----------" (answer 28 []) 0 "-----------"
    ∷ pattern 0 "" (answer 28 []) 0 ""
    ∷ subject 0 "" (answer 28 []) 0 ""
    ∷ []
