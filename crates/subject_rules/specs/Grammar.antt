-- Which texts are subjects and which are patterns: rules 1 to 9 of document 01, in its order. `wild` is true for a
-- pattern.
use Rattle.std.specs.Prelude.{ℕ, ◌+◌, Bool, true, false, List, [], ◌∷◌, eqb, ltb, length}
use Rattle.std.proofs.Math.Option.{Option, none, some}
use Rattle.subject_rules.specs.Choice.{pick, or}
use Rattle.subject_rules.specs.Text.{tokens, is_star, is_tail}
use Rattle.subject_rules.specs.Utf8.{first_bad}
use Rattle.subject_rules.specs.Answers.{Answer, answer, unless}

-- 8 and 9 for one character. Each that they name is ASCII, and in UTF-8 a byte below 80 is a whole character.
abbrev pub bad_char : ℕ → ℕ → Option Answer
bad_char index b =
    pick (or (ltb b 0x20) (eqb b 0x7f)) (some (answer 8 (b ∷ index ∷ [])))
    (pick (or (eqb b 0x2a) (eqb b 0x3e)) (some (answer 9 (b ∷ index ∷ []))) none)

-- the first that there is
abbrev pub first_of : Option Answer → Option Answer → Option Answer
first_of none other = other
first_of (some a) other = some a

-- 8 and 9: the first offending character
abbrev pub bad_chars : ℕ → List ℕ → Option Answer
bad_chars index [] = none
bad_chars index (b ∷ bs) = first_of (bad_char index b) (bad_chars index bs)

-- 6 to 9 for one token
abbrev pub bad_token : Bool → ℕ → List ℕ → Option Answer
bad_token wild index [] = some (answer 6 (index ∷ []))
bad_token wild index (b ∷ bs) =
    pick (or (is_star (b ∷ bs)) (is_tail (b ∷ bs)))
    (pick wild none (some (answer 7 (b ∷ index ∷ []))))
    (bad_chars index (b ∷ bs))

-- 5: a 33rd token is reached, whose index is 32
abbrev pub too_deep : ℕ → Bool
too_deep index = eqb index 32

-- where a `>` was passed
abbrev pub tail_at : Bool → ℕ → Option ℕ
tail_at true index = some index
tail_at false index = none

-- 4 to 9, token by token from the left: `passed` is the index of a `>` passed, `index` counts the tokens passed
abbrev pub check : Bool → Option ℕ → ℕ → List (List ℕ) → Answer
check wild passed index [] = answer 0 (index ∷ [])
check wild (some at) index (t ∷ ts) = answer 4 (at ∷ [])
check wild none index (t ∷ ts) =
    pick (too_deep index) (answer 5 (33 ∷ []))
    (unless (bad_token wild index t) (check wild (tail_at (is_tail t) index) (index + 1) ts))

-- 2
abbrev pub not_utf8 : Option ℕ → Option Answer
not_utf8 none = none
not_utf8 (some index) = some (answer 2 (index ∷ []))

-- 1: the text has over 4,096 bytes
abbrev pub too_long : List ℕ → Bool
too_long bs = ltb 4096 (length bs)

-- 1 to 9: the token count, or the refusal
unfoldable pub grammar : Bool → List ℕ → Answer
grammar wild bs =
    pick (too_long bs) (answer 1 [])
    (unless (not_utf8 (first_bad bs))
    (pick (eqb (length bs) 0) (answer 3 [])
    (check wild none 0 (tokens bs))))
