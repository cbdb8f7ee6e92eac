-- The load maker (2026-13): the text that is made from a state, and the calls `make_pattern` and `make_subject`.
-- `wild` is true for a pattern.
use Rattle.std.specs.Prelude.{ℕ, zero, suc, ◌+◌, ◌%◌, Bool, true, false, List, [], ◌∷◌, eqb, ltb, length}
use Rattle.subject_rules.specs.Choice.{pick}
use Rattle.subject_rules.specs.Text.{joined}
use Rattle.subject_rules.specs.Answers.{Answer, answer}
use Rattle.subject_rules.specs.Outputs.{over}
use Rattle.load_maker_rules.specs.Xorshift.{draw, draws}

-- "1 + draw mod 6 tokens"
abbrev pub count : ℕ → ℕ
count s = 1 + draw s % 6

-- a letter by its number from `a` (61), which is 0
abbrev pub letter : ℕ → ℕ
letter number = 0x61 + number

-- a pattern's token by draw mod 10: "0 is `*`" (2A); "1 is `>`" (3E) "in last position and `*` elsewhere"; "2 to 9 are
-- the letters a to h"
abbrev pub pattern_byte : Bool → ℕ → ℕ
pattern_byte last zero = 0x2a
pattern_byte last (suc zero) = pick last 0x3e 0x2a
pattern_byte last (suc (suc n)) = letter n

-- a subject's: "the letter number draw mod 8 from a, which is 0"
abbrev pub token_byte : Bool → Bool → ℕ → ℕ
token_byte true last draw = pattern_byte last (draw % 10)
token_byte false last draw = letter (draw % 8)

-- so many tokens, a draw for each
abbrev pub made_tokens : Bool → ℕ → ℕ → List (List ℕ)
made_tokens wild zero s = []
made_tokens wild (suc n) s = (token_byte wild (eqb n 0) (draw s) ∷ []) ∷ made_tokens wild n (draw s)

-- the text made from a state: a draw for the count, then the tokens
unfoldable pub made_text : Bool → ℕ → List ℕ
made_text wild s = joined (made_tokens wild (count s) (draw s))

-- the new state, behind all these draws
unfoldable pub new_state : ℕ → ℕ
new_state s = draws (1 + count s) s

-- a call: its answer, the state that it gives back, and the output afterwards
pub data Making : Type 0 where
  made : Answer → ℕ → List ℕ → Making

-- 28, then 21 with the length needed: both leave state and output; else the text, written over the first places, its
-- length, and the new state
unfoldable pub make : Bool → ℕ → List ℕ → Making
make wild s out =
    let text = made_text wild s in
    pick (eqb s 0) (made (answer 28 []) s out)
    (pick (ltb (length out) (length text)) (made (answer 21 (length text ∷ [])) s out)
    (made (answer 0 (length text ∷ [])) (new_state s) (over text out)))
