-- The NATS wildcard rules on tokens, and the call `matches`.
use Rattle.std.specs.Prelude.{ℕ, Bool, true, false, List, [], ◌∷◌}
use Rattle.subject_rules.specs.Choice.{pick, and, or}
use Rattle.subject_rules.specs.Text.{tokens, is_star, is_tail, same}
use Rattle.subject_rules.specs.Answers.{Answer, said, when_accepted}
use Rattle.subject_rules.specs.Grammar.{grammar}

-- a pattern's tokens against a subject's: `>` stands for one or more remaining tokens, `*` for one token, a literal for
-- the same bytes; both are used up together
abbrev pub match_tokens : List (List ℕ) → List (List ℕ) → Bool
match_tokens [] [] = true
match_tokens [] (s ∷ ss) = false
match_tokens (p ∷ ps) [] = false
match_tokens (p ∷ ps) (s ∷ ss) = pick (is_tail p) true (and (or (is_star p) (same p s)) (match_tokens ps ss))

-- the pattern is checked before the subject
unfoldable pub matching : List ℕ → List ℕ → Answer
matching pattern subject =
    when_accepted (grammar true pattern)
    (when_accepted (grammar false subject)
    (said (match_tokens (tokens pattern) (tokens subject))))
