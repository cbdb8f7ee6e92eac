-- Crossing patterns (2026-01): a subject that two patterns both match, or that there is none; the call `crossing`.
-- `filler` is the token for a position that is wild in both patterns, `x` in the call.
use Rattle.std.specs.Prelude.{ℕ, Bool, true, List, [], ◌∷◌, map, ltb, length}
use Rattle.std.proofs.Math.Option.{Option, none, some}
use Rattle.subject_rules.specs.Choice.{pick, or}
use Rattle.subject_rules.specs.Text.{tokens, joined, is_star, is_tail, same}
use Rattle.subject_rules.specs.Answers.{answer}
use Rattle.subject_rules.specs.Grammar.{grammar}
use Rattle.subject_rules.specs.Outputs.{Outcome, outcome, over, if_parsed}

-- the token is a wildcard
abbrev pub is_wild : List ℕ → Bool
is_wild t = or (is_star t) (is_tail t)

-- a pattern's token in a subject: a literal stays, a wildcard becomes the filler
abbrev pub plain : List ℕ → List ℕ → List ℕ
plain filler t = pick (is_wild t) filler t

-- the token that two tokens, neither of them `>`, both match: a literal, the filler if both are `*`; none if two
-- literals differ
abbrev pub meet : List ℕ → List ℕ → List ℕ → Option (List ℕ)
meet filler p q =
    pick (is_star p) (some (plain filler q))
    (pick (or (is_star q) (same p q)) (some p) none)

-- a token in front of those behind it, if there are both
abbrev pub followed : Option (List ℕ) → Option (List (List ℕ)) → Option (List (List ℕ))
followed none rest = none
followed (some t) none = none
followed (some t) (some ts) = some (t ∷ ts)

-- the tokens of the shortest subject that the tokens of two patterns match: behind a `>` those of the other pattern
abbrev pub common : List ℕ → List (List ℕ) → List (List ℕ) → Option (List (List ℕ))
common filler [] [] = some []
common filler [] (q ∷ qs) = none
common filler (p ∷ ps) [] = none
common filler (p ∷ ps) (q ∷ qs) =
    pick (is_tail p) (some (map (plain filler) (q ∷ qs)))
    (pick (is_tail q) (some (map (plain filler) (p ∷ ps)))
    (followed (meet filler p q) (common filler ps qs)))

-- a subject has at most 4,096 bytes
abbrev pub of_tokens : Option (List (List ℕ)) → Option (List ℕ)
of_tokens none = none
of_tokens (some ts) = pick (ltb 4096 (length (joined ts))) none (some (joined ts))

-- the subject that is shown for two accepted patterns
unfoldable pub shown_for : List ℕ → List ℕ → List ℕ → Option (List ℕ)
shown_for filler first second = of_tokens (common filler (tokens first) (tokens second))

-- none; or 21 with the length needed; or the subject, written over the first places
abbrev pub show_in : Option (List ℕ) → List ℕ → Outcome
show_in none out = outcome (answer 0 (0 ∷ [])) out
show_in (some s) out =
    pick (ltb (length out) (length s)) (outcome (answer 21 (length s ∷ [])) out)
    (outcome (answer 0 (1 ∷ length s ∷ [])) (over s out))

-- 1 to 9 of the first pattern, then of the second
unfoldable pub crossing_with : List ℕ → List ℕ → List ℕ → List ℕ → Outcome
crossing_with filler first second out =
    if_parsed (grammar true first) out
    (if_parsed (grammar true second) out
    (show_in (shown_for filler first second) out))

-- `crossing`: "a position that is wild in both patterns gets the token `x`" (78)
unfoldable pub crossing : List ℕ → List ℕ → List ℕ → Outcome
crossing first second out = crossing_with (0x78 ∷ []) first second out
