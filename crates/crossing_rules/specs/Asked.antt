-- What 2026-01 asks, sentence by sentence, of any answer and output: nothing here speaks of how the subject is found.
use Rattle.std.specs.Prelude.{ℕ, zero, suc, ◌≤◌, ◌<◌, ◌≡◌, Bool, true, false, List, [], ◌∷◌, ◌++◌, length, get_or, drop}
use Rattle.subject_rules.specs.Choice.{or}
use Rattle.subject_rules.specs.Text.{tokens, is_star, is_tail}
use Rattle.subject_rules.specs.Answers.{Answer, answer, said}
use Rattle.subject_rules.specs.Grammar.{grammar}
use Rattle.subject_rules.specs.Matching.{matching}
use Rattle.subject_rules.specs.Outputs.{Outcome, outcome}

-- a position among a pattern's tokens is wild: a `*` stands there, or a `>` there or before it
abbrev pub wild_at : List (List ℕ) → ℕ → Bool
wild_at [] i = false
wild_at (t ∷ ts) zero = or (is_star t) (is_tail t)
wild_at (t ∷ ts) (suc i) = or (is_tail t) (wild_at ts i)

-- both patterns match the subject, so the grammar accepts it, with at most 4,096 bytes
abbrev pub BothMatch : List ℕ → List ℕ → List ℕ → Type 0
BothMatch first second subject = (matching first subject ≡ said true) × (matching second subject ≡ said true)

-- the subject shown
pub record Shown (filler first second subject : List ℕ) : Type 0 where
  -- "A shown subject is parsed and matched by the definitions."
  pub accepted : grammar false subject ≡ answer 0 (length (tokens subject) ∷ [])
  pub matched : BothMatch first second subject
  -- "Every other subject that both match has at least as many bytes as the one shown."
  pub shortest : (other : List ℕ) → BothMatch first second other → length subject ≤ length other
  -- "A position that is wild in both patterns gets the token `x`."
  pub filled : (i : ℕ) → i < length (tokens subject) → wild_at (tokens first) i ≡ true → wild_at (tokens second) i ≡ true
      → get_or (tokens subject) i [] ≡ filler

-- "no subject accepted by 01, so of at most 4,096 bytes, matches both"
abbrev pub Apart : List ℕ → List ℕ → Type 0
Apart first second = (subject : List ℕ) → BothMatch first second subject → ⊥

-- the grammar accepts a pattern, or refuses it by an answer
abbrev pub Accepts : List ℕ → Type 0
Accepts pattern = grammar true pattern ≡ answer 0 (length (tokens pattern) ∷ [])

pub record Refuses (pattern : List ℕ) (a : Answer) : Type 0 where
  pub number : ℕ
  pub values : List ℕ
  pub says : grammar true pattern ≡ a
  pub refusal : a ≡ answer (suc number) values

-- an answer and the output afterwards, where `out` was lent
pub data Asked (filler first second out : List ℕ) (o : Outcome) : Type 0 where
  -- 1 to 9 of the first pattern, then of the second; a refusal leaves the output
  first_refused : (a : Answer) → Refuses first a → o ≡ outcome a out → Asked filler first second out o
  second_refused : (a : Answer) → Accepts first → Refuses second a → o ≡ outcome a out → Asked filler first second out o
  -- "or says that there is none"
  apart : Accepts first → Accepts second → Apart first second
      → o ≡ outcome (answer 0 (0 ∷ [])) out → Asked filler first second out o
  -- "Too short an output is refusal 21, after both patterns are parsed", with the length needed
  out_short : (s : List ℕ) → Accepts first → Accepts second → Shown filler first second s → length out < length s
      → o ≡ outcome (answer 21 (length s ∷ [])) out → Asked filler first second out o
  -- "the router gives a subject that both match"
  shown : (s : List ℕ) → Accepts first → Accepts second → Shown filler first second s → length s ≤ length out
      → o ≡ outcome (answer 0 (1 ∷ length s ∷ [])) (s ++ drop (length s) out) → Asked filler first second out o
