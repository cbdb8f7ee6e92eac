-- Only a private contract cites this file: rules 4 to 9 for one token.
use Rattle.std.specs.Prelude.{ℕ, Bool, List, [], ◌∷◌}
use Rattle.std.proofs.Math.Option.{Option, none, some}
use Rattle.subject_rules.specs.Choice.{pick}
use Rattle.subject_rules.specs.Answers.{Answer, answer}
use Rattle.subject_rules.specs.Grammar.{bad_token, too_deep}

-- 4 where a `>` was passed, then 5, then 6 to 9
abbrev pub first_refusal : Option ℕ → Bool → ℕ → List ℕ → Option Answer
first_refusal (some passed) wild index t = some (answer 4 (passed ∷ []))
first_refusal none wild index t = pick (too_deep index) (some (answer 5 (33 ∷ []))) (bad_token wild index t)
