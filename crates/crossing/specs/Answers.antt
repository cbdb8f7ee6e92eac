-- The numbers and values of the answers: 0 and 1 with the subject's length, 0 and 0 where there is none; 1 to 9;
-- 21 with the length needed.
use Rattle.std.specs.Prelude.{ℕ, [], ◌∷◌, Option, None, Some, Result, Ok, Err}
use Rattle.subject_rules.specs.Answers.{Answer, answer}
use Rattle.subject.specs.Answers.{refusal}
use Rattle.crossing.specs.declared.CrossingError.{CrossingError}
use Rattle.crossing.specs.declared.CrossingError.TheVariants.{Invalid, OutShort}

abbrev pub crossed : Result (Option ℕ) CrossingError → Answer
crossed (Ok (Some size)) = answer 0 (1 ∷ size ∷ [])
crossed (Ok None) = answer 0 (0 ∷ [])
crossed (Err (Invalid e)) = refusal e
crossed (Err (OutShort needed)) = answer 21 (needed ∷ [])
