-- 01's number and values for each answer of a match.
use Rattle.std.specs.Prelude.{[], ◌∷◌, Result, Ok, Err}
use Rattle.subject_rules.specs.Answers.{Answer, answer}
use Rattle.subject.specs.Answers.{refusal}
use Rattle.sublist_walk.specs.declared.TableMatch.{TableMatch}
use Rattle.sublist_walk.specs.declared.MatchError.{MatchError}
use Rattle.sublist_walk.specs.declared.MatchError.TheVariants.{Invalid, Damaged, OutShort}

-- 1 to 9; 19; 21 with the length needed
abbrev pub match_refusal : MatchError → Answer
match_refusal (Invalid e) = refusal e
match_refusal Damaged = answer 19 []
match_refusal (OutShort needed) = answer 21 (needed ∷ [])

-- the list's length and the peak, or a refusal
abbrev pub match_answer : Result TableMatch MatchError → Answer
match_answer (Ok m) = answer 0 (m.count ∷ m.peak ∷ [])
match_answer (Err e) = match_refusal e
