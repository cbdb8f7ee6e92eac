-- 01's numbers and values for the answers of a build.
use Rattle.std.specs.Prelude.{ℕ, List, [], ◌∷◌, Result, Ok, Err}
use Rattle.subject_rules.specs.Answers.{Answer, answer}
use Rattle.subject.specs.Answers.{refusal}
use Rattle.sublist.specs.declared.SublistError.{SublistError}
use Rattle.sublist.specs.declared.SublistError.TheVariants.{EntriesFull, BadEntry, InvalidPattern}
use Rattle.sublist.specs.declared.SublistError.TheVariants.{NodesFull, TargetsFull, ForkLimitExceeded}
use Rattle.sublist.specs.declared.Built.{Built}
use Rattle.sublist_rules.specs.Building.{held}
use Rattle.sublist_rules.specs.Passes.{filling}
use Rattle.sublist_rules.specs.Leaving.{BuildOutcome}

-- 10, 12 to 16
abbrev pub build_refusal : SublistError → Answer
build_refusal EntriesFull = answer 10 []
build_refusal (BadEntry index) = answer 12 (index ∷ [])
build_refusal (InvalidPattern e) = held (refusal e)
build_refusal (NodesFull needed) = answer 14 (needed ∷ [])
build_refusal TargetsFull = answer 15 []
build_refusal (ForkLimitExceeded worst limit) = answer 16 (worst ∷ limit ∷ [])

-- a build: node count, worst case, generation
abbrev pub build_answer : Result Built SublistError → Answer
build_answer (Ok b) = answer 0 (b.nodes ∷ b.worst_case ∷ b.generation ∷ [])
build_answer (Err e) = build_refusal e

-- what a build returned, with the words as it left them
abbrev pub built : Result Built SublistError → List ℕ → List ℕ → BuildOutcome
built r a ts = record { says = build_answer r; areas = filling a ts }
