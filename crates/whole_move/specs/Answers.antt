-- The numbers and values of a whole move's answers, and what it answered and left as its definition has it.
use Rattle.std.specs.Prelude.{ℕ, List, [], ◌∷◌, Result, Ok, Err}
use Rattle.subject_rules.specs.Answers.{Answer, answer}
use Rattle.subject.specs.Answers.{refusal}
use Rattle.whole_move_rules.specs.Move.{MoveSays, routed, stopped, turned_down, with_place, Moved, left}
use Rattle.whole_move.specs.declared.WholeMove.{WholeMove}
use Rattle.whole_move.specs.declared.WholeMove.TheVariants.{Routed, Stopped}
use Rattle.whole_move.specs.declared.MoveError.{MoveError}
use Rattle.whole_move.specs.declared.MoveError.TheVariants.{SetTooLarge, BadEntry, Invalid, Damaged, OutShort}

-- 22; 12 with the place; 1 to 9 with it; 19; 21 with the number of subjects
abbrev pub move_refusal : MoveError → Answer
move_refusal SetTooLarge = answer 22 []
move_refusal (BadEntry place) = answer 12 (place ∷ [])
move_refusal (Invalid place error) = with_place place (refusal error)
move_refusal Damaged = answer 19 []
move_refusal (OutShort needed) = answer 21 (needed ∷ [])

-- so many are routed; the place of the first that is not, and its verdict; or a refusal
abbrev pub move_says : Result WholeMove MoveError → MoveSays
move_says (Ok (Routed count)) = routed count
move_says (Ok (Stopped place resolution)) = stopped place resolution
move_says (Err e) = turned_down (move_refusal e)

-- what the call returned, with the output as it left it
abbrev pub moved : Result WholeMove MoveError → List ℕ → Moved
moved r out = left (move_says r) out
