-- Only private contracts cite this file: what the parts of a whole move tell each other.
use Rattle.std.specs.Prelude.{ℕ, ◌≡◌, false, List, get_or, Result, Ok, Err}
use Rattle.std.proofs.Math.Option.{Option, none, some}
use Rattle.subject_rules.specs.Answers.{Answer, answer}
use Rattle.subject_rules.specs.Grammar.{grammar}
use Rattle.sublist_walk_rules.specs.Walk.{Walked, found, failed}
use Rattle.binding.specs.declared.Resolution.{Resolution}
use Rattle.binding.specs.Verdict.{single_home}
use Rattle.whole_move_rules.specs.Move.{Span, Routes, targets, ended, stopped, turned_down}
use Rattle.whole_move.specs.declared.WholeMove.{WholeMove}
use Rattle.whole_move.specs.declared.WholeMove.TheVariants.{Routed, Stopped}
use Rattle.whole_move.specs.declared.MoveError.{MoveError}
use Rattle.whole_move.specs.declared.MoveError.TheVariants.{Damaged}
use Rattle.whole_move.specs.Answers.{move_refusal}

-- two numbers: start and length
abbrev pub span_of : List ℕ → Span
span_of numbers = record { start = get_or numbers 0 0; length = get_or numbers 1 0 }

-- why subjects are refused, if they are
abbrev pub refused : Result (Unit {0}) MoveError → Option Answer
refused (Ok _) = none
refused (Err e) = some (move_refusal e)

-- the grammar accepts a subject
pub record Accepted (subject : List ℕ) : Type 0 where
  pub values : List ℕ
  pub says : grammar false subject ≡ answer 0 values

-- what a walk says of its subject
abbrev pub verdict_of : Walked → Result Resolution MoveError
verdict_of (found list peak) = Ok (single_home list)
verdict_of (failed why) = Err Damaged

-- as many subjects are routed as targets are gathered, where none stops the move
abbrev pub Within : Result WholeMove MoveError → ℕ → Type 0
Within (Ok (Routed count)) gathered = count ≡ gathered
Within (Ok (Stopped place resolution)) gathered = Unit {0}
Within (Err e) gathered = Unit {0}

-- what the verdicts come to, with the targets gathered
abbrev pub told : Result WholeMove MoveError → List ℕ → Routes
told (Ok (Routed count)) gathered = targets gathered
told (Ok (Stopped place resolution)) gathered = ended (stopped place resolution)
told (Err e) gathered = ended (turned_down (move_refusal e))
