-- 01's numbers and values for the answers of an insert.
use Rattle.std.specs.Prelude.{ℕ, List, [], ◌∷◌, Result, Ok, Err}
use Rattle.subject_rules.specs.Answers.{Answer, answer}
use Rattle.subject.specs.Answers.{refusal}
use Rattle.sublist_entries.specs.declared.InsertError.{InsertError}
use Rattle.sublist_entries.specs.declared.InsertError.TheVariants.{Invalid, EntriesFull, TextFull}
use Rattle.sublist_entries.specs.declared.ListState.{ListState}
use Rattle.sublist_entries.specs.Inserting.{InsertOutcome}

-- the entries and bytes in use afterwards; 1 to 9, 10, 11
abbrev pub insert_answer : Result ListState InsertError → Answer
insert_answer (Ok list) = answer 0 (list.entries ∷ list.used ∷ [])
insert_answer (Err (Invalid e)) = refusal e
insert_answer (Err EntriesFull) = answer 10 []
insert_answer (Err TextFull) = answer 11 []

-- what an insert returned, with the list and the store as it left them
abbrev pub inserted : {L : Type 0} → Result ListState InsertError → L → List ℕ → InsertOutcome L
inserted r list store = record { says = insert_answer r; list = list; store = store }
