-- Inserts one after another, each lent what the last one left, and what is asked of them in the terms of what was
-- inserted alone.
use Rattle.std.specs.Prelude.{ℕ, zero, suc, ◌+◌, ◌-◌, ◌≡◌, true, List, [], ◌∷◌, ◌++◌, map, ltb, leb, length, get_or}
use Rattle.subject_rules.specs.Choice.{pick, or}
use Rattle.subject_rules.specs.Answers.{Answer, answer, when_accepted}
use Rattle.subject_rules.specs.Grammar.{grammar}
use Rattle.sublist_tree.specs.Lists.{sum}
use Rattle.sublist_tree.specs.Table.{TableEntry}
use Rattle.sublist_entries.specs.declared.Entry.{Entry}
use Rattle.sublist_entries.specs.declared.ListState.{ListState}
use Rattle.sublist_entries.specs.Entries.{in_use, word32, read_from}
use Rattle.sublist_entries.specs.Inserting.{after_answer, InsertOutcome, insert_into}

-- a list with its state, its places and its text store
pub record Desk : Type 0 where
  pub list : ListState
  pub places : List Entry
  pub store : List ℕ

-- nothing in use, whatever the places and the store hold
abbrev pub empty_desk : List Entry → List ℕ → Desk
empty_desk places store = record { list = record { entries = 0; used = 0 }; places = places; store = store }

-- the state that the caller keeps: the answer's numbers; as it was behind a refusal
abbrev pub state_after : Answer → ListState → ListState
state_after (answer zero values) list = record { entries = get_or values 0 0; used = get_or values 1 0 }
state_after (answer (suc n) values) list = list

-- an insert of a pattern and a target, and what it leaves
abbrev pub insert_on : Desk → TableEntry → InsertOutcome (List Entry)
insert_on d e = insert_into d.list d.places d.store e.pattern e.target

abbrev pub desk_after : Desk → TableEntry → Desk
desk_after d e =
    let o = insert_on d e in
    record { list = state_after o.says d.list; places = o.list; store = o.store }

-- the patterns and targets that the list holds
abbrev pub held_on : Desk → List TableEntry
held_on d = read_from d.store (in_use d.list d.places)

-- ---- what is asked, where the patterns and targets `taken` were accepted before

-- "what is left of the lent text store"
abbrev pub bytes_of : List TableEntry → ℕ
bytes_of taken = sum (map (λ e. length e.pattern) taken)

-- 1 to 9; 10 where 2,048 entries are taken or the lent list is full; 11 where the pattern is longer than what is left;
-- otherwise the entries and bytes in use
abbrev pub demanded : List TableEntry → Desk → TableEntry → Answer
demanded taken d e =
    when_accepted (grammar true e.pattern)
    (pick (or (leb 2048 (length taken)) (leb (length d.places) (length taken))) (answer 10 [])
    (pick (ltb (length d.store - bytes_of taken) (length e.pattern)) (answer 11 [])
    (answer 0 ((length taken + 1) ∷ (bytes_of taken + length e.pattern) ∷ []))))

-- an accepted insert joins those taken, its target a word
abbrev pub taken_after : List TableEntry → Desk → TableEntry → List TableEntry
taken_after taken d e =
    after_answer (demanded taken d e)
    (taken ++ (record { pattern = e.pattern; target = word32 e.target } ∷ [])) taken

-- before every insert and behind the last the list holds what was taken, in order;
-- and every insert is answered as demanded
abbrev pub EachTaken : List TableEntry → Desk → List TableEntry → Type 0
EachTaken taken d [] = held_on d ≡ taken
EachTaken taken d (e ∷ es) =
    (held_on d ≡ taken)
    × ((insert_on d e).says ≡ demanded taken d e)
    × EachTaken (taken_after taken d e) (desk_after d e) es
