-- insert: 1 to 9, then 10, then 11; otherwise the text is appended and the entry written. A refusal changes nothing.
use Rattle.std.specs.Prelude.{ℕ, zero, suc, ◌+◌, ◌-◌, true, List, [], ◌∷◌, ltb, leb, length, set}
use Rattle.std.proofs.Math.Option.{Option, none, some}
use Rattle.subject_rules.specs.Choice.{pick, or}
use Rattle.subject_rules.specs.Answers.{Answer, answer, unless, when_accepted}
use Rattle.subject_rules.specs.Grammar.{grammar}
use Rattle.sublist_tree.specs.Lists.{put}
use Rattle.sublist_entries.specs.declared.Entry.{Entry}
use Rattle.sublist_entries.specs.declared.ListState.{ListState}

-- 10: 2,048 entries or the lent list full
abbrev pub entries_full : ListState → ℕ → Option Answer
entries_full list places = pick (or (leb 2048 list.entries) (leb places list.entries)) (some (answer 10 [])) none

-- 11: the pattern is longer than what is left of the text store,
-- which is nothing if the bytes counted as used exceed it
abbrev pub text_full : ListState → ℕ → ℕ → Option Answer
text_full list bytes size = pick (ltb (bytes - list.used) size) (some (answer 11 [])) none

-- what is in use once a pattern of so many bytes has joined
abbrev pub with_pattern : ListState → ℕ → ListState
with_pattern list size = record { entries = list.entries + 1; used = list.used + size }

abbrev pub list_numbers : ListState → List ℕ
list_numbers list = list.entries ∷ list.used ∷ []

-- an insert into a list of so many places, with a text store of so many bytes
unfoldable pub insert_says : ListState → ℕ → ℕ → List ℕ → Answer
insert_says list places bytes pattern =
    when_accepted (grammar true pattern)
    (unless (entries_full list places)
    (unless (text_full list bytes (length pattern))
    (answer 0 (list_numbers (with_pattern list (length pattern))))))

-- the entry of a pattern whose text is appended
abbrev pub appended : ListState → List ℕ → ℕ → Entry
appended list pattern target = record { start = list.used; length = length pattern; target = target }

-- what an accepted answer leaves, else what was there
abbrev pub after_answer : {A : Type 0} → Answer → A → A → A
after_answer (answer zero values) new old = new
after_answer (answer (suc n) values) new old = old

-- an insert: its answer, and the lent list and text store afterwards
pub record InsertOutcome (L : Type 0) : Type 0 where
  pub says : Answer
  pub list : L
  pub store : List ℕ

abbrev pub insert_by : {L : Type 0} → Answer → L → L → List ℕ → List ℕ → InsertOutcome L
insert_by says new old new_store old_store =
    record { says = says; list = after_answer says new old; store = after_answer says new_store old_store }

-- `insert`
unfoldable pub insert_into : ListState → List Entry → List ℕ → List ℕ → ℕ → InsertOutcome (List Entry)
insert_into list es store pattern target =
    insert_by (insert_says list (length es) (length store) pattern)
    (set es list.entries (appended list pattern target)) es
    (put store list.used pattern) store
