-- A list of entries lent as plain numbers, three an entry: start, length, target.
use Rattle.std.specs.Prelude.{ℕ, zero, suc, ◌*◌, ◌/◌, List, [], ◌∷◌, leb, length}
use Rattle.std.proofs.lemmas.List.Edits.{sets}
use Rattle.subject_rules.specs.Choice.{pick}
use Rattle.sublist_tree.specs.Lists.{put}
use Rattle.sublist_entries.specs.declared.Entry.{Entry}
use Rattle.sublist_entries.specs.declared.ListState.{ListState}
use Rattle.sublist_entries.specs.Inserting.{insert_says, appended, InsertOutcome, insert_by}

-- how many numbers an entry takes
abbrev pub entry_numbers : ℕ
entry_numbers = 3

-- the numbers of an entry
abbrev pub numbers_of : Entry → List ℕ
numbers_of e = e.start ∷ e.length ∷ e.target ∷ []

-- the first k entries that the numbers hold
abbrev pub unflat : ℕ → List ℕ → List Entry
unflat zero ws = []
unflat (suc k) [] = []
unflat (suc k) (a ∷ []) = []
unflat (suc k) (a ∷ b ∷ []) = []
unflat (suc k) (a ∷ b ∷ c ∷ ws) = record { start = a; length = b; target = c } ∷ unflat k ws

-- all the whole ones that they hold
abbrev pub entries_in : List ℕ → List Entry
entries_in ws = unflat (length ws / entry_numbers) ws

-- the numbers with those of an entry where entry i belongs, if they have that place
unfoldable pub put_entry : List ℕ → ℕ → Entry → List ℕ
put_entry ws i e = pick (leb (length ws / entry_numbers) i) ws (sets ws (entry_numbers * i) (numbers_of e))

-- `insert_numbers`: the new entry's numbers stand behind those of the entries in use
unfoldable pub insert_numbers : ListState → List ℕ → List ℕ → List ℕ → ℕ → InsertOutcome (List ℕ)
insert_numbers list ws store pattern target =
    insert_by (insert_says list (length ws / entry_numbers) (length store) pattern)
    (put_entry ws list.entries (appended list pattern target)) ws
    (put store list.used pattern) store
