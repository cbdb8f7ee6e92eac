-- Entries: a pattern's place in the text store, and a target.
use Rattle.std.specs.Prelude.{ℕ, ◌%◌, ◌^◌, List, map, take, drop, get_or}
use Rattle.subject_rules.specs.Fnv.{fnv}
use Rattle.sublist_tree.specs.Tree.{Line}
use Rattle.sublist_tree.specs.Table.{TableEntry, root_of}
use Rattle.sublist_entries.specs.declared.Entry.{Entry}
use Rattle.sublist_entries.specs.declared.ListState.{ListState}

-- the most entries that a list may have
abbrev pub max_entries : ℕ
max_entries = 2048

-- the entries in use; a count above the lent list counts as its length
abbrev pub in_use : ListState → List Entry → List Entry
in_use list es = take list.entries es

-- an entry's text
abbrev pub text_of : List ℕ → Entry → List ℕ
text_of store e = take e.length (drop e.start store)

-- a target is a word of 32 bits
abbrev pub word32 : ℕ → ℕ
word32 n = n % 2 ^ 32

abbrev pub target_word : Entry → ℕ
target_word e = word32 e.target

-- an entry with its target as a word
abbrev pub with_word : Entry → Entry
with_word e = record { start = e.start; length = e.length; target = target_word e }

-- the entry at a place; past the last a record of zeros
abbrev pub entry_at : List Entry → ℕ → Entry
entry_at es i = get_or es i (record { start = 0; length = 0; target = 0 })

-- the table's entries: with their texts as read
abbrev pub read_from : List ℕ → List Entry → List TableEntry
read_from store es = map (λ e. record { pattern = text_of store e; target = target_word e }) es

-- the lines of the table's tree, keyed by hash
abbrev pub lines_of : List ℕ → List Entry → List (Line ℕ)
lines_of store es = root_of fnv (read_from store es)
