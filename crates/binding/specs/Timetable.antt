-- 01's timetable: its rows marked P as data. Those of texts and of tables without an area are sublist_tree's; here are
-- those that build a table and make calls on it.
use Rattle.std.specs.Prelude.{ℕ, zero, suc, ◌+◌, ◌*◌, ◌≡◌, List, [], ◌∷◌, ◌++◌, map, length, replicate}
use Prim.Native.Char.{code}
use Prim.Native.String.{String}
use Rattle.subject_rules.specs.Answers.{Answer, answer}
use Rattle.sublist_tree.specs.Lists.{concat, All}
use Rattle.sublist_tree.specs.Table.{TableEntry}
use Rattle.sublist_tree.specs.Timetable.{bytes, entry, Row as TextRow, Holds as holds_text, timetable as text_timetable}
use Rattle.sublist_entries.specs.declared.Entry.{Entry}
use Rattle.sublist_rules.specs.Building.{build_says}
use Rattle.sublist_rules.specs.Passes.{Filling, filling}
use Rattle.sublist_rules.specs.Leaving.{build_leaves}
use Rattle.sublist_snapshot.specs.Snapshot.{Table, length_of, first, copied}
use Rattle.resolve_cache_rules.specs.Area.{Area, key_at}
use Rattle.resolve_cache_rules.specs.Cache.{fresh}
use Rattle.resolve_cache_rules.specs.Rows.{Row as CacheRow, Holds as holds_lent, rows as cache_rows}
use Rattle.binding.specs.declared.Resolution.{Resolution}
use Rattle.binding.specs.declared.Resolution.TheVariants.{Routed, NoStream, Ambiguous}
use Rattle.binding.specs.Calls.{Call, store, clearing, asking, resolving, asking_home, resolving_home, Reply}
use Rattle.binding.specs.Calls.{refused, storing, cleared, matched, resolved, home, Kept, Cabinet, reply, after}
use Rattle.binding.specs.Demand.{Opened}

-- the entries as a lent list: their texts one behind another in the store
abbrev pub texts : List TableEntry → List ℕ
texts es = concat (map (λ e. e.pattern) es)

abbrev pub list_from : ℕ → List TableEntry → List Entry
list_from at [] = []
list_from at (e ∷ es) =
    record { start = at; length = length e.pattern; target = e.target }
    ∷ list_from (at + length e.pattern) es

-- what build answers for these entries, lent so many nodes and given a generation, and the table that it leaves
abbrev pub build_for : ℕ → List TableEntry → ℕ → Answer
build_for nodes es generation = build_says (list_from 0 es) (texts es) nodes (length es) generation

abbrev pub table_left : ℕ → ℕ → ℕ → Filling → Table
table_left nodes targets generation (filling a ts) =
    record { nodes = nodes; targets = targets; generation = record { 0 = generation }; node_words = a; target_words = ts }

abbrev pub table_of : ℕ → List TableEntry → ℕ → Table
table_of nodes es generation =
    table_left nodes (length es) generation
    (build_leaves (list_from 0 es) (texts es) (replicate (nodes * 16) 0) (replicate (length es) 0))

-- a snapshot's area as long as the table, a cache's area, and the cabinet of fresh makings in them
abbrev pub words_for : Table → List ℕ
words_for t = replicate (length_of t) 0

abbrev pub slots : ℕ → Area
slots capacity =
    record { stamps = replicate capacity 0; keys = replicate (260 * capacity) 0; kept = replicate (16 * capacity) 0 }

abbrev pub cabinet : ℕ → Table → Cabinet
cabinet capacity t = record {
  snapshot = first t;
  words = copied t (words_for t);
  caches = λ i. record { cache = fresh capacity; area = slots capacity };
}

-- the replies to a list of calls, and what the last call leaves
abbrev pub replies : Cabinet → List Call → List Reply
replies b [] = []
replies b (c ∷ cs) = reply b c ∷ replies (after b c) cs

abbrev pub leaving : Cabinet → List Call → Cabinet
leaving b [] = b
leaving b (c ∷ cs) = leaving (after b c) cs

-- the subjects that a cache keeps lists for, slot by slot
abbrev pub keys_from : ℕ → List ℕ → ℕ → ℕ → List (List ℕ)
keys_from c keys i zero = []
keys_from c keys i (suc n) = key_at c keys i ∷ keys_from c keys (suc i) n

abbrev pub subjects_in : Kept → List (List ℕ)
subjects_in k = keys_from k.cache.capacity k.area.keys 0 k.cache.used

-- calls with an output of sixteen places, on cache 0
abbrev pub ask : String → Call
ask subject = asking (bytes subject) (replicate 16 0)

abbrev pub resolve : String → Call
resolve subject = resolving 0 (bytes subject) (replicate 16 0)

-- the kinds of row
pub data Row : Type 0 where
  -- a row of sublist_tree
  text : TextRow → Row
  -- a row of resolve_cache, one of ours
  lent : CacheRow → Row
  -- entries, a subject, its list and verdict, the peak, the worst case, the node count
  as_route :
      (entries : List TableEntry) (subject : String) (list : List ℕ) (verdict : Resolution) (peak worst nodes : ℕ) → Row
  -- the node count and entries of the first table, the generation that its build was given; calls and their replies
  as_calls :
      (nodes : ℕ) (entries : List TableEntry) (generation : ℕ) (calls : List Call) (answers : List Reply) → Row
  -- a capacity, calls on a cache over the empty table, the walks counted and the subjects kept at the end
  as_cache : (capacity : ℕ) (calls : List Call) (walks : ℕ) (kept : List String) → Row

-- build accepts the entries, lent so many nodes, all of which it uses
abbrev pub Accepts : ℕ → List TableEntry → ℕ → Type 0
Accepts nodes es generation = (worst : ℕ) × (build_for nodes es generation ≡ answer 0 (nodes ∷ worst ∷ generation ∷ []))

-- a table that is stored is as an accepted build of its entries left it
abbrev pub Stored : Call → Type 0
Stored (store t es) = (nodes : ℕ) × (t ≡ table_of nodes es 0) × Accepts nodes es 0
Stored (clearing i) = Unit {0}
Stored (asking subject out) = Unit {0}
Stored (resolving i subject out) = Unit {0}
Stored (asking_home subject out) = Unit {0}
Stored (resolving_home i subject out) = Unit {0}

-- the makings are accepted
abbrev pub Opens : ℕ → Table → Type 0
Opens capacity t = Opened t (words_for t) (cabinet capacity t)

-- the definitions give the row
abbrev pub Holds : Row → Type 0
Holds (text row) = holds_text row
Holds (lent row) = holds_lent row
Holds (as_route es subject list verdict peak worst nodes) =
    (build_for nodes es 0 ≡ answer 0 (nodes ∷ worst ∷ 0 ∷ [])) × Opens 1 (table_of nodes es 0)
    × (replies (cabinet 1 (table_of nodes es 0)) (ask subject ∷ resolve subject ∷ [])
    ≡ matched list verdict peak 0 ∷ resolved list verdict ∷ [])
Holds (as_calls nodes es generation calls answers) =
    Accepts nodes es generation × All Stored calls × Opens 1 (table_of nodes es generation)
    × (replies (cabinet 1 (table_of nodes es generation)) calls ≡ answers)
Holds (as_cache capacity calls walks kept) =
    let k = (leaving (cabinet capacity (table_of 1 [] 0)) calls).caches 0 in
    Opens capacity (table_of 1 [] 0) × (k.cache.walks ≡ walks) × (subjects_in k ≡ map bytes kept)

-- 01's five entries, and calls of every kind
abbrev pub five_entries : List TableEntry
five_entries = entry "a.b" 1 ∷ entry ">" 2 ∷ entry "*.b" 3 ∷ entry "a.>" 4 ∷ entry "a.b" 5 ∷ []

abbrev pub other_entries : List TableEntry
other_entries = entry "c" 7 ∷ []

abbrev pub every_call : List Call
every_call =
    ask "a.b" ∷ resolve "a.b" ∷ store (table_of 2 other_entries 0) other_entries ∷ resolve "a.b"
    ∷ resolving_home 0 (bytes "c") (0 ∷ [])
    ∷ clearing 0 ∷ resolve "*" ∷ asking_home (bytes "c") [] ∷ []

-- the rows with calls
unfoldable pub call_rows : List Row
call_rows =
    -- entries a.b 1, > 2, *.b 3, a.> 4, a.b 5; subject `a.b`: list 2, 4, 1, 5, 3; Ambiguous 5; peak 2, worst case 2,
    -- nodes 5
    as_route five_entries "a.b" (2 ∷ 4 ∷ 1 ∷ 5 ∷ 3 ∷ []) (Ambiguous 5) 2 2 5
    -- no entries, subject `a`: NoStream, peak 1, worst case 1, nodes 1
    ∷ as_route [] "a" [] NoStream 1 1 1
    -- first table a 7, generation 0: resolve `a` is Routed 7; store the empty table (generation 1): NoStream
    ∷ as_calls 2 (entry "a" 7 ∷ []) 0 (resolve "a" ∷ store (table_of 1 [] 0) [] ∷ resolve "a" ∷ [])
    (resolved (7 ∷ []) (Routed 7) ∷ storing 1 ∷ resolved [] NoStream ∷ [])
    -- 2026-03: first table a 7 built as 1: resolve `a` is Routed 7; store the empty table (generation 1): NoStream
    ∷ as_calls 2 (entry "a" 7 ∷ []) 1 (resolve "a" ∷ store (table_of 1 [] 0) [] ∷ resolve "a" ∷ [])
    (resolved (7 ∷ []) (Routed 7) ∷ storing 1 ∷ resolved [] NoStream ∷ [])
    -- ours, not 01's: calls of every kind on the five entries, built as 1, with a store, a refused text and an output
    -- too short; demand 3's premises hold of them (Instance)
    ∷ as_calls 5 five_entries 1 every_call
    (matched (2 ∷ 4 ∷ 1 ∷ 5 ∷ 3 ∷ []) (Ambiguous 5) 2 0 ∷ resolved (2 ∷ 4 ∷ 1 ∷ 5 ∷ 3 ∷ []) (Ambiguous 5) ∷ storing 1
    ∷ resolved [] NoStream ∷ home (Routed 7) [] ∷ cleared
    ∷ refused (answer 7 (code "*" ∷ 0 ∷ [])) ∷ refused (answer 21 (1 ∷ [])) ∷ [])
    -- capacity 2, resolve p, q, p, r: q is dropped, walks 3
    ∷ as_cache 2 (resolve "p" ∷ resolve "q" ∷ resolve "p" ∷ resolve "r" ∷ []) 3 ("p" ∷ "r" ∷ [])
    -- ours, not 01's: capacity 2, resolve p, clear, resolve p: walks 2
    ∷ as_cache 2 (resolve "p" ∷ clearing 0 ∷ resolve "p" ∷ []) 2 ("p" ∷ [])
    ∷ []

-- all rows
unfoldable pub timetable : List Row
timetable = map text text_timetable ++ (call_rows ++ map lent cache_rows)
