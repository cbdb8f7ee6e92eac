-- Rows of ours, not 01's: what 01 says of a snapshot and only a definition carries, with 01's numbers written out.
use Rattle.std.specs.Prelude.{◌≡◌, ℕ, zero, suc, ◌-◌, ◌^◌, Bool, true, false, List, [], ◌∷◌, ◌++◌, replicate}
use Rattle.subject_rules.specs.Answers.{Answer, answer}
use Rattle.sublist_tree.specs.Timetable.{bytes}
use Rattle.subject_rules.specs.Outputs.{outcome}
use Rattle.sublist_snapshot.specs.declared.Snapshot.{Snapshot}
use Rattle.sublist_snapshot.specs.Snapshot.{Table, make, make_empty, store_in, stands_in, match_in}

-- the counts of nodes and targets, the generation, the counter
abbrev pub snapshot : ℕ → ℕ → ℕ → ℕ → Snapshot
snapshot nodes targets generation next =
    record { nodes = nodes; targets = targets; generation = record { 0 = generation }; next = record { 0 = next } }

-- the counts, the generation that build gave, the words
abbrev pub table : ℕ → ℕ → ℕ → List ℕ → List ℕ → Table
table nodes targets generation node_words target_words =
    record {
      nodes = nodes;
      targets = targets;
      generation = record { 0 = generation };
      node_words = node_words;
      target_words = target_words;
    }

-- the numbers from 1 to n
abbrev pub up_to : ℕ → List ℕ
up_to zero = []
up_to (suc n) = up_to n ++ (suc n ∷ [])

-- the words of one node whose `>` target is the first of a table: each subject finds it
abbrev pub catch_all : List ℕ
catch_all = 0 ∷ 0 ∷ 0 ∷ 0 ∷ 0 ∷ 0 ∷ 0 ∷ 1 ∷ replicate 8 0

-- the kinds of row
pub data Row : Type 0 where
  -- a first table and the lent area; the answer, and the area then
  as_making : (t : Table) (area : List ℕ) (says : Answer) (left : List ℕ) → Row
  -- the table of no entries, in the lent area
  as_empty : (area : List ℕ) (says : Answer) (left : List ℕ) → Row
  -- a snapshot and its area, a table; the answer, the snapshot and the area then
  as_store : (s : Snapshot) (area : List ℕ) (t : Table) (says : Answer) (then' : Snapshot) (left : List ℕ) → Row
  -- a table for which a making and a store are refused: state and area are as they were
  as_refused : (s : Snapshot) (area : List ℕ) (t : Table) (says : Answer) → Row
  -- whether 19 passes a snapshot's counts
  as_counts : (s : Snapshot) (area : List ℕ) (passes : Bool) → Row
  -- a snapshot and its area, a subject and the lent output; the answer, and the output then
  as_match : (s : Snapshot) (area subject out : List ℕ) (says : Answer) (left : List ℕ) → Row

abbrev pub Holds : Row → Type 0
Holds (as_making t area says left) = make t area ≡ record { says = says; area = left }
Holds (as_empty area says left) = make_empty area ≡ record { says = says; area = left }
Holds (as_store s area t says then' left) = store_in s area t ≡ record { says = says; snapshot = then'; area = left }
Holds (as_refused s area t says) =
    (make t area ≡ record { says = says; area = area })
    × (store_in s area t ≡ record { says = says; snapshot = s; area = area })
Holds (as_counts s area passes) = stands_in s area ≡ passes
Holds (as_match s area subject out says left) = match_in s area subject out ≡ outcome says left

unfoldable pub rows : List Row
rows =
    -- "A snapshot copies its first table"; "stamp its first table 0, no matter what build was given"; "Its counter
    -- starts at 1"; words behind the table stay
    as_making (table 1 1 0 (up_to 16) (8 ∷ [])) (replicate 19 5) (answer 0 (1 ∷ 1 ∷ 0 ∷ 1 ∷ []))
    (up_to 16 ++ (8 ∷ 5 ∷ 5 ∷ []))
    ∷ as_making (table 1 1 1 (up_to 16) (8 ∷ [])) (replicate 17 5) (answer 0 (1 ∷ 1 ∷ 0 ∷ 1 ∷ [])) (up_to 16 ++ (8 ∷ []))
    ∷ as_making (table 1 1 (2 ^ 64 - 1) (up_to 16) (8 ∷ [])) (replicate 17 5) (answer 0 (1 ∷ 1 ∷ 0 ∷ 1 ∷ []))
    (up_to 16 ++ (8 ∷ []))
    -- the root alone, of generation 0
    ∷ as_empty (replicate 17 5) (answer 0 (1 ∷ 0 ∷ 0 ∷ 1 ∷ [])) (replicate 16 0 ++ (5 ∷ []))
    ∷ as_empty (replicate 15 5) (answer 20 []) (replicate 15 5)
    -- "`store` copies the new table, stamps it with the counter, returns that, and adds one": 1, then 2,
    -- whatever generation build gave the table. As many words are copied as the table's counts say
    ∷ as_store (snapshot 1 2 7 1) (replicate 19 5) (table 1 1 7 (up_to 20) (8 ∷ 9 ∷ []))
    (answer 0 (1 ∷ [])) (snapshot 1 1 1 2) (up_to 16 ++ (8 ∷ 5 ∷ 5 ∷ []))
    ∷ as_store (snapshot 1 1 1 2) (replicate 19 5) (table 1 2 0 (up_to 16) (8 ∷ 9 ∷ []))
    (answer 0 (2 ∷ [])) (snapshot 1 2 2 3) (up_to 16 ++ (8 ∷ 9 ∷ 5 ∷ []))
    -- "modulo 2^64"
    ∷ as_store (snapshot 1 0 4 (2 ^ 64 - 1)) (replicate 16 5) (table 1 0 0 (up_to 16) [])
    (answer 0 ((2 ^ 64 - 1) ∷ [])) (snapshot 1 0 (2 ^ 64 - 1) 0) (up_to 16)
    ∷ as_store (snapshot 1 0 4 0) (replicate 16 5) (table 1 0 0 (up_to 16) [])
    (answer 0 (0 ∷ [])) (snapshot 1 0 0 1) (up_to 16)
    -- 19 before 20: "a table's counts exceed its areas or it has no node", "a store only those of the new table"
    ∷ as_refused (snapshot 1 0 4 3) [] (table 0 0 0 [] []) (answer 19 [])
    ∷ as_refused (snapshot 1 0 4 3) [] (table 2 0 0 (up_to 31) []) (answer 19 [])
    ∷ as_refused (snapshot 1 0 4 3) [] (table 1 2 0 (up_to 16) (8 ∷ [])) (answer 19 [])
    ∷ as_store (snapshot 0 9 4 3) (replicate 16 5) (table 1 0 0 (up_to 16) [])
    (answer 0 (3 ∷ [])) (snapshot 1 0 3 4) (up_to 16)
    -- 20: "the snapshot's area is shorter than the table", that is, than its nodes' 16 words each and its target words
    ∷ as_refused (snapshot 1 0 4 3) (replicate 33 5) (table 2 2 0 (up_to 32) (8 ∷ 9 ∷ [])) (answer 20 [])
    ∷ as_store (snapshot 1 0 4 3) (replicate 34 5) (table 2 2 0 (up_to 32) (8 ∷ 9 ∷ []))
    (answer 0 (3 ∷ [])) (snapshot 2 2 3 4) (up_to 32 ++ (8 ∷ 9 ∷ []))
    -- 19 on the counts of a snapshot
    ∷ as_counts (snapshot 2 2 4 3) (replicate 34 5) true
    ∷ as_counts (snapshot 2 2 4 3) (replicate 33 5) false
    ∷ as_counts (snapshot 0 2 4 3) (replicate 34 5) false
    -- "a match through the snapshot also returns the generation"; 1 to 9, then 19, then 21; a refusal leaves the output
    ∷ as_match (snapshot 1 1 4 3) (catch_all ++ (8 ∷ 5 ∷ [])) (bytes "a") (7 ∷ 7 ∷ [])
    (answer 0 (1 ∷ 1 ∷ 4 ∷ [])) (8 ∷ 7 ∷ [])
    ∷ as_match (snapshot 0 1 4 3) (catch_all ++ (8 ∷ [])) [] [] (answer 3 []) []
    ∷ as_match (snapshot 1 1 4 3) catch_all (bytes "a") [] (answer 19 []) []
    ∷ as_match (snapshot 1 1 4 3) (catch_all ++ (8 ∷ [])) (bytes "a") [] (answer 21 (1 ∷ [])) []
    ∷ []
