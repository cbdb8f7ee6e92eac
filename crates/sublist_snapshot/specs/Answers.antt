-- 01's numbers and values for the answers of the snapshot's calls,
-- and what a call answered and left as the calls' definitions have it.
use Rattle.std.specs.Prelude.{ℕ, List, [], ◌∷◌, Result, Ok, Err}
use Rattle.subject_rules.specs.Answers.{Answer, answer}
use Rattle.sublist_walk.specs.declared.MatchError.{MatchError}
use Rattle.sublist_walk.specs.Answers.{match_refusal}
use Rattle.sublist_snapshot.specs.declared.Generation.{Generation}
use Rattle.sublist_snapshot.specs.declared.Sublist.{Sublist}
use Rattle.sublist_snapshot.specs.declared.Snapshot.{Snapshot}
use Rattle.sublist_snapshot.specs.declared.StoreError.{StoreError}
use Rattle.sublist_snapshot.specs.declared.StoreError.TheVariants.{Damaged, StoreFull}
use Rattle.sublist_snapshot.specs.declared.Stored.{Stored as Returned}
use Rattle.sublist_snapshot.specs.declared.SnapshotMatch.{SnapshotMatch}
use Rattle.sublist_snapshot.specs.Snapshot.{Table, snapshot_numbers, Made, Stored}

-- 19; 20
abbrev pub store_refusal : StoreError → Answer
store_refusal Damaged = answer 19 []
store_refusal StoreFull = answer 20 []

-- the making of a snapshot: its numbers, or a refusal
abbrev pub made_answer : Result Snapshot StoreError → Answer
made_answer (Ok s) = answer 0 (snapshot_numbers s)
made_answer (Err e) = store_refusal e

-- a store: the generation stamped, or a refusal
abbrev pub store_answer : Result Generation StoreError → Answer
store_answer (Ok g) = answer 0 (g.0 ∷ [])
store_answer (Err e) = store_refusal e

-- a match: the list's length, the peak and the generation; 1 to 9; 19; 21 with the length needed
abbrev pub snapshot_answer : Result SnapshotMatch MatchError → Answer
snapshot_answer (Ok m) = answer 0 (m.count ∷ m.peak ∷ m.generation.0 ∷ [])
snapshot_answer (Err e) = match_refusal e

-- a table with its two lent areas
abbrev pub lent_table : Sublist → List ℕ → List ℕ → Table
lent_table t node_words target_words = record {
  nodes = t.nodes;
  targets = t.targets;
  generation = t.generation;
  node_words = node_words;
  target_words = target_words;
}

-- what a making answered, and the area as it left it
abbrev pub made : Result Snapshot StoreError → List ℕ → Made
made r area = record { says = made_answer r; area = area }

-- what a store returned, and the area as it left it
abbrev pub left_stored : Returned → List ℕ → Stored
left_stored r area = record { says = store_answer r.answer; snapshot = r.snapshot; area = area }
