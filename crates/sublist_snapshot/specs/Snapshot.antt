-- The snapshot: the standing table's counts and generation by value, its words in a lent area.
-- What each call answers, and the state and area that it leaves.
use Rattle.std.specs.Prelude.{ℕ, zero, suc, ◌+◌, ◌*◌, ◌%◌, ◌^◌, Bool, List, [], ◌∷◌, ◌++◌, map, length, take, replicate, nat_le, nat_lt}
use Rattle.std.proofs.Math.Option.{Option, none, some}
use Rattle.subject_rules.specs.Choice.{pick, and}
use Rattle.subject_rules.specs.Text.{tokens}
use Rattle.subject_rules.specs.Fnv.{fnv}
use Rattle.subject_rules.specs.Answers.{Answer, answer}
use Rattle.sublist_walk_rules.specs.Walk.{part, Walked, walk_over}
use Rattle.subject_rules.specs.Outputs.{over, Outcome, outcome}
use Rattle.sublist_walk_rules.specs.Matching.{counts_fit, match_table, match_parsed}
use Rattle.sublist_snapshot.specs.declared.Generation.{Generation}
use Rattle.sublist_snapshot.specs.declared.Snapshot.{Snapshot}

-- modulo 2^64
abbrev pub wrap : ℕ → ℕ
wrap n = n % 2 ^ 64

-- a table as it is lent: its counts, the generation that build gave it, and its areas
pub record Table : Type 0 where
  pub nodes : ℕ
  pub targets : ℕ
  pub generation : Generation
  pub node_words : List ℕ
  pub target_words : List ℕ

-- a table's length: its nodes' words plus its target words
abbrev pub length_of : Table → ℕ
length_of t = t.nodes * 16 + t.targets

-- 19 on the counts of a lent table
abbrev pub sound : Table → Bool
sound t = counts_fit t.nodes t.targets t.node_words t.target_words

-- 19, then 20: why a store or the making of a snapshot turns back
abbrev pub refused_table : Table → List ℕ → Option Answer
refused_table t area =
    pick (sound t) (pick (nat_lt (length area) (length_of t)) (some (answer 20 [])) none) (some (answer 19 []))

-- what is copied, to the front of the area: node words, then target words
abbrev pub words_of : Table → List ℕ
words_of t = take (t.nodes * 16) t.node_words ++ take t.targets t.target_words

abbrev pub copied : Table → List ℕ → List ℕ
copied t area = over (words_of t) area

-- a fresh snapshot stamps its first table 0, no matter what build was given, and its counter starts at 1
abbrev pub first : Table → Snapshot
first t = record { nodes = t.nodes; targets = t.targets; generation = record { 0 = 0 }; next = record { 0 = 1 } }

-- a stored table is stamped with the counter, which goes up by one
abbrev pub stored : Snapshot → Table → Snapshot
stored s t =
    record { nodes = t.nodes; targets = t.targets; generation = s.next; next = record { 0 = wrap (s.next.0 + 1) } }

-- a state as the values of an answer
abbrev pub snapshot_numbers : Snapshot → List ℕ
snapshot_numbers s = s.nodes ∷ s.targets ∷ s.generation.0 ∷ s.next.0 ∷ []

-- the making of a snapshot: its answer, 0 with the new state or a refusal, and the area afterwards
pub record Made : Type 0 where
  pub says : Answer
  pub area : List ℕ

abbrev pub made_by : Option Answer → Table → List ℕ → Made
made_by none t area = record { says = answer 0 (snapshot_numbers (first t)); area = copied t area }
made_by (some r) t area = record { says = r; area = area }

-- `new`, from a first table
unfoldable pub make : Table → List ℕ → Made
make t area = made_by (refused_table t area) t area

-- the table of no entries: the root alone, of generation 0
abbrev pub empty_table : Table
empty_table =
    record { nodes = 1; targets = 0; generation = record { 0 = 0 }; node_words = replicate 16 0; target_words = [] }

-- `empty`
unfoldable pub make_empty : List ℕ → Made
make_empty area = make empty_table area

-- a store: its answer, 0 with the generation stamped or a refusal, and the state and area afterwards
pub record Stored : Type 0 where
  pub says : Answer
  pub snapshot : Snapshot
  pub area : List ℕ

abbrev pub stored_by : Option Answer → Snapshot → List ℕ → Table → Stored
stored_by none s area t = record { says = answer 0 (s.next.0 ∷ []); snapshot = stored s t; area = copied t area }
stored_by (some r) s area t = record { says = r; snapshot = s; area = area }

-- `store`
unfoldable pub store_in : Snapshot → List ℕ → Table → Stored
store_in s area t = stored_by (refused_table t area) s area t

-- the standing table's words in the area: n nodes, and m targets behind them
abbrev pub nodes_in : ℕ → List ℕ → List ℕ
nodes_in n area = take (n * 16) area

abbrev pub targets_in : ℕ → ℕ → List ℕ → List ℕ
targets_in n m area = part area (n * 16) m

-- 19 on the counts of a snapshot: there is a node, and the table is no longer than the area
abbrev pub stands_in : Snapshot → List ℕ → Bool
stands_in s area = and (nat_lt 0 s.nodes) (nat_le (s.nodes * 16 + s.targets) (length area))

-- what a walk of the standing table ends with
abbrev pub walk_of : Snapshot → List ℕ → List ℕ → Walked
walk_of s area subject =
    walk_over 1024 (nodes_in s.nodes area) s.nodes s.targets (targets_in s.nodes s.targets area)
    (map fnv (tokens subject))

-- an accepted match also returns the generation
abbrev pub with_generation : Generation → Outcome → Outcome
with_generation g (outcome (answer zero values) out) = outcome (answer 0 (values ++ (g.0 ∷ []))) out
with_generation g (outcome (answer (suc k) values) out) = outcome (answer (suc k) values) out

-- a match through the snapshot: 0 with the list's length, the peak and the generation, or a refusal;
-- and the output afterwards
unfoldable pub match_in : Snapshot → List ℕ → List ℕ → List ℕ → Outcome
match_in s area subject out =
    with_generation s.generation
    (match_table s.nodes s.targets (nodes_in s.nodes area) (targets_in s.nodes s.targets area) subject out)

-- the match of a subject that was parsed before: 1 is asked again, of any text that is lent
unfoldable pub match_parsed_in : Snapshot → List ℕ → List ℕ → List ℕ → Outcome
match_parsed_in s area subject out =
    with_generation s.generation
    (match_parsed s.nodes s.targets (nodes_in s.nodes area) (targets_in s.nodes s.targets area) subject out)
