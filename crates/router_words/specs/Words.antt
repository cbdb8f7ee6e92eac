-- Answers as the C calls give them: the number first, then the values, 0 where there is none.
-- And the states that are lent and given back as numbers.
use Rattle.std.specs.Prelude.{ℕ, Bool, true, false, ◌≡◌, List, [], ◌∷◌, ◌++◌, get_or}
use Rattle.subject_rules.specs.Answers.{Answer, answer}
use Rattle.load_maker_rules.specs.Load.{Making, made}
use Rattle.sublist_entries.specs.declared.ListState.{ListState}
use Rattle.sublist_entries.specs.Inserting.{InsertOutcome}
use Rattle.sublist_rules.specs.Passes.{filling}
use Rattle.sublist_rules.specs.Leaving.{BuildOutcome}
use Rattle.subject_rules.specs.Outputs.{Outcome, outcome}
use Rattle.sublist_snapshot.specs.declared.Snapshot.{Snapshot}
use Rattle.sublist_snapshot.specs.Snapshot.{Table, Made, Stored}
use Rattle.resolve_cache_rules.specs.declared.ResolveCache.{ResolveCache}
use Rattle.resolve_cache_rules.specs.Area.{Area}
use Rattle.resolve_cache_rules.specs.Cache.{Resolved}
use Rattle.binding.specs.declared.Resolution.{Resolution}
use Rattle.binding.specs.declared.Resolution.TheVariants.{Routed, NoStream, Ambiguous}
use Rattle.binding.specs.Verdict.{Judged, turned_down, judged, Homed, CachedHomed}
use Rattle.whole_move_rules.specs.Move.{MoveSays, routed, stopped, turned_down as not_moved, Moved}
use Rattle.router_words.specs.declared.CAnswer.{CAnswer}
use Rattle.router_words.specs.declared.CMadeText.{CMadeText}
use Rattle.router_words.specs.declared.CSnapshot.{CSnapshot}
use Rattle.router_words.specs.declared.CCache.{CCache}
use Rattle.router_words.specs.declared.CMadeSnapshot.{CMadeSnapshot}
use Rattle.router_words.specs.declared.CStored.{CStored}
use Rattle.router_words.specs.declared.CMadeCache.{CMadeCache}
use Rattle.router_words.specs.declared.CResolved.{CResolved}
use Rattle.router_words.specs.declared.CVerdict.{CVerdict}
use Rattle.router_words.specs.declared.CMove.{CMove}

-- the number of an answer
abbrev pub number_of : Answer → ℕ
number_of (answer number values) = number

-- its value k, counted from 0; 0 where there is none
abbrev pub value_of : Answer → ℕ → ℕ
value_of (answer number values) k = get_or values k 0

-- a C answer says an answer
pub record Says (r : CAnswer) (a : Answer) : Type 0 where
  pub number : r.number ≡ number_of a
  pub first : r.first ≡ value_of a 0
  pub second : r.second ≡ value_of a 1
  pub third : r.third ≡ value_of a 2

-- yes is 1, no is 0
abbrev pub bit : Bool → ℕ
bit true = 1
bit false = 0

-- a list of so many entries and bytes in use
abbrev pub list_of : ℕ → ℕ → ListState
list_of entries used = record { entries = entries; used = used }

-- an insert: its answer, and the list's numbers and the text store afterwards
pub record Inserts (r : CAnswer) (numbers store : List ℕ) (o : InsertOutcome (List ℕ)) : Type 0 where
  pub says : Says r o.says
  pub list_is : numbers ≡ o.list
  pub store_is : store ≡ o.store

-- a build: its answer, and the words of nodes and of targets afterwards
pub record Builds (r : CAnswer) (nodes targets : List ℕ) (o : BuildOutcome) : Type 0 where
  pub says : Says r o.says
  pub areas_are : filling nodes targets ≡ o.areas

-- a call that writes an output: its answer, and the output afterwards
abbrev pub Writes : CAnswer → List ℕ → Outcome → Type 0
Writes r out (outcome a list) = Says r a × (out ≡ list)

-- the making of a text: its answer, and the state given back
pub record SaysText (r : CMadeText) (a : Answer) (state : ℕ) : Type 0 where
  pub number : r.number ≡ number_of a
  pub value : r.value ≡ value_of a 0
  pub state_is : r.state ≡ state

-- and the output afterwards
abbrev pub MakesText : CMadeText → List ℕ → Making → Type 0
MakesText r out (made a state text) = SaysText r a state × (out ≡ text)

-- a table of so many nodes and targets with its words
abbrev pub table_of : ℕ → ℕ → ℕ → List ℕ → List ℕ → Table
table_of nodes targets generation node_words target_words = record {
  nodes = nodes;
  targets = targets;
  generation = record { 0 = generation };
  node_words = node_words;
  target_words = target_words;
}

-- a snapshot's state from its numbers
abbrev pub snapshot_of : CSnapshot → Snapshot
snapshot_of s = record {
  nodes = s.nodes;
  targets = s.targets;
  generation = record { 0 = s.generation };
  next = record { 0 = s.next };
}

-- the making of a snapshot: its answer
pub record SaysMade (r : CMadeSnapshot) (a : Answer) : Type 0 where
  pub number : r.number ≡ number_of a
  pub nodes : r.nodes ≡ value_of a 0
  pub targets : r.targets ≡ value_of a 1
  pub generation : r.generation ≡ value_of a 2
  pub next : r.next ≡ value_of a 3

-- and the area afterwards
pub record Makes (r : CMadeSnapshot) (area : List ℕ) (x : Made) : Type 0 where
  pub says : SaysMade r x.says
  pub area_is : area ≡ x.area

-- the snapshot behind the answer of a store
abbrev pub snapshot_in : CStored → Snapshot
snapshot_in r = record {
  nodes = r.nodes;
  targets = r.targets;
  generation = record { 0 = r.generation };
  next = record { 0 = r.next };
}

-- a store: its answer, and the snapshot and the area afterwards
pub record Stores (r : CStored) (area : List ℕ) (x : Stored) : Type 0 where
  pub number : r.number ≡ number_of x.says
  pub stamped : r.stamped ≡ value_of x.says 0
  pub snapshot_is : snapshot_in r ≡ x.snapshot
  pub area_is : area ≡ x.area

-- a cache's state from its numbers
abbrev pub cache_of : CCache → ResolveCache
cache_of c = record {
  capacity = c.capacity;
  used = c.used;
  generation = record { 0 = c.generation };
  tick = record { 0 = c.tick };
  walks = c.walks;
}

-- the making of a cache: its answer
pub record SaysMadeCache (r : CMadeCache) (a : Answer) : Type 0 where
  pub number : r.number ≡ number_of a
  pub capacity : r.capacity ≡ value_of a 0
  pub used : r.used ≡ value_of a 1
  pub generation : r.generation ≡ value_of a 2
  pub tick : r.tick ≡ value_of a 3
  pub walks : r.walks ≡ value_of a 4

-- the answer of a resolve, and the cache behind it
abbrev pub answer_in : CResolved → CAnswer
answer_in r = record { number = r.number; first = r.first; second = r.second; third = r.third }

abbrev pub cache_in : CResolved → ResolveCache
cache_in r = record {
  capacity = r.capacity;
  used = r.used;
  generation = record { 0 = r.generation };
  tick = record { 0 = r.tick };
  walks = r.walks;
}

-- a resolve: its answer, and the cache, the areas and the output afterwards
pub record Resolves (r : CResolved) (a : Area) (out : List ℕ) (x : Resolved) : Type 0 where
  pub says : Says (answer_in r) x.says
  pub cache_is : cache_in r ≡ x.cache
  pub area_is : a ≡ x.area
  pub out_is : out ≡ x.out

-- a verdict: its kind, then the target, or the number of targets
abbrev pub verdict_numbers : Resolution → List ℕ
verdict_numbers NoStream = 0 ∷ 0 ∷ []
verdict_numbers (Routed target) = 1 ∷ target ∷ []
verdict_numbers (Ambiguous matched) = 2 ∷ matched ∷ []

-- 0 with the verdict and the values behind it
abbrev pub verdict_answer : Resolution → List ℕ → Answer
verdict_answer verdict values = answer 0 (verdict_numbers verdict ++ values)

-- so, or a refusal
abbrev pub judged_answer : Judged → Answer
judged_answer (turned_down a) = a
judged_answer (judged verdict values) = verdict_answer verdict values

-- a verdict by a match: its answer
pub record SaysVerdict (r : CVerdict) (a : Answer) : Type 0 where
  pub number : r.number ≡ number_of a
  pub kind : r.kind ≡ value_of a 0
  pub value : r.value ≡ value_of a 1
  pub peak : r.peak ≡ value_of a 2
  pub generation : r.generation ≡ value_of a 3

-- and the output afterwards
pub record Judges (r : CVerdict) (out : List ℕ) (x : Homed) : Type 0 where
  pub says : SaysVerdict r (judged_answer x.says)
  pub out_is : out ≡ x.out

-- a verdict by a resolve: its answer, and the cache, the areas and the output afterwards
pub record JudgesCached (r : CResolved) (a : Area) (out : List ℕ) (x : CachedHomed) : Type 0 where
  pub says : Says (answer_in r) (judged_answer x.says)
  pub cache_is : cache_in r ≡ x.cache
  pub area_is : a ≡ x.area
  pub out_is : out ≡ x.out

-- a whole move: 0 and the number of targets; or 1, the place where it stops, and the verdict there; or a refusal
abbrev pub moved_answer : MoveSays → Answer
moved_answer (routed count) = answer 0 (0 ∷ count ∷ [])
moved_answer (stopped place verdict) = answer 0 (1 ∷ place ∷ verdict_numbers verdict)
moved_answer (not_moved a) = a

pub record SaysMove (r : CMove) (a : Answer) : Type 0 where
  pub number : r.number ≡ number_of a
  pub first : r.first ≡ value_of a 0
  pub second : r.second ≡ value_of a 1
  pub third : r.third ≡ value_of a 2
  pub fourth : r.fourth ≡ value_of a 3

-- and the output afterwards
pub record Moves (r : CMove) (out : List ℕ) (x : Moved) : Type 0 where
  pub says : SaysMove r (moved_answer x.says)
  pub out_is : out ≡ x.out
