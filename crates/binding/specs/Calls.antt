-- A snapshot and the caches used with it, and any list of calls on them: what each call answers and leaves.
use Rattle.std.specs.Prelude.{ℕ, zero, suc, List, eqb, take, get_or}
use Rattle.subject_rules.specs.Choice.{pick}
use Rattle.subject_rules.specs.Answers.{Answer, answer}
use Rattle.sublist_tree.specs.Table.{TableEntry}
use Rattle.subject_rules.specs.Outputs.{Outcome, outcome}
use Rattle.sublist_snapshot.specs.declared.Snapshot.{Snapshot}
use Rattle.sublist_snapshot.specs.Snapshot.{Table, Stored, store_in, match_in}
use Rattle.resolve_cache_rules.specs.declared.ResolveCache.{ResolveCache}
use Rattle.resolve_cache_rules.specs.Area.{Area}
use Rattle.resolve_cache_rules.specs.Cache.{clear, Handed, turned_back, gives, handed, Resolved, resolve}
use Rattle.binding.specs.declared.Resolution.{Resolution}
use Rattle.binding.specs.Verdict.{single_home, Judged, turned_down, judged, resolve_single_home, CachedHomed}
use Rattle.binding.specs.Verdict.{resolve_single_home_cached}

pub data Call : Type 0 where
  -- a table, with the entries that its build read
  store : Table → List TableEntry → Call
  -- a cache
  clearing : ℕ → Call
  -- a subject and the lent output
  asking : List ℕ → List ℕ → Call
  -- a cache, a subject and the lent output
  resolving : ℕ → List ℕ → List ℕ → Call
  -- the two that feed `single_home`, a match and a resolve
  asking_home : List ℕ → List ℕ → Call
  resolving_home : ℕ → List ℕ → List ℕ → Call

-- what a call answers, its list read where the call left it
pub data Reply : Type 0 where
  refused : Answer → Reply
  -- the generation that the table was stamped with
  storing : ℕ → Reply
  cleared : Reply
  -- list, verdict, peak, generation
  matched : List ℕ → Resolution → ℕ → ℕ → Reply
  -- list and verdict
  resolved : List ℕ → Resolution → Reply
  -- the verdict alone; of a match, peak and generation with it
  home : Resolution → List ℕ → Reply

-- a cache with its area
pub record Kept : Type 0 where
  pub cache : ResolveCache
  pub area : Area

-- a snapshot with its area, and a cache for each number
pub record Cabinet : Type 0 where
  pub snapshot : Snapshot
  pub words : List ℕ
  pub caches : ℕ → Kept

abbrev pub replaced : (ℕ → Kept) → ℕ → Kept → ℕ → Kept
replaced caches i k j = pick (eqb i j) k (caches j)

-- the values of an answer, in their order: of a store, the generation
abbrev pub stamped : Answer → Reply
stamped (answer zero values) = storing (get_or values 0 0)
stamped (answer (suc k) values) = refused (answer (suc k) values)

-- of a match, the length of the list at the start of the output, the peak, the generation
abbrev pub shown : Outcome → Reply
shown (outcome (answer zero values) out) =
    let list = take (get_or values 0 0) out in
    matched list (single_home list) (get_or values 1 0) (get_or values 2 0)
shown (outcome (answer (suc k) values) out) = refused (answer (suc k) values)

-- of a resolve, what it hands back
abbrev pub resolved_as : Handed → Reply
resolved_as (turned_back r) = refused r
resolved_as (gives list) = resolved list (single_home list)

-- of the two that feed `single_home`, what they say
abbrev pub home_as : Judged → Reply
home_as (turned_down r) = refused r
home_as (judged verdict values) = home verdict values

abbrev pub store_to : Cabinet → Table → Stored
store_to b t = store_in b.snapshot b.words t

abbrev pub resolve_in : Cabinet → ℕ → List ℕ → List ℕ → Resolved
resolve_in b i subject out = resolve (b.caches i).cache (b.caches i).area b.snapshot b.words subject out

abbrev pub home_in : Cabinet → ℕ → List ℕ → List ℕ → CachedHomed
home_in b i subject out =
    resolve_single_home_cached (b.caches i).cache (b.caches i).area b.snapshot b.words subject out

abbrev pub reply : Cabinet → Call → Reply
reply b (store t es) = stamped (store_to b t).says
reply b (clearing i) = cleared
reply b (asking subject out) = shown (match_in b.snapshot b.words subject out)
reply b (resolving i subject out) =
    let r = resolve_in b i subject out in
    resolved_as (handed r.says r.area.kept r.out)
reply b (asking_home subject out) = home_as (resolve_single_home b.snapshot b.words subject out).says
reply b (resolving_home i subject out) = home_as (home_in b i subject out).says

-- the cabinet as the call leaves it, refused or not
abbrev pub after : Cabinet → Call → Cabinet
after b (store t es) = record { snapshot = (store_to b t).snapshot; words = (store_to b t).area; caches = b.caches }
after b (clearing i) = record {
  snapshot = b.snapshot;
  words = b.words;
  caches = replaced b.caches i (record { cache = clear (b.caches i).cache; area = (b.caches i).area });
}
after b (asking subject out) = b
after b (resolving i subject out) = record {
  snapshot = b.snapshot;
  words = b.words;
  caches =
      let r = resolve_in b i subject out in
      replaced b.caches i (record { cache = r.cache; area = r.area });
}
after b (asking_home subject out) = b
after b (resolving_home i subject out) = record {
  snapshot = b.snapshot;
  words = b.words;
  caches =
      let r = home_in b i subject out in
      replaced b.caches i (record { cache = r.cache; area = r.area });
}
