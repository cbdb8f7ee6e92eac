-- The verdict on a list of targets, and the two calls that feed it.
use Rattle.std.specs.Prelude.{ℕ, zero, suc, Bool, true, false, List, [], ◌∷◌, length, take, get_or, Option, Some, None}
use Rattle.subject_rules.specs.Answers.{Answer, answer}
use Rattle.subject_rules.specs.Outputs.{Outcome, outcome}
use Rattle.sublist_snapshot.specs.declared.Snapshot.{Snapshot}
use Rattle.sublist_snapshot.specs.Snapshot.{match_in}
use Rattle.resolve_cache_rules.specs.declared.ResolveCache.{ResolveCache}
use Rattle.resolve_cache_rules.specs.Area.{Area}
use Rattle.resolve_cache_rules.specs.Cache.{Handed, turned_back, gives, handed, Resolved, resolve}
use Rattle.binding.specs.declared.Resolution.{Resolution}
use Rattle.binding.specs.declared.Resolution.TheVariants.{Routed, NoStream, Ambiguous}

-- `single_home`: empty list NoStream, one target Routed with it, else Ambiguous with the length
abbrev pub single_home : List ℕ → Resolution
single_home [] = NoStream
single_home (x ∷ []) = Routed x
single_home (x ∷ (y ∷ zs)) = Ambiguous (length (x ∷ (y ∷ zs)))

-- `routed`: the target, if there is one home
abbrev pub routed : Resolution → Option ℕ
routed (Routed target) = Some target
routed NoStream = None
routed (Ambiguous matched) = None

abbrev pub is_routed : Resolution → Bool
is_routed (Routed target) = true
is_routed NoStream = false
is_routed (Ambiguous matched) = false

-- what a call that feeds `single_home` says: a refusal, or the verdict and the values behind it
pub data Judged : Type 0 where
  turned_down : Answer → Judged
  judged : Resolution → List ℕ → Judged

-- of a match: the verdict on the list at the start of the output, then the peak and the generation
abbrev pub judge_match : Outcome → Judged
judge_match (outcome (answer zero values) out) =
    judged (single_home (take (get_or values 0 0) out)) (get_or values 1 0 ∷ get_or values 2 0 ∷ [])
judge_match (outcome (answer (suc k) values) out) = turned_down (answer (suc k) values)

-- of a resolve: the verdict on the list handed back
abbrev pub judge_handed : Handed → Judged
judge_handed (turned_back r) = turned_down r
judge_handed (gives list) = judged (single_home list) []

abbrev pub output_of : Outcome → List ℕ
output_of (outcome a out) = out

-- a verdict, and the output afterwards
pub record Homed : Type 0 where
  pub says : Judged
  pub out : List ℕ

-- `resolve_single_home`: a match through the snapshot
unfoldable pub resolve_single_home : Snapshot → List ℕ → List ℕ → List ℕ → Homed
resolve_single_home s area subject out =
    record { says = judge_match (match_in s area subject out); out = output_of (match_in s area subject out) }

-- a verdict, and the cache and areas afterwards
pub record CachedHomed : Type 0 where
  pub says : Judged
  pub cache : ResolveCache
  pub area : Area
  pub out : List ℕ

abbrev pub judge_resolved : Resolved → CachedHomed
judge_resolved r =
    record { says = judge_handed (handed r.says r.area.kept r.out); cache = r.cache; area = r.area; out = r.out }

-- `resolve_single_home_cached`: a resolve
unfoldable pub resolve_single_home_cached : ResolveCache → Area → Snapshot → List ℕ → List ℕ → List ℕ → CachedHomed
resolve_single_home_cached c a s area subject out = judge_resolved (resolve c a s area subject out)
