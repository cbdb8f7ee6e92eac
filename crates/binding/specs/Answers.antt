-- 01's numbers and values for the answers of the two calls that feed `single_home`, and what a call answered and left
-- as their definitions have it.
use Rattle.std.specs.Prelude.{ℕ, List, [], ◌∷◌, Result, Ok, Err}
use Rattle.sublist_walk.specs.declared.MatchError.{MatchError}
use Rattle.sublist_walk.specs.Answers.{match_refusal}
use Rattle.resolve_cache_rules.specs.declared.Answered.{Answered}
use Rattle.resolve_cache_rules.specs.Area.{Area}
use Rattle.resolve_cache.specs.declared.ResolveError.{ResolveError}
use Rattle.resolve_cache.specs.Answers.{resolve_refusal}
use Rattle.binding.specs.declared.SingleHome.{SingleHome}
use Rattle.binding.specs.declared.Resolution.{Resolution}
use Rattle.binding.specs.Verdict.{Judged, turned_down, judged, Homed, CachedHomed}

-- the verdict with the peak and the generation, or the refusal of the match
abbrev pub home_answer : Result SingleHome MatchError → Judged
home_answer (Ok home) = judged home.resolution (home.peak ∷ home.generation.0 ∷ [])
home_answer (Err e) = turned_down (match_refusal e)

-- the verdict, or the refusal of the resolve
abbrev pub cached_answer : Result Resolution ResolveError → Judged
cached_answer (Ok resolution) = judged resolution []
cached_answer (Err e) = turned_down (resolve_refusal e)

-- what a call returned, with the output as it left it
abbrev pub homed : Result SingleHome MatchError → List ℕ → Homed
homed r out = record { says = home_answer r; out = out }

-- and with the areas as it left them
abbrev pub cached_homed : Answered (Result Resolution ResolveError) → Area → List ℕ → CachedHomed
cached_homed r a out = record { says = cached_answer r.answer; cache = r.cache; area = a; out = out }
