-- 01's numbers and values for the answers of the resolve cache,
-- and what a call answered and left as the calls' definitions have it.
use Rattle.std.specs.Prelude.{ℕ, List, [], ◌∷◌, Result, Ok, Err}
use Rattle.subject_rules.specs.Answers.{Answer, answer}
use Rattle.subject.specs.Answers.{refusal}
use Rattle.resolve_cache.specs.declared.ListPlace.{ListPlace}
use Rattle.resolve_cache.specs.declared.ListPlace.TheVariants.{Kept, Walked}
use Rattle.resolve_cache.specs.declared.ResolveError.{ResolveError}
use Rattle.resolve_cache.specs.declared.ResolveError.TheVariants.{Invalid, CacheShort, BadSlot, Damaged, OutShort}
use Rattle.resolve_cache_rules.specs.declared.Answered.{Answered}
use Rattle.resolve_cache_rules.specs.Area.{Area}
use Rattle.resolve_cache_rules.specs.Cache.{in_kept, in_out, Handed, turned_back, gives, Resolved}

-- why a resolve is refused: 1 to 9; 17; 18; 19; 21 with the length needed
abbrev pub resolve_refusal : ResolveError → Answer
resolve_refusal (Invalid e) = refusal e
resolve_refusal CacheShort = answer 17 []
resolve_refusal BadSlot = answer 18 []
resolve_refusal Damaged = answer 19 []
resolve_refusal (OutShort needed) = answer 21 (needed ∷ [])

-- a resolve: where its list lies, or its refusal
abbrev pub resolve_answer : Result ListPlace ResolveError → Answer
resolve_answer (Ok (Kept from count)) = in_kept from count
resolve_answer (Ok (Walked count)) = in_out count
resolve_answer (Err e) = resolve_refusal e

-- what a resolve returned, with the areas as it left them
abbrev pub left : Answered (Result ListPlace ResolveError) → Area → List ℕ → Resolved
left r a out = record { says = resolve_answer r.answer; cache = r.cache; area = a; out = out }

-- the list that is handed back; a refusal hands back none
abbrev pub list_of : Handed → List ℕ
list_of (turned_back r) = []
list_of (gives list) = list
