-- 01's numbers and values for the answers of the two calls on bytes, and what a resolve answered and left as its
-- definition has it.
use Rattle.std.specs.Prelude.{ℕ, List, [], Result, Ok, Err}
use Rattle.subject_rules.specs.Answers.{Answer, answer}
use Rattle.sublist_walk.specs.declared.TableMatch.{TableMatch}
use Rattle.sublist_walk.specs.declared.MatchError.{MatchError}
use Rattle.sublist_walk.specs.Answers.{match_answer}
use Rattle.resolve_cache_rules.specs.declared.Answered.{Answered}
use Rattle.resolve_cache_rules.specs.Area.{Area}
use Rattle.resolve_cache_rules.specs.Cache.{Resolved}
use Rattle.resolve_cache.specs.declared.ListPlace.{ListPlace}
use Rattle.resolve_cache.specs.declared.ResolveError.{ResolveError}
use Rattle.resolve_cache.specs.Answers.{resolve_answer}
use Rattle.router_bytes.specs.declared.BytesError.{BytesError}
use Rattle.router_bytes.specs.declared.BytesError.TheVariants.{CopyFull, Refused}

-- a match on bytes: what the match on the copies answers; 99
abbrev pub bytes_match_answer : Result TableMatch (BytesError MatchError) → Answer
bytes_match_answer (Ok m) = match_answer (Ok m)
bytes_match_answer (Err CopyFull) = answer 99 []
bytes_match_answer (Err (Refused e)) = match_answer (Err e)

-- a resolve on bytes: what the resolve on the copies answers; 99
abbrev pub bytes_answer : Result ListPlace (BytesError ResolveError) → Answer
bytes_answer (Ok place) = resolve_answer (Ok place)
bytes_answer (Err CopyFull) = answer 99 []
bytes_answer (Err (Refused e)) = resolve_answer (Err e)

-- what a resolve on bytes returned, with the areas as it left them
abbrev pub left_bytes : Answered (Result ListPlace (BytesError ResolveError)) → Area → List ℕ → Resolved
left_bytes r a out = record { says = bytes_answer r.answer; cache = r.cache; area = a; out = out }
