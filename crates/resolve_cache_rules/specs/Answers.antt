-- 01's number and values for the making of a cache; the lent lists.
use Rattle.std.specs.Prelude.{ℕ, List, [], Result, Ok, Err}
use Rattle.subject_rules.specs.Answers.{Answer, answer}
use Rattle.resolve_cache_rules.specs.declared.ResolveCache.{ResolveCache}
use Rattle.resolve_cache_rules.specs.declared.CacheShort.{CacheShort}
use Rattle.resolve_cache_rules.specs.Area.{Area}
use Rattle.resolve_cache_rules.specs.Cache.{cache_numbers}

-- the making of a cache: its numbers, or 17
abbrev pub cache_answer : Result ResolveCache CacheShort → Answer
cache_answer (Ok cache) = answer 0 (cache_numbers cache)
cache_answer (Err short) = answer 17 []

-- the three lent lists as an area
abbrev pub lent : List ℕ → List ℕ → List ℕ → Area
lent stamps keys kept = record { stamps = stamps; keys = keys; kept = kept }
