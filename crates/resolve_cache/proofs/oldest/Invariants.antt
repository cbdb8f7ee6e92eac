-- The loop's invariant: the oldest of `best` and the slots from `i` on is the oldest of all.
use Rattle.std.proofs.Common.{◌≡◌, ◌-◌, ◌<◌}
use Rattle.resolve_cache_rules.specs.Cache.{oldest_from}
use Rattle.resolve_cache.proofs.oldest.Given as goal

abbrev pub invariant-loop-i : goal.invariant-loop-i
invariant-loop-i l = (l.best < l.n) × (oldest_from l.stamps l.best l.i (l.n - l.i) ≡ oldest_from l.stamps 0 1 (l.n - 1))
