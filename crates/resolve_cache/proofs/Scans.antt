-- The slot of smallest stamp, slot by slot: the best so far, and then each later one whose stamp is smaller.
use Rattle.std.proofs.Common.{◌≡◌, ℕ, suc, ◌+◌, ◌-◌, ◌<◌, List, ltb, arith, add-one}
use Rattle.subject_rules.specs.Choice.{pick}
use Rattle.resolve_cache_rules.specs.Area.{stamp_at}
use Rattle.resolve_cache_rules.specs.Cache.{oldest_from}

-- slot i is older than the best so far, or not
pub oldest_turn : (stamps : List ℕ) (best i n next x : ℕ) → i < n → next ≡ pick (ltb (stamp_at stamps i) (stamp_at stamps best)) i best
    → oldest_from stamps best i (n - i) ≡ x → oldest_from stamps next (i + 1) (n - (i + 1)) ≡ x
oldest_turn stamps best i n next x h q e =
    let left : n - i ≡ suc (n - suc i) = omega arith in
    rw (q, add-one i) (rw left at e)
