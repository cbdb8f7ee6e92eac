use Rattle.std.proofs.Common.{◌≡◌, ◌+◌, ◌-◌, ltb, ◌∙◌, arith, le-ltb, lt-ltb}
use Rattle.subject_rules.specs.Choice.{pick}
use Rattle.resolve_cache_rules.specs.Area.{stamp_at}
use Rattle.resolve_cache_rules.specs.Cache.{oldest_from}
use Rattle.resolve_cache.proofs.Scans.{oldest_turn}
use Rattle.resolve_cache.proofs.oldest.Goals as goal
use Rattle.resolve_cache.proofs.oldest.Goals.{then-stamps-i, else-stamps-i}

pub loop-i-preserved : goal.loop-i-preserved
loop-i-preserved c =
    let stamps = c.args.stamps.now in
    let l = c.loop-i in
    let turn : c.if-stamps-i.best ≡ pick (ltb (stamp_at stamps l.i) (stamp_at stamps l.best)) l.i l.best
    → oldest_from stamps c.if-stamps-i.best (l.i + 1) (c.args.n - (l.i + 1)) ≡ oldest_from stamps 0 1 (c.args.n - 1) =
    λ q. oldest_turn stamps l.best l.i c.args.n c.if-stamps-i.best _ (omega arith) q l.invariant.1 in
    elim c.if-stamps-i.branch [
      | then-stamps-i w ↦ (omega arith, turn (w.best-is ∙ rw (lt-ltb _ _ w.if-stamps-i.true)))
      | else-stamps-i w ↦ (omega arith, turn (w.best-is ∙ rw (le-ltb _ _ w.if-stamps-i.false)))
    ]
