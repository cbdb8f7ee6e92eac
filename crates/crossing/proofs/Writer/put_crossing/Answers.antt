-- `crossing::Writer::put_crossing` meets its contract.
use Rattle.std.proofs.Common.{◌∙◌}
use Rattle.crossing_rules.specs.Crossing.{meet}
use Rattle.crossing.proofs.Turns.{put_goes, no_tail}
use Rattle.crossing.proofs.Writer.put_crossing.Goals as goal

pub loop-token-preserved : goal.loop-token-preserved
loop-token-preserved c =
    let put = c.put_common.ensures in
    let all = rw (c.in-Some.ensures.steps, c.in_ok-other.ensures.steps, no_tail _ _ _ _ _ _ _ c.is_tail.ensures c.if-is_tail.false c.is_tail-in-Some.ensures c.if-is_tail-2.false) at c.loop-token.invariant.2 in (
      put.0 ∙ c.loop-token.invariant.0,
      put.1 ∙ c.loop-token.invariant.1,
      rw put.1 (put_goes (meet c.loop-token.self.filler.now c.in-Some.token.now c.in_ok-other.other.now) _ _ _ _ put.2 _ c.in_ok-put_common.was ∙ all),
    )
