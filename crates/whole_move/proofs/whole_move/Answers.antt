-- `whole_move::whole_move` meets its contract.
use Rattle.std.proofs.Common.{sym}
use Rattle.whole_move.proofs.Ways.{move_stopped, move_short}
use Rattle.whole_move.proofs.whole_move.Goals as goal

pub returns-in_default : goal.returns-in_default
returns-in_default c =
    move_stopped _ _ _ _ _ c.as_chunks.ensures.front _ c.if-spans-gt-MAX_MOVE.false c.in_ok-check_subjects.ensures (sym c.if-not-stands.ensures) _ _ c.in_ok-answer.ensures.told _ _ c.in_default.is

pub returns-then-out-count : goal.returns-then-out-count
returns-then-out-count c =
    move_short _ _ _ _ _ c.as_chunks.ensures.front _ c.if-spans-gt-MAX_MOVE.false c.in_ok-check_subjects.ensures (sym c.if-not-stands.ensures) _ _ c.in_ok-answer.ensures.told c.in_ok-answer.ensures.within _ c.in-Routed.is c.if-out-count.true
