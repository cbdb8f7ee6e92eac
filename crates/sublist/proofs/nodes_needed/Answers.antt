use Rattle.std.proofs.Common.{sym, arith}
use Rattle.sublist.proofs.OneMore.{needed_none, needed-next, longest_all, shared-tokens}
use Rattle.sublist.proofs.nodes_needed.Goals as goal

pub loop-i-init : goal.loop-i-init
loop-i-init g c = (sym (needed_none _), omega arith)

pub overflow_sub-needed : goal.overflow_sub-needed
overflow_sub-needed g c = omega (arith, longest_all c.args.list.now.store c.text-text.result.now)

pub overflow_add-needed : goal.overflow_add-needed
overflow_add-needed g c = omega (arith, shared-tokens c.text-text.result.now)

pub loop-i-preserved : goal.loop-i-preserved
loop-i-preserved g c = (
  needed-next _ _ _ (omega arith) _ _ _ c.loop-i.invariant.0 (rw (← c.text-text.ensures.text) c.shared_run.ensures) (rw (← c.text-text.ensures.text) c.longest_shared.ensures),
  omega (arith, shared-tokens c.text-text.result.now),
)
