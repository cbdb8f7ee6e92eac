use Rattle.std.proofs.Common.{◌≡◌, max, ◌∙◌, arith}
use Rattle.sublist.proofs.OneMore.{longest_next}
use Rattle.sublist.proofs.longest_shared.Goals as goal

pub loop-j-preserved : goal.loop-j-preserved
loop-j-preserved g c =
    let larger : c.max-most.result ≡ max c.loop-j.most c.shared_run.result = grind arith in
    larger ∙ longest_next _ _ _ (omega arith) _ _ _ c.loop-j.invariant (rw (← c.text.ensures.text) c.shared_run.ensures)
