use Rattle.sublist.proofs.Stages.{no_room, all_in_then}
use Rattle.sublist.proofs.build_list.Goals as goal

pub returns-in_default : goal.returns-in_default
returns-in_default g c = no_room _ _ _ _ _ c.in_ok-list.ensures.refused _ _ c.in_ok-list.ensures.same _ c.in_default.ensures.all _ c.nodes_needed.ensures

pub returns : goal.returns
returns g c = all_in_then _ _ _ _ _ c.in_ok-list.ensures.refused _ _ c.in_ok-list.ensures.same _ _ _ c.in-Ok.ensures.all _ (rw c.deref.ensures.0 at c.finish.ensures)
