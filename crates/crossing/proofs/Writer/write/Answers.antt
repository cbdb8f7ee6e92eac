use Rattle.std.proofs.Common.{length-take, length-drop, arith}
use Rattle.crossing.proofs.Putting.{written}
use Rattle.crossing.proofs.Writer.write.Goals as goal

pub returns-clause-out : goal.returns-clause-out
returns-clause-out c =
    written c.args.self.now.out.now c.args.bytes.now _ c.args.self.now.at _ _ c.min-start.ensures c.min-end.ensures (c.copy_over.ensures.whole (grind (arith, length-take, length-drop)))
