use Rattle.std.proofs.Common.{arith}
use Rattle.std.proofs.lemmas.Grind.{common_steps}
use Rattle.std.proofs.lemmas.List.Elements.{All-push}
use Rattle.sublist.proofs.Lines.{lines_on}
use Rattle.sublist.proofs.insert_entries.Goals as goal

pub loop-i-preserved : goal.loop-i-preserved
loop-i-preserved g c = record {
  lines = grind (arith, common_steps, lines_on);
  below = grind (arith, common_steps, All-push);
  each = grind (arith, common_steps);
  some = grind (arith, common_steps);
  room = grind (arith, common_steps);
}
