use Rattle.std.proofs.Common.{refl}
use Rattle.subject.proofs.Spelled.{eight_read}
use Rattle.subject.proofs.Marks.{barred_marked}
use Rattle.subject.proofs.barred_in.Goals as goal

pub returns : goal.returns
returns c = barred_marked (eight_read c.args.word.now c.told-word c.fits-word _ c.from_le_bytes-w.ensures) _ _ _ _ refl refl refl refl
