use Rattle.subject.proofs.Spelled.{eight_read}
use Rattle.subject.proofs.Marks.{dots_marked}
use Rattle.subject.proofs.dots_in.Goals as goal

pub returns : goal.returns
returns c = dots_marked (eight_read c.args.word.now c.told-word c.fits-word _ c.from_le_bytes-w.ensures)
