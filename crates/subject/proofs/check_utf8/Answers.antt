use Rattle.subject.proofs.Sequences.{utf8_stops}
use Rattle.subject.proofs.check_utf8.Goals as goal

pub returns-in-Err : goal.returns-in-Err
returns-in-Err c = rw c.valid_up_to.ensures (utf8_stops c.args.s.now _ c.in-Err.ensures.cases.1)
