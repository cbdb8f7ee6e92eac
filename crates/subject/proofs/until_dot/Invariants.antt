-- The loop's invariant: the first dot is behind the words that were passed.
use Rattle.std.proofs.Common.{◌≡◌, ◌+◌, ◌*◌, drop}
use Rattle.subject.specs.Reading.{until_dot}
use Rattle.subject.proofs.until_dot.Given as goal

abbrev pub invariant-loop-i : goal.invariant-loop-i
invariant-loop-i l = until_dot l.text ≡ 8 * l.i + until_dot (drop (8 * l.i) l.text)
