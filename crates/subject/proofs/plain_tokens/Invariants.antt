-- The loop's invariant: what the marks of the words so far have shown.
use Rattle.std.proofs.Common.{◌*◌}
use Rattle.subject.proofs.PlainWords.{Seen}
use Rattle.subject.proofs.plain_tokens.Given as goal

abbrev pub invariant-loop-word : goal.invariant-loop-word
invariant-loop-word l = Seen l.text l.faults l.counts l.before (8 * l.word-index)
