-- The loop's invariant: the tokens that are left make of the output what all of them make.
use Rattle.std.proofs.Common.{◌≡◌, length}
use Rattle.subject_rules.specs.Text.{tokens}
use Rattle.subject.specs.Reading.{tokens_from}
use Rattle.crossing_rules.specs.Crossing.{common}
use Rattle.crossing.specs.Writing.{progress}
use Rattle.crossing.proofs.Writer.put_crossing.Given as goal

abbrev pub invariant-loop-token : goal.invariant-loop-token
invariant-loop-token l =
    (l.self.out.ghost_name ≡ l.fn.self.out.ghost_name)
    × (l.self.filler ≡ l.fn.self.filler)
    × (progress (common l.self.filler.now (tokens_from l.tokens.text.now l.tokens.at) (tokens_from l.others.text.now l.others.at)) l.self.at l.self.out.now
    ≡ progress (common l.fn.self.filler.now (tokens l.first) (tokens l.second)) l.fn.self.at l.fn.self.out.now)

abbrev pub decreases-loop-token : goal.decreases-loop-token
decreases-loop-token l = length (tokens_from l.tokens.text.now l.tokens.at)
