-- The loop's invariant: the tokens that are left make of the output what all of them make.
use Rattle.std.proofs.Common.{◌≡◌, ◌∷◌, map}
use Rattle.std.proofs.Math.Option.{some}
use Rattle.subject.specs.Reading.{tokens_from}
use Rattle.crossing_rules.specs.Crossing.{plain}
use Rattle.crossing.specs.Writing.{progress}
use Rattle.crossing.proofs.Writer.put_rest.Given as goal

abbrev pub invariant-loop-token : goal.invariant-loop-token
invariant-loop-token l =
    (l.self.out.ghost_name ≡ l.fn.self.out.ghost_name)
    × (l.self.filler ≡ l.fn.self.filler)
    × (progress (some (map (plain l.self.filler.now) (tokens_from l.token-iterator.text.now l.token-iterator.at))) l.self.at l.self.out.now
    ≡ progress (some (map (plain l.fn.self.filler.now) (l.fn.token ∷ tokens_from l.fn.behind.text.now l.fn.behind.at))) l.fn.self.at l.fn.self.out.now)
