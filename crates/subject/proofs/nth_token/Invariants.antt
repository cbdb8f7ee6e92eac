-- The loop's invariant: token n of the text is one of the tokens left, so many fewer on as were passed.
use Rattle.std.proofs.Common.{◌≡◌, ◌-◌}
use Rattle.subject_rules.specs.Text.{tokens}
use Rattle.subject.specs.Reading.{tokens_from, place_in}
use Rattle.subject.proofs.nth_token.Given as goal

abbrev pub invariant-loop : goal.invariant-loop
invariant-loop l =
    (l.tokens.text.now ≡ l.text)
    × (place_in l.tokens.at (tokens_from l.text l.tokens.at) (l.n - l.counter) ≡ place_in 0 (tokens l.text) l.n)
