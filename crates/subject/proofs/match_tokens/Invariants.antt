-- The loop's invariant: matching the tokens that are left gives the answer for all.
use Rattle.std.proofs.Common.{◌≡◌}
use Rattle.subject_rules.specs.Text.{tokens}
use Rattle.subject_rules.specs.Matching.{match_tokens}
use Rattle.subject.specs.Reading.{tokens_from}
use Rattle.subject.proofs.match_tokens.Given as goal

abbrev pub invariant-loop-token : goal.invariant-loop-token
invariant-loop-token l =
    match_tokens (tokens_from l.token-iterator.text.now l.token-iterator.at) (tokens_from l.others.text.now l.others.at)
    ≡ match_tokens (tokens l.pattern) (tokens l.subject)
