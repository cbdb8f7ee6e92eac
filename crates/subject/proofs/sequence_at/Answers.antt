use Rattle.std.proofs.Common.{◌∙◌, ap, arith, rules, take}
use Rattle.std.specs.Str.{IsUtf8}
use Rattle.subject_rules.specs.Utf8.{sequence}
use Rattle.std.proofs.lemmas.Iterator.{first_from_Range}
use Rattle.subject.proofs.Positions.{rest_is}
use Rattle.subject.proofs.Sequences.{first_utf8, sequence_end}
use Rattle.subject.proofs.sequence_at.Goals as goal

pub returns-in_default : goal.returns-in_default
returns-in_default c = sequence_end c.args.s.now c.args.at (omega (arith, c.in_default.ensures.lookup.0))

pub returns : goal.returns
returns c =
    let rest = c.in-Some.rest.now in
    let found = first_from_Range _ _ _ c.find.result (λ n. IsUtf8 (take n rest)) (λ n. IsUtf8 (take n rest) → ⊥) c.find.ensures.ran (λ x q k. search rules) (λ x q k. search rules) in
    c.unwrap_or.ensures ∙ first_utf8 rest _ c.min.ensures _ found ∙ ap sequence (rest_is c.args.s.now rest c.args.at c.in-Some.ensures.lookup.0.2)
