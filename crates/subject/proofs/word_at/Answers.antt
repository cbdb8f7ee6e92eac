use Rattle.std.proofs.Common.{◌++◌, ◌<◌, drop, length, replicate, take_all, w64, ap, ◌∙◌, arith}
use Rattle.std.specs.Int.{from_le_bytes}
use Rattle.subject.proofs.Positions.{rest_is}
use Rattle.subject.proofs.Spelled.{word_padded}
use Rattle.subject.proofs.word_at.Goals as goal

pub returns : goal.returns
returns c =
    let rest = c.in-Some.rest.now in
    let few : length rest < 8 = c.in_default-first_chunk.ensures.cases in
    let short = take_all 8 rest (omega arith) in
    word_padded c.args.s.now rest c.args.at _ (rest_is c.args.s.now rest c.args.at c.in-Some.ensures.lookup.0.2)
    (c.from_le_bytes-2.ensures ∙ ap (from_le_bytes w64) (c.copy_over.ensures.copied ∙ ap (λ l. l ++ drop (length rest) (replicate 8 0)) short))
