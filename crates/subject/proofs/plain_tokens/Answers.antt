use Rattle.std.proofs.Common.{◌∙◌, arith}
use Rattle.subject.proofs.PlainTexts.{accepted_if}
use Rattle.subject.proofs.PlainWords.{seen_word, count_fits, seen-rest}
use Rattle.subject.proofs.plain_tokens.Goals as goal

pub loop-word-preserved : goal.loop-word-preserved
loop-word-preserved c = seen_word _ _ c.as_chunks.ensures.front c.as_chunks.ensures.front_len _ c.loop-word-test.true _ _ _ c.loop-word.invariant _ _ c.dots_in-dots.ensures c.barred_in.ensures

pub plain_rest-requires : goal.plain_rest-requires
plain_rest-requires c = (omega arith, count_fits _ _ _ _ _ c.loop-word.invariant (omega arith))

pub returns : goal.returns
returns c =
    let e = seen-rest _ _ _ _ _ c.loop-word.invariant (omega arith) c.if-faults-ne0.false _ (omega arith) _ c.as_chunks.ensures.back in
    accepted_if c.args.text.now c.plain_rest.result (c.plain_rest.ensures ∙ e) (omega arith)
