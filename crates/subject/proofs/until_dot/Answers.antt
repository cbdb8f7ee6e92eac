use Rattle.std.proofs.Common.{◌≡◌, ◌==◌, ◌∙◌, arith, rules}
use Rattle.std.specs.List.{position}
use Rattle.std.proofs.lemmas.Iterator.{YieldsList-from_slice}
use Rattle.std.proofs.lemmas.Iterator.Search.{position_from_yields_List}
use borrow.Author.Tests.{tests}
use Rattle.subject.proofs.FirstMark.{dot_in_rest, until_position}
use Rattle.subject.proofs.until_dot.Goals as goal

pub returns : goal.returns
returns c =
    let rest = c.as_chunks.result.1.now in
    let p : c.position.result ≡ position (λ b. b == 0x2e) rest =
    position_from_yields_List (λ b. b == 0x2e) _ _ c.position.result c.position.ensures.ran (YieldsList-from_slice rest cc) (λ x b q k. search (rules, tests)) in
    dot_in_rest _ _ c.as_chunks.ensures.front c.as_chunks.ensures.front_len c.loop-i.i _ (omega arith) (omega arith) rest c.as_chunks.ensures.back _
    (c.unwrap_or.ensures ∙ rw p (until_position rest)) c.loop-i.invariant
