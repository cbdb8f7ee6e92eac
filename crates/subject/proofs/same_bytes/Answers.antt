use Rattle.std.proofs.Common.{arith, rules}
use Rattle.subject.proofs.Same.{lengths_differ, words_differ, words_same}
use Rattle.subject.proofs.same_bytes.Goals as goal

pub returns-then-a-b : goal.returns-then-a-b
returns-then-a-b c = lengths_differ _ _ c.if-a-b.true

pub returns-then-eight_at : goal.returns-then-eight_at
returns-then-eight_at c =
    words_differ c.args.a.now c.args.b.now c.loop-i.i (search rules) (omega arith) (λ i. omega (arith, c.type_inv.a i)) (λ i. omega (arith, c.type_inv.b i)) _ _
    c.eight_at.ensures c.eight_at-in-loop-i.ensures c.if-eight_at.true c.loop-i.invariant.1

pub loop-i-preserved : goal.loop-i-preserved
loop-i-preserved c = (
  omega arith,
  words_same c.args.a.now c.args.b.now c.loop-i.i (search rules) (omega arith) (λ i. omega (arith, c.type_inv.a i)) (λ i. omega (arith, c.type_inv.b i)) _ _
      c.eight_at.ensures c.eight_at-in-loop-i.ensures c.if-eight_at.false c.loop-i.invariant.1,
)
