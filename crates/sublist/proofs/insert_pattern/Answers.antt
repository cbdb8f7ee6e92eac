use Rattle.std.proofs.Common.{arith}
use Rattle.std.proofs.lemmas.Result.{err_from_is_err_and}
use Rattle.sublist.proofs.Places.{place_fits}
use Rattle.sublist.proofs.Runs.{run_tail, run_on, run_stop}
use Rattle.sublist.proofs.insert_pattern.Goals as goal

pub returns-then-is_tail-clause-run : goal.returns-then-is_tail-clause-run
returns-then-is_tail-clause-run c = run_tail _ _ _ _ c.loop-token.invariant.run _ _ c.in-Some.ensures.steps _ c.is_tail.ensures c.if-is_tail.true

pub returns-in_err-at-clause-run : goal.returns-in_err-at-clause-run
returns-in_err-at-clause-run c =
    let p = err_from_is_err_and c.from_residual.result c.from_residual.ensures.1 in
    rw (p.1)
    (run_stop _ _ _ _ c.loop-token.invariant.run _ _ c.in-Some.ensures.steps _ c.is_tail.ensures c.if-is_tail.false _ c.child_key.ensures _ _ c.child_or_new.ensures _ c.in_err-at.was)

pub loop-token-preserved : goal.loop-token-preserved
loop-token-preserved c =
    let fits = place_fits _ _ _ _ _ _ c.child_or_new.ensures (omega arith) _ c.in_ok-at.was in
    record {
      run = run_on _ _ _ _ c.loop-token.invariant.run _ _ c.in-Some.ensures.steps _ c.is_tail.ensures c.if-is_tail.false _ c.child_key.ensures _ _ c.child_or_new.ensures _ c.in_ok-at.was;
      counted = fits.0;
      room = omega (arith, fits.1);
    }
