-- `resolve_cache::Keys::find` meets its contract. Assumes nothing.
use Rattle.std.proofs.Common.{rules, arith, refl}
use Rattle.resolve_cache.proofs.Runs.{first_is, first_in_runs}
use Rattle.resolve_cache.proofs.Keys.find.Goals as goal

pub returns : goal.returns
returns c =
    let p = c.find_map.ensures.runs in
    first_is _ _ _ _ _
    (first_in_runs _ _ c.args.self.now.capacity c.args.self.now.bytes.now c.args.subject.now c.args.n (λ run r q called. search rules) _ c.div_ceil.result refl refl (omega (arith, c.div_ceil.ensures)) c.find_map.result p.0 p.1 p.2)
