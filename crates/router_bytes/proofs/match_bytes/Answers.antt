-- `router_bytes::match_bytes` meets its contract: an accepted match's words fit over the bytes of the output, and are written there.
use Rattle.router_bytes.proofs.Copies.{fit, match_found}
use Rattle.router_bytes.proofs.match_bytes.Goals as goal

pub store-requires : goal.store-requires
store-requires c = fit 4 c.args.out_bytes.now c.load-out.result.0.now c.match_table.new.out c.load-out.ensures.loaded c.match_table.auto.out

pub returns : goal.returns
returns c =
    match_found _ _ _ _ _ _ c.if-copies_full.ensures _ _ _ _ c.load-node_words.ensures.loaded c.load-target_words.ensures.loaded c.load-out.ensures.loaded
    _ _ c.in_ok-found.ensures c.store.ensures
