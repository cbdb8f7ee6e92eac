-- `router_bytes::resolve_bytes` meets its contract: 99, or the resolve on copies.
use Rattle.std.proofs.Common.{◌≡◌, true, false, sym, ◌∙◌}
use Rattle.std.proofs.Common.{rules}
use Rattle.resolve_cache.specs.Answers.{resolve_answer}
use Rattle.router_bytes.specs.Answers.{bytes_answer}
use Rattle.router_bytes.proofs.Copies.{fit, wrote, stayed}
use Rattle.router_bytes.proofs.Resolving.{resolved}
use Rattle.router_bytes.proofs.resolve_bytes.Goals as goal
use Rattle.router_bytes.proofs.resolve_bytes.Goals.{then-is_ok, else-is_ok}

pub store-requires : goal.store-requires
store-requires c = fit 8 c.args.stamps.now c.load-stamp_numbers.result.0.now c.resolve-resolved.new.stamps c.load-stamp_numbers.ensures.loaded c.resolve-resolved.auto.stamps

pub store-requires-then-is_ok : goal.store-requires-then-is_ok
store-requires-then-is_ok c = fit 4 c.args.kept.now c.load-kept_words.result.0.now c.resolve-resolved.new.kept c.load-kept_words.ensures.loaded c.resolve-resolved.auto.kept

pub store-requires-then-is_ok-2 : goal.store-requires-then-is_ok-2
store-requires-then-is_ok-2 c = fit 4 c.args.out.now c.load-out_words.result.0.now c.resolve-resolved.new.out c.load-out_words.ensures.loaded c.resolve-resolved.auto.out

pub returns : goal.returns
returns c =
    let new = λ (t : c.is_ok.result ≡ true). wrote c.resolve-resolved.result.answer (sym c.is_ok.ensures.value ∙ t) in
    let old = λ (t : c.is_ok.result ≡ false). stayed c.resolve-resolved.result.answer (sym c.is_ok.ensures.value ∙ t) in
    let done = resolved c.args.cache c.args.snapshot c.args.stamps.now c.args.keys.now c.args.kept.now c.args.area.now c.args.subject.now c.args.out.now c.if-copies_full.ensures
    c.resolve-resolved.result _ _ _ _ _ _ _ _ c.if-is_ok.stamps c.if-is_ok.kept c.if-is_ok.out
    c.load-stamp_numbers.ensures.loaded c.load-kept_words.ensures.loaded c.load-area_words.ensures.loaded c.load-out_words.ensures.loaded c.resolve-resolved.ensures in
    let told : bytes_answer c.map_err.result ≡ resolve_answer c.resolve-resolved.result.answer = search rules in
    rw told
    (elim c.if-is_ok.branch [
      | then-is_ok w ↦ done (w.stamps-is ∙ w.store.ensures ∙ new w.if-is_ok.true _ _) (w.kept-is ∙ w.store-then-is_ok.ensures ∙ new w.if-is_ok.true _ _) (w.out-is ∙ w.store-then-is_ok-2.ensures ∙ new w.if-is_ok.true _ _)
      | else-is_ok w ↦ done (w.stamps-is ∙ old w.if-is_ok.false _ _) (w.kept-is ∙ old w.if-is_ok.false _ _) (w.out-is ∙ old w.if-is_ok.false _ _)
    ])
