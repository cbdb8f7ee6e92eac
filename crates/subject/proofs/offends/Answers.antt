use Rattle.std.proofs.Common.{◌∙◌, false, sym, rules, tests}
use Rattle.std.proofs.lemmas.Iterator.{YieldsList-from_slice}
use Rattle.std.proofs.lemmas.Iterator.Consumers.{fold_from_yields_List}
use Rattle.subject.proofs.Offending.{any_bad, none_bad}
use Rattle.subject.proofs.offends.Goals as goal

pub returns : goal.returns
returns c =
    let all = fold_from_yields_List _ any_bad false _ c.fold.ensures.ran (YieldsList-from_slice c.args.token.now cc) (λ a x b q k. search (rules, tests)) in
    λ e index. none_bad c.args.token.now index (sym all ∙ e)
