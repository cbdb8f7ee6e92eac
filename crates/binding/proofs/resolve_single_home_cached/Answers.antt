-- `binding::resolve_single_home_cached` meets its contract. Assumes nothing.
use Rattle.std.proofs.Common.{◌≡◌, Ok, Err, rules}
use Rattle.std.proofs.lemmas.Result.{MatchResult-weaker}
use Rattle.resolve_cache_rules.specs.Answers.{lent}
use Rattle.binding.specs.Verdict.{single_home}
use Rattle.binding.proofs.Judging.{answer-judged, resolve-judged}
use Rattle.binding.proofs.resolve_single_home_cached.Goals as goal

pub returns : goal.returns
returns c =
    let mapped =
    MatchResult-weaker c.resolve-resolved.result.answer {P' = λ x. c.map.result ≡ Ok (single_home c.list-list.result.now)} {Q' = λ e. c.map.result ≡ Err e}
    c.map.ensures.cases (λ x h. search rules) (λ e h. h) in
    resolve-judged c.args.cache (lent c.args.stamps.now c.args.keys.now c.args.kept.now) c.args.standing.now.snapshot c.args.standing.now.area.now c.args.subject.now c.args.out.now
    c.resolve-resolved.result (lent c.resolve-resolved.new.stamps c.resolve-resolved.new.keys c.resolve-resolved.new.kept) c.resolve-resolved.new.out c.map.result c.resolve-resolved.ensures
    (answer-judged c.resolve-resolved.result.answer c.resolve-resolved.new.kept c.resolve-resolved.new.out c.list-list.result.now c.map.result c.list-list.ensures mapped)
