-- `sublist::shared_run` meets its contract: its chain gives the pairs of tokens up to the first whose keys are not equal.
use Rattle.std.proofs.Common.{inl, ◌∙◌, rules, tests, arith}
use Rattle.std.proofs.lemmas.Iterator.{YieldsList-from_zip}
use Rattle.std.proofs.lemmas.Iterator.Consumers.{YieldsList-at, YieldsList-from_first, count_from_yields_List}
use Rattle.std.proofs.lemmas.Iterator.Search.{YieldsList-from_take_while}
use Rattle.subject.specs.Reading.{tokens_from}
use Rattle.subject_rules.specs.Text.{tokens}
use Rattle.sublist.specs.Sharing.{same_key}
use Rattle.sublist.proofs.Alike.{run_alike}
use Rattle.subject_rules.proofs.Tokens.{tokens_most}
use Rattle.sublist.proofs.shared_run.Goals as goal

pub count-requires-clause-fits : goal.count-requires-clause-fits
count-requires-clause-fits c =
    inl (rw (c.take_while.ensures.source, c.zip.ensures.first, c.zip.ensures.second, c.new.ensures.whole, c.new-2.ensures.whole) (omega (arith, tokens_most c.args.a.now)))

pub returns : goal.returns
returns c =
    count_from_yields_List _ _ c.count.ensures.ran
    (YieldsList-from_take_while _ (λ p. same_key p.0 p.1)
    (YieldsList-at c.take_while.ensures.source
    (YieldsList-from_zip
    (YieldsList-at c.zip.ensures.first (YieldsList-from_first (λ token. token.now) (λ s. tokens_from s.text.now s.at) (tokens c.args.a.now) c.new.ensures.whole))
    (YieldsList-at c.zip.ensures.second (YieldsList-from_first (λ token. token.now) (λ s. tokens_from s.text.now s.at) (tokens c.args.b.now) c.new-2.ensures.whole))))
    c.take_while.ensures.closure c.take_while.ensures.done (λ x b q k. search (rules, tests)))
    ∙ run_alike c.args.a.now c.args.b.now
