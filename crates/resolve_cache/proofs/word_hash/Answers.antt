-- `resolve_cache::word_hash` meets its contract. Assumes nothing.
use Rattle.std.proofs.Common.{rules, ◌≡◌, ◌+◌, ◌/◌, length, ap, ◌∙◌, arith}
use Rattle.std.proofs.lemmas.Iterator.{YieldsList-from_range}
use Rattle.std.proofs.lemmas.Iterator.Consumers.{fold_from_yields_List}
use Rattle.resolve_cache_rules.specs.Mark.{hash_from}
use Rattle.resolve_cache.proofs.Hashes.{with_word, fold_words}
use Rattle.resolve_cache.proofs.word_hash.Goals as goal

pub returns : goal.returns
returns c =
    let all = fold_from_yields_List _ (with_word c.args.text.now) 0xcbf29ce484222325 _ c.fold.ensures.ran
    (YieldsList-from_range 0 c.div_ceil.result c.div_ceil.result (cc) (omega arith)) (λ a x b q k. search rules) in
    let n : c.div_ceil.result ≡ (length c.args.text.now + 7) / 8 = omega (arith, c.div_ceil.ensures) in
    all ∙ fold_words c.args.text.now 0xcbf29ce484222325 0 c.div_ceil.result ∙ ap (hash_from c.args.text.now 0xcbf29ce484222325 0) n
