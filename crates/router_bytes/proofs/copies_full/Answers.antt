-- `router_bytes::copies_full` meets its contract: a sum that stops at the largest number is more than the copies hold just where the sum is.
use Rattle.std.proofs.Common.{◌≡◌, ℕ, ◌+◌, ◌-◌, ◌^◌, min, List, sum, refl, ◌∙◌, arith, rules}
use Rattle.std.specs.List.{fold}
use Rattle.std.proofs.lemmas.Bool.Decides.{nat_tests}
use Rattle.std.proofs.lemmas.List.Folds.{fold_along}
use Rattle.router_bytes.proofs.copies_full.Goals as goal

abbrev add : ℕ → ℕ → ℕ
add all size = min (all + size) (2 ^ 64 - 1)

capped : (sizes : List ℕ) → fold add 0 sizes ≡ min (sum sizes) (2 ^ 64 - 1)
capped sizes = fold_along add (λ all size. all + size) (λ a b. a ≡ min b (2 ^ 64 - 1)) (λ a b size e. omega arith) 0 0 sizes refl

pub returns : goal.returns
returns c =
    let ran : c.fold.result ≡ fold add 0 c.args.sizes.now = search rules in
    let same : c.fold.result ≡ min (sum c.args.sizes.now) (2 ^ 64 - 1) = ran ∙ capped c.args.sizes.now in
    grind (arith, nat_tests)
