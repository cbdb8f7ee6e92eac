use Rattle.std.proofs.Common.{◌≡◌, ◌==◌, ℕ, ◌+◌, cond, Bool, true, false, eqb, List, [], ◌∷◌, length, count_by, refl, ap, ◌∙◌, arith, take_all}
use Rattle.std.proofs.lemmas.List.Sums.{sum_by-cons}
use Rattle.subject_rules.specs.Text.{cut_at, tokens}
use Rattle.subject_rules.proofs.Tokens.{tokens_cons}
use Rattle.subject.proofs.depth.Goals as goal

-- one more than it has dots
tokens_counted : (bs : List ℕ) → length (tokens bs) ≡ 1 + count_by (λ b. b == 0x2e) bs
tokens_counted [] = refl
tokens_counted (b ∷ bs) = go (eqb b 0x2e) (tokens_counted bs) ∙ omega (arith, sum_by-cons (λ b. cond (b == 0x2e) 1 0) b bs)
  where
    go : (dot : Bool) → length (tokens bs) ≡ 1 + count_by (λ b. b == 0x2e) bs
        → length (cut_at dot b (tokens bs)) ≡ 1 + (cond dot 1 0 + count_by (λ b. b == 0x2e) bs)
    go true e = omega (arith, e)
    go false e = tokens_cons (λ ts. length (cut_at false b ts) ≡ length ts) (λ t ts. refl) bs ∙ omega (arith, e)

pub returns : goal.returns
returns c =
    let text = c.args.text.now in
    let whole = ap (count_by (λ b. b == 0x2e)) (take_all c.loop-b.b-index text (omega arith)) in
    omega (arith, tokens_counted text, whole)
