use Rattle.std.proofs.Common.{◌≡◌, ℕ, ◌*◌, ◌%◌, ◌^◌, List, [], ◌∷◌, fold, bit_xor, refl, ◌∙◌, rules}
use Rattle.subject_rules.specs.Fnv.{fnv, fnv_from}
use Rattle.subject.proofs.token_hash.Goals as goal

hashed : (h : ℕ) (bs : List ℕ) → fold (λ h b. bit_xor h b * 0x100000001b3 % 2 ^ 64) h bs ≡ fnv_from h bs
unfolding fnv_from
hashed h [] = refl
hashed h (b ∷ bs) = hashed (bit_xor h b * 0x100000001b3 % 2 ^ 64) bs

pub returns : goal.returns
unfolding fnv
returns c =
    let e : c.fold.result ≡ fold (λ h b. bit_xor h b * 0x100000001b3 % 2 ^ 64) 0xcbf29ce484222325 c.args.token.now = search rules in
    e ∙ hashed 0xcbf29ce484222325 c.args.token.now
