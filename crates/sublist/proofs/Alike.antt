-- Two texts read side by side, token by token, as long as their keys are equal. Assumes nothing.
use Rattle.std.proofs.Common.{◌≡◌, ℕ, suc, ◌+◌, Bool, true, false, not, cond, eqb, List, [], ◌∷◌, length, take, refl, sym, ap, ◌∙◌, arith}
use Rattle.std.specs.List.{prefix_len, zip}
use Rattle.std.proofs.lemmas.List.Folds.{length-prefix_len}
use Rattle.subject_rules.specs.Choice.{pick, and, or}
use Rattle.subject_rules.specs.Text.{is_tail, same, tokens}
use Rattle.subject_rules.specs.Fnv.{fnv}
use Rattle.sublist_tree.specs.Tree.{Key, Line, line, onto, line_of, key_is, keys_of}
use Rattle.sublist_tree.proofs.Bytes.{same-sound}
use Rattle.sublist_area_rules.specs.Words.{token_key}
use Rattle.sublist.specs.Sharing.{shared, keys_in, same_key, shared_by}

-- tokens of equal bytes have equal hashes
pub same_hash : (s t : List ℕ) → same s t ≡ true → fnv s ≡ fnv t
same_hash s t e = ap fnv (same-sound s t e)

shared_none : (ks : List (Key ℕ)) → shared eqb ks [] ≡ 0
shared_none [] = refl
shared_none (k ∷ ks) = refl

-- one token of each
shared-next : (t u : List ℕ) (ts us : List (List ℕ)) → shared eqb (keys_in (t ∷ ts)) (keys_in (u ∷ us)) ≡ pick (same_key t u) (suc (shared eqb (keys_in ts) (keys_in us))) 0
unfolding same_key
shared-next t u ts us = go (is_tail t) (is_tail u) (line_of fnv ts 0) (line_of fnv us 0)
  where
    go : (b c : Bool) (l m : Line ℕ) → shared eqb (keys_of (pick b (line [] true 0) (onto (token_key t) l))) (keys_of (pick c (line [] true 0) (onto (token_key u) m)))
        ≡ pick (and (not (or b c)) (key_is eqb (token_key u) (token_key t))) (suc (shared eqb (keys_of l) (keys_of m))) 0
    go true c l m = refl
    go false true (line ks x y) m = refl
    go false false (line ks x y) (line js v w) = refl

-- the pairs of tokens up to the first whose keys are not equal
pairs_alike : (ts us : List (List ℕ)) → prefix_len (λ p. same_key p.0 p.1) (zip ts us) ≡ shared eqb (keys_in ts) (keys_in us)
pairs_alike [] us = refl
pairs_alike (t ∷ ts) [] = sym (shared_none (keys_in (t ∷ ts)))
pairs_alike (t ∷ ts) (u ∷ us) = go (same_key t u) (pairs_alike ts us) ∙ sym (shared-next t u ts us)
  where
    go : (b : Bool) {m n : ℕ} → m ≡ n → cond b (1 + m) 0 ≡ pick b (suc n) 0
    go true e = omega (arith, e)
    go false e = refl

-- their number, where the tokens are those of two texts
pub run_alike : (a b : List ℕ)
    → length (take (prefix_len (λ p. same_key p.0 p.1) (zip (tokens a) (tokens b))) (zip (tokens a) (tokens b))) ≡ shared_by a b
unfolding shared_by
run_alike a b = length-prefix_len (λ p. same_key p.0 p.1) (zip (tokens a) (tokens b)) ∙ pairs_alike (tokens a) (tokens b)
