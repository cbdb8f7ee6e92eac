-- The tokens of a text: there is a first, and whether the last is `>`.
use Prim.Native.Nat.{ℕ, zero, suc, ◌+◌, ◌-◌, ◌≤◌}
use mathlib.Core.Path.{◌≡◌, refl, sym, ap, ◌∙◌}
use mathlib.Core.Bool.{Bool, true, false}
use mathlib.Core.List.{List, [], ◌∷◌}
use native.Mathlib.Omega.{arith}
use borrow.Author.Tests.{ne_eqb, eqb-true, eqb-false}
use lib.Dec.{eqb}
use lib.ListN.{length, get_or}
use Rattle.subject_rules.specs.Choice.{and}
use Rattle.subject_rules.specs.Text.{cut_at, tokens, ends_in_tail}

-- there is a first token
pub tokens_cons : (P : List (List ℕ) → Type 0) → ((t : List ℕ) (ts : List (List ℕ)) → P (t ∷ ts)) → (bs : List ℕ) → P (tokens bs)
tokens_cons P k [] = k [] []
tokens_cons P k (b ∷ bs) = go (eqb b 0x2e) (tokens bs) where
  go : (dot : Bool) (ts : List (List ℕ)) → P (cut_at dot b ts)
  go true ts = k [] ts
  go false [] = k (b ∷ []) []
  go false (t ∷ ts) = k (b ∷ t) ts

-- there are no more tokens than bytes, and one
pub tokens_most : (bs : List ℕ) → length (tokens bs) ≤ length bs + 1
tokens_most [] = omega arith
tokens_most (b ∷ bs) = go (eqb b 0x2e) (tokens bs) (tokens_most bs)
  where
    go : (dot : Bool) (ts : List (List ℕ)) → length ts ≤ length bs + 1 → length (cut_at dot b ts) ≤ suc (length bs) + 1
    go true ts h = omega arith
    go false [] h = omega arith
    go false (t ∷ ts) h = omega arith

-- of three bytes or more, the first does not tell whether the last token is `>`
ends_cut : (x y z : Bool) (b c d : ℕ) (t : List ℕ) (ts : List (List ℕ))
    → ends_in_tail (cut_at x b (cut_at y c (cut_at z d (t ∷ ts)))) ≡ ends_in_tail (cut_at y c (cut_at z d (t ∷ ts)))
ends_cut true true z b c d t ts = refl
ends_cut true false true b c d t ts = refl
ends_cut true false false b c d t ts = refl
ends_cut false true true b c d t ts = refl
ends_cut false true false b c d t ts = refl
ends_cut false false true b c d t ts = refl
ends_cut false false false b c d t [] = refl
ends_cut false false false b c d t (u ∷ ts) = refl

-- the last byte is `>`, and what stands before it is a dot
ends_more : (bs : List ℕ) (k : ℕ) → length bs ≡ suc (suc k)
    → ends_in_tail (tokens bs) ≡ and (eqb (get_or bs k 0) 0x2e) (eqb (get_or bs (suc k) 0) 0x3e)
ends_more [] k e = absurd (omega arith)
ends_more (b ∷ []) k e = absurd (omega arith)
ends_more (b ∷ (c ∷ [])) zero e = go (eqb b 0x2e) (eqb c 0x2e) refl where
  go : (x y : Bool) → eqb c 0x2e ≡ y → ends_in_tail (cut_at x b (cut_at y c ([] ∷ []))) ≡ and x (eqb c 0x3e)
  go true true p = sym (ne_eqb c 0x3e (λ q. eqb-false 0x2e 0x3e refl (sym (eqb-true c 0x2e p) ∙ q)))
  go true false p = refl
  go false true p = refl
  go false false p = refl
ends_more (b ∷ (c ∷ [])) (suc k) e = absurd (omega arith)
ends_more (b ∷ (c ∷ (d ∷ bs))) zero e = absurd (omega arith)
ends_more (b ∷ (c ∷ (d ∷ bs))) (suc k) e =
    tokens_cons
    (λ ts. ends_in_tail (cut_at (eqb b 0x2e) b (cut_at (eqb c 0x2e) c (cut_at (eqb d 0x2e) d ts))) ≡ ends_in_tail (cut_at (eqb c 0x2e) c (cut_at (eqb d 0x2e) d ts)))
    (ends_cut (eqb b 0x2e) (eqb c 0x2e) (eqb d 0x2e) b c d)
    bs
    ∙ ends_more (c ∷ (d ∷ bs)) k (omega arith)

pub ends_last : (bs : List ℕ) → 2 ≤ length bs
    → ends_in_tail (tokens bs) ≡ and (eqb (get_or bs (length bs - 2) 0) 0x2e) (eqb (get_or bs (length bs - 1) 0) 0x3e)
ends_last bs h =
    ends_more bs (length bs - 2) (omega arith)
    ∙ ap (λ (k : ℕ). and (eqb (get_or bs (length bs - 2) 0) 0x2e) (eqb (get_or bs k 0) 0x3e)) (omega arith)
