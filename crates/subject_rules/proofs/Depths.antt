-- The token count of an accepted text: it is the number of its tokens, at least 1 and at most 32.
use Prim.Native.Nat.{ℕ, suc, ◌+◌, ◌≤◌}
use native.Mathlib.Omega.{arith}
use mathlib.Core.Path.{◌≡◌, refl, ap, ◌∙◌}
use mathlib.Core.Bool.{Bool, true, false}
use mathlib.Core.List.{List, [], ◌∷◌}
use mathlib.Core.Option.{Option, none, some}
use lib.Dec.{eqb, ltb}
use lib.ListN.{length}
use borrow.Author.Tests.{ltb-false, le-ltb, eqb-false, ne_eqb}
use Rattle.subject_rules.specs.Choice.{pick, or}
use Rattle.subject_rules.specs.Text.{cut_at, tokens, is_star, is_tail}
use Rattle.subject_rules.specs.Utf8.{first_bad}
use Rattle.subject_rules.specs.Answers.{Answer, answer, unless}
use Rattle.subject_rules.specs.Grammar.{bad_char, first_of, bad_chars, bad_token, tail_at, check, not_utf8, too_long, grammar}

-- the number of an answer
abbrev pub number : Answer → ℕ
number (answer n values) = n

-- what there is refuses: its number is 1 to 9
abbrev pub Refuses : Option Answer → Type 0
Refuses none = Unit {0}
Refuses (some a) = (1 ≤ number a) × (number a ≤ 9)

refuses_pick : (b : Bool) (x y : Option Answer) → Refuses x → Refuses y → Refuses (pick b x y)
refuses_pick true x y p q = p
refuses_pick false x y p q = q

refuses_first : (x y : Option Answer) → Refuses x → Refuses y → Refuses (first_of x y)
refuses_first none y p q = q
refuses_first (some a) y p q = p

-- neither of the two is refused
pub first_none : (x y : Option Answer) → first_of x y ≡ none → (x ≡ none) × (y ≡ none)
first_none none y e = (refl, e)
first_none (some a) y e = absurd (cc)

bad_char_lem : (index b : ℕ) → Refuses (bad_char index b)
bad_char_lem index b =
    refuses_pick (or (ltb b 0x20) (eqb b 0x7f)) (some (answer 8 (b ∷ index ∷ []))) _ (omega arith)
    (refuses_pick (or (eqb b 0x2a) (eqb b 0x3e)) (some (answer 9 (b ∷ index ∷ []))) none (omega arith) tt)

bad-chars : (index : ℕ) (bs : List ℕ) → Refuses (bad_chars index bs)
bad-chars index [] = tt
bad-chars index (b ∷ bs) = refuses_first (bad_char index b) (bad_chars index bs) (bad_char_lem index b) (bad-chars index bs)

pub bad_token_lem : (wild : Bool) (index : ℕ) (t : List ℕ) → Refuses (bad_token wild index t)
bad_token_lem wild index [] = omega arith
bad_token_lem wild index (b ∷ bs) =
    refuses_pick (or (is_star (b ∷ bs)) (is_tail (b ∷ bs))) (pick wild none (some (answer 7 (b ∷ index ∷ [])))) (bad_chars index (b ∷ bs))
    (refuses_pick wild none (some (answer 7 (b ∷ index ∷ []))) tt (omega arith))
    (bad-chars index (b ∷ bs))

-- behind a refusal that there is, no text is accepted
pub not_refused : (o : Option Answer) (after : Answer) (vs : List ℕ) → Refuses o → unless o after ≡ answer 0 vs → (o ≡ none) × (after ≡ answer 0 vs)
not_refused none after vs r e = (refl, e)
not_refused (some a) after vs r e = absurd (omega (arith, ap number e, r.0))

-- the index of the 33rd token is refused
pub under : (index : ℕ) (after : Answer) (vs : List ℕ) → index ≤ 32 → pick (eqb index 32) (answer 5 (33 ∷ [])) after ≡ answer 0 vs → (index + 1 ≤ 32) × (after ≡ answer 0 vs)
under index after vs h e = go (eqb index 32) refl e
  where
    go : (b : Bool) → eqb index 32 ≡ b → pick b (answer 5 (33 ∷ [])) after ≡ answer 0 vs → (index + 1 ≤ 32) × (after ≡ answer 0 vs)
    go true q e = absurd (cc)
    go false q e = (omega (arith, eqb-false index 32 q), e)

check-count : (wild : Bool) (passed : Option ℕ) (index : ℕ) (ts : List (List ℕ)) (vs : List ℕ) → index ≤ 32 → check wild passed index ts ≡ answer 0 vs
    → (vs ≡ (index + length ts) ∷ []) × (index + length ts ≤ 32)
check-count wild none index [] vs h e = let z : index + 0 ≡ index = omega arith in (rw z (cc), omega arith)
check-count wild (some at) index [] vs h e = let z : index + 0 ≡ index = omega arith in (rw z (cc), omega arith)
check-count wild (some at) index (t ∷ ts) vs h e = absurd (cc)
check-count wild none index (t ∷ ts) vs h e =
    let u = under index _ vs h e in
    let c = check-count wild (tail_at (is_tail t) index) (index + 1) ts vs u.0 (not_refused (bad_token wild index t) _ vs (bad_token_lem wild index t) u.1).1 in
    let s : index + suc (length ts) ≡ index + 1 + length ts = omega arith in
    (rw s c.0, omega (arith, c.1))

-- a text has a token
pub tokens_some : (bs : List ℕ) → 1 ≤ length (tokens bs)
tokens_some [] = omega arith
tokens_some (b ∷ bs) = go (eqb b 0x2e) (tokens bs)
  where
    go : (c : Bool) (ts : List (List ℕ)) → 1 ≤ length (cut_at c b ts)
    go true ts = omega arith
    go false [] = omega arith
    go false (t ∷ ts) = omega arith

-- what an accepted text has passed: it has at most 4,096 bytes, is UTF-8, has a byte, and 4 to 9 refuse no token
pub record Passed (wild : Bool) (bs vs : List ℕ) : Type 0 where
  pub short : length bs ≤ 4096
  pub utf8 : first_bad bs ≡ none
  pub filled : 1 ≤ length bs
  pub checks : check wild none 0 (tokens bs) ≡ answer 0 vs

pub passed : (wild : Bool) (bs vs : List ℕ) → grammar wild bs ≡ answer 0 vs → Passed wild bs vs
unfolding grammar
passed wild bs vs e = go (too_long bs) refl (first_bad bs) refl (eqb (length bs) 0) refl e
  where
    go : (b : Bool) → too_long bs ≡ b → (o : Option ℕ) → first_bad bs ≡ o → (c : Bool) → eqb (length bs) 0 ≡ c
        → pick b (answer 1 []) (unless (not_utf8 o) (pick c (answer 3 []) (check wild none 0 (tokens bs)))) ≡ answer 0 vs → Passed wild bs vs
    go true p o q c r e = absurd (cc)
    go false p (some i) q c r e = absurd (cc)
    go false p none q true r e = absurd (cc)
    go false p none q false r e = record { short = ltb-false 4096 (length bs) p; utf8 = q; filled = omega (arith, eqb-false (length bs) 0 r); checks = e }

-- and a text that has passed all that is accepted
pub passes : (wild : Bool) (bs vs : List ℕ) → Passed wild bs vs → grammar wild bs ≡ answer 0 vs
unfolding grammar
passes wild bs vs p =
    rw (le-ltb 4096 (length bs) p.short, p.utf8, ne_eqb (length bs) 0 (λ z. omega (arith, p.filled))) p.checks

-- an accepted text has one value: the number of its tokens
pub accepted-values : (wild : Bool) (bs vs : List ℕ) → grammar wild bs ≡ answer 0 vs → vs ≡ length (tokens bs) ∷ []
accepted-values wild bs vs e =
    let z : 0 + length (tokens bs) ≡ length (tokens bs) = omega arith in
    (check-count wild none 0 (tokens bs) vs (omega arith) (passed wild bs vs e).checks).0 ∙ ap (λ (n : ℕ). n ∷ []) z

module _ (wild : Bool) (bs : List ℕ) (n : ℕ) (e : grammar wild bs ≡ answer 0 (n ∷ [])) where
  -- success gives the token count
  pub accepted-count : n ≡ length (tokens bs)
  accepted-count = let v = accepted-values wild bs (n ∷ []) e in cc

  pub accepted_depth : length (tokens bs) ≤ 32
  accepted_depth = omega (arith, (check-count wild none 0 (tokens bs) (n ∷ []) (omega arith) (passed wild bs (n ∷ []) e).checks).1)

  -- which is 1 to 32
  pub accepted_some : 1 ≤ n
  accepted_some = omega (arith, accepted-count, tokens_some bs)

  pub accepted-most : n ≤ 32
  accepted-most = omega (arith, accepted-count, accepted_depth)
