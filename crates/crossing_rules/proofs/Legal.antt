-- Tokens that a subject or a pattern may have, and the grammar of what is put together of them.
use Prim.Native.Nat.{ℕ, suc, ◌+◌, ◌≤◌}
use native.Mathlib.Omega.{arith}
use mathlib.Core.Path.{◌≡◌, refl}
use mathlib.Core.Bool.{Bool, true, false}
use mathlib.Core.List.{List, [], ◌∷◌}
use mathlib.Core.Option.{Option, none, some}
use lib.Dec.{eqb, ltb}
use lib.ListN.{length, length-append}
use borrow.Author.Tests.{ne_eqb}
use Rattle.subject_rules.specs.Choice.{pick, or}
use Rattle.subject_rules.specs.Text.{tokens, joined, is_star, is_tail}
use Rattle.subject_rules.specs.Answers.{Answer, answer}
use Rattle.subject_rules.specs.Grammar.{bad_char, first_of, bad_chars, bad_token, tail_at, check, grammar}
use Rattle.subject_rules.proofs.Booleans.{or_right}
use Rattle.subject_rules.proofs.Depths.{not_refused, bad_token_lem, under, passed, passes}
use Rattle.subject_rules.proofs.Pieces.{NoDot}
use Rattle.sublist_tree.specs.Lists.{All}
use Rattle.sublist_tree.proofs.Bytes.{All-map}
use Rattle.crossing_rules.specs.Crossing.{is_wild}
use Rattle.crossing_rules.proofs.Texts.{Utf8, tokens-joined, no_dots, utf8_tokens, utf8_joined}

-- ---- refusals do not depend on the index that they name

char_anywhere : (i j b : ℕ) → bad_char i b ≡ none → bad_char j b ≡ none
char_anywhere i j b e = go (or (ltb b 0x20) (eqb b 0x7f)) (or (eqb b 0x2a) (eqb b 0x3e)) e
  where
    go : (c s : Bool) → pick c (some (answer 8 (b ∷ i ∷ []))) (pick s (some (answer 9 (b ∷ i ∷ []))) none) ≡ none
        → pick c (some (answer 8 (b ∷ j ∷ []))) (pick s (some (answer 9 (b ∷ j ∷ []))) none) ≡ none
    go true s e = absurd (cc)
    go false true e = absurd (cc)
    go false false e = refl

chars_anywhere : (i j : ℕ) (bs : List ℕ) → bad_chars i bs ≡ none → bad_chars j bs ≡ none
chars_anywhere i j [] e = refl
chars_anywhere i j (b ∷ bs) e = go (bad_char i b) refl e (chars_anywhere i j bs)
  where
    go : (o : Option Answer) → bad_char i b ≡ o → first_of o (bad_chars i bs) ≡ none → (bad_chars i bs ≡ none → bad_chars j bs ≡ none)
        → bad_chars j (b ∷ bs) ≡ none
    go none q e h = rw (char_anywhere i j b q) (h e)
    go (some a) q e h = absurd (cc)

-- 6 to 9 refuse a token nowhere
abbrev pub Unbarred : Bool → List ℕ → Type 0
Unbarred wild t = (index : ℕ) → bad_token wild index t ≡ none

token_anywhere : (wild : Bool) (i : ℕ) (t : List ℕ) → bad_token wild i t ≡ none → Unbarred wild t
token_anywhere wild i [] e j = absurd (cc)
token_anywhere wild i (b ∷ bs) e j = go (is_wild (b ∷ bs)) wild e
  where
    go : (w v : Bool) → pick w (pick v none (some (answer 7 (b ∷ i ∷ [])))) (bad_chars i (b ∷ bs)) ≡ none
        → pick w (pick v none (some (answer 7 (b ∷ j ∷ [])))) (bad_chars j (b ∷ bs)) ≡ none
    go true true e = refl
    go true false e = absurd (cc)
    go false v e = chars_anywhere i j (b ∷ bs) e

-- ---- tokens of a text

-- a token that a subject may have anywhere or, where `wild`, a pattern
pub record Legal (wild : Bool) (t : List ℕ) : Type 0 where
  pub utf8 : Utf8 t
  pub undotted : NoDot t
  pub unbarred : Unbarred wild t

abbrev pub Literal : List ℕ → Type 0
Literal = Legal false

-- it has a byte and is no wildcard
pub unbarred_filled : (wild : Bool) (t : List ℕ) → Unbarred wild t → 1 ≤ length t
unbarred_filled wild [] u = let e = u 0 in absurd (cc)
unbarred_filled wild (b ∷ bs) u = omega arith

pub unbarred_plain : (t : List ℕ) → Unbarred false t → is_wild t ≡ false
unbarred_plain [] u = refl
unbarred_plain (b ∷ bs) u = go (is_wild (b ∷ bs)) (u 0)
  where
    go : (w : Bool) → pick w (some (answer 7 (b ∷ 0 ∷ []))) (bad_chars 0 (b ∷ bs)) ≡ none → w ≡ false
    go true e = absurd (cc)
    go false e = refl

-- a pattern's token that is no wildcard is one that a subject may have
unbarred_literal : (t : List ℕ) → Unbarred true t → is_wild t ≡ false → Unbarred false t
unbarred_literal [] u w j = u j
unbarred_literal (b ∷ bs) u w j = rw w (rw w at (u j))

pub not_tail : (t : List ℕ) → is_wild t ≡ false → is_tail t ≡ false
not_tail t = or_right (is_star t) (is_tail t)

-- nothing stands behind a `>`
abbrev pub TailLast : List (List ℕ) → Type 0
TailLast [] = Unit {0}
TailLast (t ∷ ts) = (is_tail t ≡ true → ts ≡ []) × TailLast ts

-- in a subject there is none
pub literals-last : (ts : List (List ℕ)) → All Literal ts → TailLast ts
literals-last [] a = tt
literals-last (t ∷ ts) a =
    ((λ e. let n = not_tail t (unbarred_plain t a.0.unbarred) in absurd (cc)), literals-last ts a.1)

-- ---- what is put together of such tokens is accepted

-- what is behind a token that may be `>`
check_behind : (wild b : Bool) (index : ℕ) (ts : List (List ℕ)) (n : ℕ) → (b ≡ true → ts ≡ []) → n ≡ index + length ts
    → check wild none index ts ≡ answer 0 (n ∷ []) → (at : ℕ) → check wild (tail_at b at) index ts ≡ answer 0 (n ∷ [])
check_behind wild true index ts n last e c at = let z : index + 0 ≡ index = omega arith in rw (e, last refl, z)
check_behind wild false index ts n last e c at = c

check_legal : (wild : Bool) (index : ℕ) (ts : List (List ℕ)) → All (Legal wild) ts → TailLast ts → index + length ts ≤ 32
    → check wild none index ts ≡ answer 0 ((index + length ts) ∷ [])
check_legal wild index [] a l h = let z : index + 0 ≡ index = omega arith in rw z
check_legal wild index (t ∷ ts) a l h =
    let n : index + suc (length ts) ≡ index + 1 + length ts = omega arith in
    rw (ne_eqb index 32 (λ e. omega arith), a.0.unbarred index, n)
    (check_behind wild (is_tail t) (index + 1) ts (index + 1 + length ts) l.0 refl (check_legal wild (index + 1) ts a.1 l.1 (omega arith)) index)

joined-filled : (wild : Bool) (ts : List (List ℕ)) → 1 ≤ length ts → All (Legal wild) ts → 1 ≤ length (joined ts)
joined-filled wild [] h a = absurd (omega arith)
joined-filled wild (t ∷ []) h a = unbarred_filled wild t a.0.unbarred
joined-filled wild (t ∷ (u ∷ ts)) h a = omega (arith, length-append t (0x2e ∷ joined (u ∷ ts)))

module _ (wild : Bool) (ts : List (List ℕ)) (a : All (Legal wild) ts) (some' : 1 ≤ length ts) where
  -- its tokens are these
  pub legal_tokens : tokens (joined ts) ≡ ts
  legal_tokens = tokens-joined ts (All-map (Legal wild) NoDot ts (λ t l. l.undotted) a) some'

  pub legal_accepted : TailLast ts → length ts ≤ 32 → length (joined ts) ≤ 4096 → grammar wild (joined ts) ≡ answer 0 (length ts ∷ [])
  legal_accepted last few short =
      let z : 0 + length ts ≡ length ts = omega arith in
      passes wild (joined ts) (length ts ∷ []) (record {
        short = short;
        utf8 = utf8_joined ts (All-map (Legal wild) Utf8 ts (λ t l. l.utf8) a);
        filled = joined-filled wild ts some' a;
        checks = rw legal_tokens (rw z at (check_legal wild 0 ts a last (omega arith)));
      })

-- ---- what the grammar says of the tokens of an accepted text

none_behind : (wild b : Bool) (index at : ℕ) (ts : List (List ℕ)) (vs : List ℕ) → check wild (tail_at b at) index ts ≡ answer 0 vs → b ≡ true → ts ≡ []
none_behind wild true index at [] vs e h = refl
none_behind wild true index at (t ∷ ts) vs e h = absurd (cc)
none_behind wild false index at ts vs e h = absurd (cc)

pub record Checked (wild : Bool) (ts : List (List ℕ)) : Type 0 where
  pub unbarred : All (Unbarred wild) ts
  pub tail_last : TailLast ts

-- the rest behind a token that may be `>`
checked_behind : (wild b : Bool) (index at : ℕ) (ts : List (List ℕ)) (vs : List ℕ) → check wild (tail_at b at) index ts ≡ answer 0 vs
    → (check wild none index ts ≡ answer 0 vs → Checked wild ts) → Checked wild ts
checked_behind wild true index at [] vs e h = record { unbarred = tt; tail_last = tt }
checked_behind wild true index at (t ∷ ts) vs e h = absurd (cc)
checked_behind wild false index at ts vs e h = h e

checked : (wild : Bool) (index : ℕ) (ts : List (List ℕ)) (vs : List ℕ) → index ≤ 32 → check wild none index ts ≡ answer 0 vs → Checked wild ts
checked wild index [] vs h e = record { unbarred = tt; tail_last = tt }
checked wild index (t ∷ ts) vs h e =
    let u = under index _ vs h e in
    let n = not_refused (bad_token wild index t) _ vs (bad_token_lem wild index t) u.1 in
    let c = checked_behind wild (is_tail t) (index + 1) index ts vs n.1 (checked wild (index + 1) ts vs u.0) in
    record {
      unbarred = (token_anywhere wild index t n.0, c.unbarred);
      tail_last = (none_behind wild (is_tail t) (index + 1) index ts vs n.1, c.tail_last);
    }

-- the tokens of an accepted pattern: those that are no wildcards may stand in a subject, and nothing stands behind a `>`
pub record Pattern (ps : List (List ℕ)) : Type 0 where
  pub literals : All (λ t. is_wild t ≡ false → Literal t) ps
  pub tail_last : TailLast ps

zip_all : {P Q R S : List ℕ → Type 0} → ((t : List ℕ) → P t → Q t → R t → S t) → (ts : List (List ℕ)) → All P ts → All Q ts → All R ts → All S ts
zip_all f [] a b c = tt
zip_all f (t ∷ ts) a b c = (f t a.0 b.0 c.0, zip_all f ts a.1 b.1 c.1)

pub accepted-pattern : (bs vs : List ℕ) → grammar true bs ≡ answer 0 vs → Pattern (tokens bs)
accepted-pattern bs vs e =
    let p = passed true bs vs e in
    let c = checked true 0 (tokens bs) vs (omega arith) p.checks in
    record {
      literals =
          zip_all (λ t u d b. λ w. record { utf8 = u; undotted = d; unbarred = unbarred_literal t b w })
          (tokens bs) (utf8_tokens bs p.utf8) (no_dots bs) c.unbarred;
      tail_last = c.tail_last;
    }

-- each token of an accepted text has a byte
pub accepted-filled : (wild : Bool) (bs vs : List ℕ) → grammar wild bs ≡ answer 0 vs → All (λ t. 1 ≤ length t) (tokens bs)
accepted-filled wild bs vs e =
    All-map (Unbarred wild) (λ t. 1 ≤ length t) (tokens bs) (unbarred_filled wild) (checked wild 0 (tokens bs) vs (omega arith) (passed wild bs vs e).checks).unbarred
