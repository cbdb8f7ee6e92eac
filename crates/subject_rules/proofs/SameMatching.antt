-- Matching is the original's: its refusals, the pattern's before the subject's, then what its `matches` says; and its `has_tail_wildcard`.
use Prim.Native.Nat.{ℕ, suc, ◌≤◌}
use mathlib.Core.Path.{◌≡◌, refl, sym, ◌∙◌}
use mathlib.Core.Bool.{Bool, true, false}
use mathlib.Core.List.{List, [], ◌∷◌}
use mathlib.Core.Option.{none}
use lib.Dec.{eqb}
use lib.ListN.{length}
use Rattle.subject_rules.specs.Choice.{pick, and, or}
use Rattle.subject_rules.specs.Text.{tokens, is_star, is_tail, ends_in_tail, same}
use Rattle.subject_rules.specs.Utf8.{first_bad}
use Rattle.subject_rules.specs.Answers.{Answer, answer, said, when_accepted}
use Rattle.subject_rules.specs.Grammar.{grammar}
use Rattle.subject_rules.specs.Matching.{match_tokens, matching}
use Rattle.subject_rules.specs.Original.{when◌then◌else◌, equal, WILDCARD_ONE, WILDCARD_TAIL, SEP, split, Error, Empty, EmptyToken, IllegalChar, ControlChar, WildcardNotAllowed, TailWildcardNotLast, TooDeep, Ok, Err, validate, match_loop, matches, last, is-tail, has_tail_wildcard, answer_of}
use Rattle.subject_rules.proofs.Booleans.{and_false, and_true}
use Rattle.subject_rules.proofs.SameGrammar.{split-tokens, grammar_original}

-- tests in the two spellings
if_and : (w : Bool) (a b : Bool) → a ≡ b → (when w then a else false) ≡ and w b
if_and true a b e = e
if_and false a b e = refl

pub equal-same : (xs ys : List ℕ) → equal xs ys ≡ same xs ys
equal-same [] [] = refl
equal-same [] (y ∷ ys) = refl
equal-same (x ∷ xs) [] = refl
equal-same (x ∷ xs) (y ∷ ys) = if_and (eqb x y) (equal xs ys) (same xs ys) (equal-same xs ys)

pub equal-star : (t : List ℕ) → equal t (WILDCARD_ONE ∷ []) ≡ is_star t
equal-star [] = refl
equal-star (b ∷ []) = if_and (eqb b 0x2a) true true refl ∙ and_true (eqb b 0x2a)
equal-star (b ∷ c ∷ bs) = if_and (eqb b 0x2a) false false refl ∙ and_false (eqb b 0x2a)

pub equal-tail : (t : List ℕ) → equal t (WILDCARD_TAIL ∷ []) ≡ is_tail t
equal-tail [] = refl
equal-tail (b ∷ []) = if_and (eqb b 0x3e) true true refl ∙ and_true (eqb b 0x3e)
equal-tail (b ∷ c ∷ bs) = if_and (eqb b 0x3e) false false refl ∙ and_false (eqb b 0x3e)

-- tokens against tokens
loop_tokens : (ps ss : List (List ℕ)) → match_loop ps ss ≡ match_tokens ps ss
loop_tokens [] [] = refl
loop_tokens [] (s ∷ ss) = refl
loop_tokens (p ∷ ps) [] = go (equal p (WILDCARD_TAIL ∷ []))
  where
    go : (t : Bool) → (when t then false else false) ≡ false
    go true = refl
    go false = refl
loop_tokens (p ∷ ps) (s ∷ ss) =
    rw (equal-tail p, equal-star p, equal-same p s, loop_tokens ps ss) (go (is_tail p) (is_star p) (same p s) (match_tokens ps ss))
  where
    go : (t w e again : Bool) → (when t then true else when w then again else when e then again else false) ≡ pick t true (and (or w e) again)
    go true w e again = refl
    go false true e again = refl
    go false false true again = refl
    go false false false again = refl

matches-tokens : (p s : List ℕ) → matches p s ≡ match_tokens (tokens p) (tokens s)
matches-tokens p s = rw (← split-tokens p, ← split-tokens s) (loop_tokens (split SEP p) (split SEP s))

-- a refusal is no success
pub error-number : (e : Error) → (k : ℕ) × (vs : List ℕ) × (answer_of (Err e) ≡ answer (suc k) vs)
error-number Empty = (2, [], refl)
error-number (EmptyToken index) = (5, index ∷ [], refl)
error-number (IllegalChar ch index) = (8, ch ∷ index ∷ [], refl)
error-number (ControlChar ch index) = (7, ch ∷ index ∷ [], refl)
error-number (WildcardNotAllowed ch index) = (6, ch ∷ index ∷ [], refl)
error-number (TailWildcardNotLast index) = (3, index ∷ [], refl)
error-number (TooDeep depth) = (4, depth ∷ [], refl)

-- so it stands, whatever would come after it
pub refusal_stands : (e : Error) (after : Answer) → when_accepted (answer_of (Err e)) after ≡ answer_of (Err e)
refusal_stands e after = rw (error-number e).2

-- a pattern and a subject that are UTF-8 of at most 4,096 bytes
module _ (p : List ℕ) (p_fits : length p ≤ 4096) (p_utf8 : first_bad p ≡ none) where
  -- where the original refuses the pattern, that refusal, whatever the subject
  pub pattern-refused : (s : List ℕ) (e : Error) → validate p true ≡ Err e → matching p s ≡ answer_of (Err e)
  unfolding matching
  pattern-refused s e r = rw (grammar_original true p p_fits p_utf8, r) (refusal_stands e (when_accepted (grammar false s) (said (match_tokens (tokens p) (tokens s)))))

  module _ (s : List ℕ) (s_fits : length s ≤ 4096) (s_utf8 : first_bad s ≡ none) (n : ℕ) (accepted : validate p true ≡ Ok n) where
    -- where it accepts the pattern and refuses the subject, that refusal
    pub subject-refused : (e : Error) → validate s false ≡ Err e → matching p s ≡ answer_of (Err e)
    unfolding matching
    subject-refused e r =
        rw (grammar_original true p p_fits p_utf8, accepted, grammar_original false s s_fits s_utf8, r) (refusal_stands e (said (match_tokens (tokens p) (tokens s))))

    -- where it accepts both, yes or no as its `matches` says
    pub matching_original : (m : ℕ) → validate s false ≡ Ok m → matching p s ≡ said (matches p s)
    unfolding matching
    matching_original m r =
        rw (grammar_original true p p_fits p_utf8, accepted, grammar_original false s s_fits s_utf8, r, matches-tokens p s)

ends_last : (ts : List (List ℕ)) → ends_in_tail ts ≡ is-tail (last ts)
ends_last [] = refl
ends_last (t ∷ []) = sym (equal-tail t)
ends_last (t ∷ u ∷ ts) = ends_last (u ∷ ts)

-- whether the last token is `>`
pub tail_original : (bs : List ℕ) → ends_in_tail (tokens bs) ≡ has_tail_wildcard bs
tail_original bs = rw (← split-tokens bs) (ends_last (split SEP bs))
