-- The calls give what is asked, and nothing else would do; the state never becomes 0.
use Prim.Native.Nat.{ℕ, zero, suc, ◌+◌, ◌-◌, ◌%◌, ◌≤◌, ◌<◌}
use native.Mathlib.Omega.{arith}
use native.Mathlib.Decide.{dec_lt}
use mathlib.Core.Path.{◌≡◌, refl, sym, ap, ◌∙◌}
use mathlib.Core.Bool.{Bool, true, false}
use mathlib.Core.List.{List, [], ◌∷◌}
use lib.Dec.{eqb, ltb}
use lib.ListN.{length, get_or}
use lib.Seq.{ext_get_or}
use borrow.Author.Tests.{eq-eqb, ne_eqb, eqb-true, eqb-false, ltb-true, ltb-false}
use Rattle.subject_rules.specs.Text.{tokens, joined}
use Rattle.subject_rules.specs.Answers.{answer}
use Rattle.subject_rules.specs.Grammar.{grammar}
use Rattle.subject_rules.specs.Outputs.{over}
use Rattle.crossing_rules.proofs.Texts.{joined-tokens}
use Rattle.load_maker_rules.specs.Xorshift.{draw, draws}
use Rattle.load_maker_rules.specs.Load.{count, token_byte, made_text, Making, made, make}
use Rattle.load_maker_rules.specs.Asked.{IsByte, Pattern, Subject, MadeFrom, Asked, zero_start, out_short, makes}
use Rattle.load_maker_rules.specs.Asked.{Live, Call, call, state_of, state_after}
use Rattle.load_maker_rules.proofs.Drawing.{draw-fits, draw_zero}
use Rattle.load_maker_rules.proofs.Making.{token_at, made-tokens, made-count, made-accepted}
use Rattle.load_maker_rules.proofs.Says.{zero_says, short-says, makes-says}

-- ---- the text that is made

-- its token i is that of draw i + 2
made_token : (wild : Bool) (s i : ℕ) → i < length (tokens (made_text wild s))
    → IsByte (made_text wild s) i (token_byte wild (eqb (count s - suc i) 0) (draws (i + 2) s))
made_token wild s i h =
    let n = made-count wild s in
    let z : i + 2 ≡ suc (suc i) = omega arith in
    rw (made-tokens wild s, z) (token_at wild (count s) (draw s) i (omega (arith, n)))

pattern-made : (s : ℕ) → Pattern s (made_text true s)
pattern-made s =
    let n = made-count true s in
    record {
      count = n;
      star = λ i h e. made_token true s i h ∙ rw e;
      last = λ i h e. let z : count s - suc i ≡ 0 = omega (arith, n) in made_token true s i (omega arith) ∙ rw (e, eq-eqb (count s - suc i) 0 z);
      elsewhere = λ i h e. made_token true s i (omega arith) ∙ rw (e, ne_eqb (count s - suc i) 0 (λ z. omega (arith, n)));
      letters = λ i k h l e. let z : 2 + k ≡ suc (suc k) = omega arith in made_token true s i h ∙ rw (e, z);
    }

subject-made : (s : ℕ) → Subject s (made_text false s)
subject-made s = record { count = made-count false s; letters = made_token false s }

made_from : (wild : Bool) (s : ℕ) → MadeFrom wild s (made_text wild s)
made_from true s = pattern-made s
made_from false s = subject-made s

-- ---- no other text is made from the same start

-- texts with the same tokens are the same
same-tokens : (t u : List ℕ) → tokens t ≡ tokens u → t ≡ u
same-tokens t u e = sym (joined-tokens t) ∙ ap joined e ∙ joined-tokens u

module _ (s : ℕ) (t u : List ℕ) where
  pattern-one : Pattern s t → Pattern s u → t ≡ u
  pattern-one p q = same-tokens t u (ext_get_or [] (tokens t) (tokens u) lengths (λ i h. at i h (draws (i + 2) s % 10) refl))
    where
      lengths : length (tokens t) ≡ length (tokens u)
      lengths = p.count ∙ sym q.count

      in_u : (i : ℕ) → i < length (tokens t) → i < length (tokens u)
      in_u i h = omega (arith, lengths)

      one : (i : ℕ) → i < length (tokens t) → draws (i + 2) s % 10 ≡ 1 → Dec (i + 1 < length (tokens t)) → get_or (tokens t) i [] ≡ get_or (tokens u) i []
      one i h e (yes l) = p.elsewhere i l e ∙ sym (q.elsewhere i (omega (arith, lengths)) e)
      one i h e (no l) = p.last i (omega arith) e ∙ sym (q.last i (omega (arith, lengths)) e)

      at : (i : ℕ) → i < length (tokens t) → (k : ℕ) → draws (i + 2) s % 10 ≡ k → get_or (tokens t) i [] ≡ get_or (tokens u) i []
      at i h zero e = p.star i h e ∙ sym (q.star i (in_u i h) e)
      at i h (suc zero) e = one i h e (dec_lt (i + 1) (length (tokens t)))
      at i h (suc (suc n)) e =
          let z : draws (i + 2) s % 10 ≡ 2 + n = omega (arith, e) in
          let few : n ≤ 7 = omega (arith, e) in
          p.letters i n h few z ∙ sym (q.letters i n (in_u i h) few z)

  subject-one : Subject s t → Subject s u → t ≡ u
  subject-one p q =
      let lengths : length (tokens t) ≡ length (tokens u) = p.count ∙ sym q.count in
      same-tokens t u (ext_get_or [] (tokens t) (tokens u) lengths (λ i h. p.letters i h ∙ sym (q.letters i (omega (arith, lengths)))))

-- the rule fixes the text to the byte
pub made-only : (wild : Bool) (s : ℕ) (t : List ℕ) → MadeFrom wild s t → t ≡ made_text wild s
made-only true s t p = pattern-one s t (made_text true s) p (pattern-made s)
made-only false s t p = subject-one s t (made_text false s) p (subject-made s)

-- so the grammar accepts whatever is made
pub made_from_accepted : (wild : Bool) (s : ℕ) (t : List ℕ) → MadeFrom wild s t → grammar wild t ≡ answer 0 (length (tokens t) ∷ [])
made_from_accepted wild s t p =
    let a : grammar wild (made_text wild s) ≡ answer 0 (length (tokens (made_text wild s)) ∷ []) = rw (made-count wild s) (made-accepted wild s) in
    rw (made-only wild s t p) a

-- ---- the calls

module _ (wild : Bool) (s : ℕ) (out : List ℕ) where
  -- what a call gives is asked
  pub make-asked : Asked wild s out (make wild s out)
  make-asked = go (eqb s 0) refl (ltb (length out) (length (made_text wild s))) refl
    where
      go : (z : Bool) → eqb s 0 ≡ z → (l : Bool) → ltb (length out) (length (made_text wild s)) ≡ l → Asked wild s out (make wild s out)
      go true p l q = zero_start (eqb-true s 0 p) (zero_says wild s out (eqb-true s 0 p))
      go false p true q =
          out_short (made_text wild s) (eqb-false s 0 p) (made_from wild s) (ltb-true (length out) (length (made_text wild s)) q)
          (short-says wild s out (eqb-false s 0 p) (ltb-true (length out) (length (made_text wild s)) q))
      go false p false q =
          makes (made_text wild s) (eqb-false s 0 p) (made_from wild s) (ltb-false (length out) (length (made_text wild s)) q)
          (makes-says wild s out (eqb-false s 0 p) (ltb-false (length out) (length (made_text wild s)) q))

  -- and nothing else would do: the request fixes answer, state and output
  pub make-only : (m : Making) → Asked wild s out m → m ≡ make wild s out
  make-only m (zero_start z e) = e ∙ sym (zero_says wild s out z)
  make-only m (out_short t n p l e) =
      let same = made-only wild s t p in
      let q : m ≡ made (answer 21 (length (made_text wild s) ∷ [])) s out = rw same at e in
      q ∙ sym (short-says wild s out n (rw same at l))
  make-only m (makes t n p l e) =
      let same = made-only wild s t p in
      let q : m ≡ made (answer 0 (length (made_text wild s) ∷ [])) (draws (1 + length (tokens (made_text wild s))) s) (over (made_text wild s) out) = rw same at e in
      q ∙ sym (makes-says wild s out n (rw same at l))

-- ---- "the state never becomes 0"

draw_live : (s : ℕ) → Live s → Live (draw s)
draw_live s v = record { fits = draw-fits s v.fits; nonzero = λ e. v.nonzero (draw_zero s v.fits e) }

pub draws_live : (n s : ℕ) → Live s → Live (draws n s)
draws_live zero s v = v
draws_live (suc n) s v = draws_live n (draw s) (draw_live s v)

make_live : (wild : Bool) (s : ℕ) (out : List ℕ) → Live s → Live (state_of (make wild s out))
make_live wild s out v = go (make wild s out) (make-asked wild s out)
  where
    go : (m : Making) → Asked wild s out m → Live (state_of m)
    go m (zero_start z e) = rw e v
    go m (out_short t n p l e) = rw e v
    go m (makes t n p l e) = rw e (draws_live (1 + length (tokens t)) s v)

-- over any calls, refused ones included
pub never_zero : (calls : List Call) (start : ℕ) → Live start → Live (state_after start calls)
never_zero [] s v = v
never_zero (call wild out ∷ calls) s v = never_zero calls (state_of (make wild s out)) (make_live wild s out v)
