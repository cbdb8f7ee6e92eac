-- Two texts of one length are the same where their words of eight bytes are, and the bytes behind these.
use Rattle.std.proofs.Common.{◌≡◌, ◌&&◌, ℕ, zero, suc, ◌+◌, ◌<◌, ◌≤◌, Bool, true, false, nat_eq, List, [], ◌∷◌, length, get_or, take, drop, w64, refl, sym, ap, ◌∙◌, true≢false, subst, arith, eqb-true, length-drop, length-take, drop-drop, get_or-drop, get_or-take}
use Rattle.std.proofs.lemmas.List.{get_or_past}
use Rattle.std.specs.Int.{from_le_bytes}
use Rattle.std.proofs.lemmas.Nat.{le_bytes_8}
use borrow.Author.Tests.{eq-eqb}
use native.Mathlib.Decide.{dec_lt}
use Rattle.subject_rules.specs.Choice.{and}
use Rattle.subject_rules.specs.Text.{same}
use Rattle.subject_rules.proofs.Booleans.{and_both}

abbrev pub word_same : List ℕ × List ℕ → Bool
word_same p = nat_eq (from_le_bytes w64 p.0) (from_le_bytes w64 p.1)

abbrev Bytes : List ℕ → Type 0
Bytes bs = (i : ℕ) → get_or bs i 0 < 256

one_more : (t : Bool) (p q : Bool) → p ≡ q → (t && p) ≡ and t q
one_more true p q e = e
one_more false p q e = refl

one_less : (t p q r : Bool) → p ≡ and q r → and t p ≡ and (and t q) r
one_less true p q r e = e
one_less false p q r e = refl

same-self : (xs : List ℕ) → same xs xs ≡ true
same-self [] = refl
same-self (x ∷ xs) = rw (eq-eqb x x refl) (same-self xs)

same-equal : (xs ys : List ℕ) → same xs ys ≡ true → xs ≡ ys
same-equal [] [] e = refl
same-equal [] (y ∷ ys) e = absurd (true≢false (sym e))
same-equal (x ∷ xs) [] e = absurd (true≢false (sym e))
same-equal (x ∷ xs) (y ∷ ys) e =
    let r = and_both (nat_eq x y) (same xs ys) e in
    cc (eqb-true x y r.0, same-equal xs ys r.1)

-- the first n bytes, and those behind
same_cut : (n : ℕ) (a b : List ℕ) → length a ≡ length b → same a b ≡ and (same (take n a) (take n b)) (same (drop n a) (drop n b))
same_cut zero a b e = refl
same_cut (suc n) [] [] e = refl
same_cut (suc n) [] (y ∷ ys) e = absurd (omega arith)
same_cut (suc n) (x ∷ xs) [] e = absurd (omega arith)
same_cut (suc n) (x ∷ xs) (y ∷ ys) e = one_less (nat_eq x y) _ _ _ (same_cut n xs ys (omega arith))

-- a word
word_is_same : (a b : List ℕ) → length a ≡ 8 → length b ≡ 8 → Bytes a → Bytes b → word_same (a, b) ≡ same a b
word_is_same a b l m small others = go (word_same (a, b)) refl
  where
    equal : from_le_bytes w64 a ≡ from_le_bytes w64 b → a ≡ b
    equal n = sym (le_bytes_8 a (from_le_bytes w64 b) l small (sym n)) ∙ le_bytes_8 b (from_le_bytes w64 b) m others refl

    differ : (t : Bool) → same a b ≡ t → word_same (a, b) ≡ false → false ≡ t
    differ true s q =
        absurd (true≢false (sym (eq-eqb (from_le_bytes w64 a) (from_le_bytes w64 b) (ap (from_le_bytes w64) (same-equal a b s))) ∙ q))
    differ false s q = refl

    go : (t : Bool) → word_same (a, b) ≡ t → t ≡ same a b
    go true q = sym (subst (λ c. same a c ≡ true) (equal (eqb-true _ _ q)) (same-self a))
    go false q = differ (same a b) refl q

bytes-drop : (n : ℕ) (xs : List ℕ) → Bytes xs → Bytes (drop n xs)
bytes-drop n xs small i = rw (get_or-drop n xs i 0) (small (n + i))

bytes-take : (n : ℕ) (xs : List ℕ) → Bytes xs → Bytes (take n xs)
bytes-take n xs small i = go (dec_lt i n)
  where
    go : Dec (i < n) → get_or (take n xs) i 0 < 256
    go (yes h) = rw (get_or-take n xs i 0 h) (small i)
    go (no h) = rw (get_or_past (take n xs) i 0 (omega (arith, length-take n xs))) (omega arith)

-- texts of two lengths
pub lengths_differ : (a b : List ℕ) → (length a ≡ length b → ⊥) → false ≡ same a b
lengths_differ a b n = go (same a b) refl
  where
    go : (t : Bool) → same a b ≡ t → false ≡ t
    go true e = absurd (n (ap length (same-equal a b e)))
    go false e = refl

-- the words from a place on
module _ (a b : List ℕ) (i : ℕ) (e : length a ≡ length b) (h : i + 8 ≤ length a) (small : Bytes a) (others : Bytes b) (v w : ℕ)
    (first : v ≡ from_le_bytes w64 (take 8 (drop i a))) (second : w ≡ from_le_bytes w64 (take 8 (drop i b))) where
  word_here : nat_eq v w ≡ same (take 8 (drop i a)) (take 8 (drop i b))
  word_here =
      ap (λ n. nat_eq n w) first ∙ ap (λ n. nat_eq (from_le_bytes w64 (take 8 (drop i a))) n) second
      ∙ word_is_same (take 8 (drop i a)) (take 8 (drop i b)) (omega (arith, length-take 8 (drop i a), length-drop i a)) (omega (arith, length-take 8 (drop i b), length-drop i b))
      (bytes-take 8 (drop i a) (bytes-drop i a small)) (bytes-take 8 (drop i b) (bytes-drop i b others))

  cut_here : same (drop i a) (drop i b) ≡ and (nat_eq v w) (same (drop (i + 8) a) (drop (i + 8) b))
  cut_here =
      same_cut 8 (drop i a) (drop i b) (omega (arith, length-drop i a, length-drop i b))
      ∙ ap (λ t. and t (same (drop 8 (drop i a)) (drop 8 (drop i b)))) (sym word_here)
      ∙ rw (drop-drop 8 i a, drop-drop 8 i b) refl

  pub words_differ : (v ≡ w → ⊥) → same (drop i a) (drop i b) ≡ same a b → false ≡ same a b
  words_differ n all = go (nat_eq v w) refl
    where
      go : (t : Bool) → nat_eq v w ≡ t → false ≡ same a b
      go true q = absurd (n (eqb-true v w q))
      go false q = rw q at (sym cut_here ∙ all)

  pub words_same : v ≡ w → same (drop i a) (drop i b) ≡ same a b → same (drop (i + 8) a) (drop (i + 8) b) ≡ same a b
  words_same q all = rw (eq-eqb v w q) at (sym cut_here ∙ all)
