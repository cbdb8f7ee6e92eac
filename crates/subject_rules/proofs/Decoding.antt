-- What UTF-8 decodes to: a byte below 80 is a character by itself, and every other byte belongs to a character of 80 or more.
use Prim.Native.Nat.{ℕ, zero, suc, ◌+◌, ◌*◌, ◌-◌, ◌%◌, ◌≤◌, ◌<◌}
use native.Mathlib.Omega.{arith}
use mathlib.Core.Path.{◌≡◌, refl}
use mathlib.Core.Bool.{Bool, true, false}
use mathlib.Core.List.{List, [], ◌∷◌}
use mathlib.Core.Option.{none, some}
use lib.Dec.{eqb}
use lib.ListN.{length}
use Rattle.std.proofs.lemmas.Bool.{false≢true}
use borrow.Author.Tests.{eqb-false, lt-ltb, le-ltb}
use Rattle.subject_rules.specs.Choice.{pick}
use Rattle.subject_rules.specs.Utf8.{Range, range, tail, well_formed, begins, length_in, sequence, scan, first_bad}
use Rattle.subject_rules.specs.Original.{following, first_bits, code_point}
use Rattle.subject_rules.proofs.Lines.{begins_true}

-- the first n bytes are there, and none is below 80
abbrev pub Tails : ℕ → List ℕ → Type 0
Tails zero bs = Unit {0}
Tails (suc n) [] = ⊥
Tails (suc n) (b ∷ bs) = (0x80 ≤ b) × Tails n bs

-- the character that begins with byte b is that byte, below 80, or one of 80 or more
pub data First (b : ℕ) (bs : List ℕ) : Type 0 where
  ascii : b < 0x80 → First b bs
  long : 0x80 ≤ b → 0x80 ≤ code_point (first_bits b) (following b) bs → First b bs

-- from behind n bytes that still belong to the character before, each byte that starts a character does so
abbrev pub Decodes : ℕ → List ℕ → Type 0
Decodes zero [] = Unit {0}
Decodes (suc n) [] = ⊥
Decodes (suc n) (b ∷ bs) = (0x80 ≤ b) × Decodes n bs
Decodes zero (b ∷ bs) = First b bs × Decodes (following b) bs

pub decodes_tails : (n : ℕ) (bs : List ℕ) → Decodes n bs → Tails n bs
decodes_tails zero bs d = tt
decodes_tails (suc n) [] d = d
decodes_tails (suc n) (b ∷ bs) d = (d.0, decodes_tails n bs d.1)

-- a sequence of n bytes by its first, b
abbrev Sequence : ℕ → List ℕ → ℕ → Type 0
Sequence b bs n = (n ≡ suc (following b)) × Tails (following b) bs × First b bs

-- the first octet of a sequence of two, three and four
module _ (b : ℕ) where
  two_following : 0x80 ≤ b → b < 0xe0 → (following b ≡ 1) × (first_bits b ≡ b % 0x20)
  two_following l h = rw (le-ltb b 0x80 l, lt-ltb b 0xe0 h) (refl, refl)

  three_following : 0xe0 ≤ b → b < 0xf0 → (following b ≡ 2) × (first_bits b ≡ b % 0x10)
  three_following l h = rw (le-ltb b 0x80 (omega arith), le-ltb b 0xe0 l, lt-ltb b 0xf0 h) (refl, refl)

  four_following : 0xf0 ≤ b → (following b ≡ 3) × (first_bits b ≡ b % 0x08)
  four_following l = rw (le-ltb b 0x80 (omega arith), le-ltb b 0xe0 (omega arith), le-ltb b 0xf0 l) (refl, refl)

one_octet : (b : ℕ) (bs : List ℕ) → begins (range 0x00 0x7f ∷ []) (b ∷ bs) ≡ true → Sequence b bs 1
one_octet b bs e =
    let w = begins_true 0x00 0x7f [] b bs e in
    let l : b < 0x80 = omega arith in
    rw (lt-ltb b 0x80 l) (refl, tt, ascii l)

two_octets : (b : ℕ) (bs : List ℕ) → begins (range 0xc2 0xdf ∷ tail ∷ []) (b ∷ bs) ≡ true → Sequence b bs 2
two_octets b [] e = absurd (false≢true (begins_true 0xc2 0xdf (tail ∷ []) b [] e).2)
two_octets b (c ∷ bs) e =
    let w = begins_true 0xc2 0xdf (tail ∷ []) b (c ∷ bs) e in
    let v = begins_true 0x80 0xbf [] c bs w.2 in
    let f = two_following b (omega arith) (omega arith) in
    let enough : 0x80 ≤ code_point (first_bits b) (following b) (c ∷ bs) = rw (f.0, f.1) (omega arith) in
    rw f.0 (refl, (v.0, tt), long (omega arith) enough)

-- `low` and `high` bound the second octet so that with the first it gives 16 or more: no sequence is longer than it has to be
module _ (first last low high : ℕ) (from : 0x80 ≤ low) where
  three_octets : 0xe0 ≤ first → last < 0xf0
      → ((b c : ℕ) → first ≤ b → b ≤ last → low ≤ c → c ≤ high → 0x10 ≤ b % 0x10 * 0x40 + c % 0x40)
      → (b : ℕ) (bs : List ℕ) → begins (range first last ∷ range low high ∷ tail ∷ []) (b ∷ bs) ≡ true → Sequence b bs 3
  three_octets l h least b [] e = absurd (false≢true (begins_true first last (range low high ∷ tail ∷ []) b [] e).2)
  three_octets l h least b (c ∷ []) e =
      absurd (false≢true (begins_true low high (tail ∷ []) c [] (begins_true first last (range low high ∷ tail ∷ []) b (c ∷ []) e).2).2)
  three_octets l h least b (c ∷ d ∷ bs) e =
      let w = begins_true first last (range low high ∷ tail ∷ []) b (c ∷ d ∷ bs) e in
      let v = begins_true low high (tail ∷ []) c (d ∷ bs) w.2 in
      let u = begins_true 0x80 0xbf [] d bs v.2 in
      let f = three_following b (omega arith) (omega arith) in
      let g = least b c w.0 w.1 v.0 v.1 in
      let enough : 0x80 ≤ code_point (first_bits b) (following b) (c ∷ d ∷ bs) = rw (f.0, f.1) (omega arith) in
      rw f.0 (refl, (omega arith, (u.0, tt)), long (omega arith) enough)

  four_octets : 0xf0 ≤ first
      → ((b c : ℕ) → first ≤ b → b ≤ last → low ≤ c → c ≤ high → 0x10 ≤ b % 0x08 * 0x40 + c % 0x40)
      → (b : ℕ) (bs : List ℕ) → begins (range first last ∷ range low high ∷ tail ∷ tail ∷ []) (b ∷ bs) ≡ true → Sequence b bs 4
  four_octets l least b [] e = absurd (false≢true (begins_true first last (range low high ∷ tail ∷ tail ∷ []) b [] e).2)
  four_octets l least b (c ∷ []) e =
      absurd (false≢true (begins_true low high (tail ∷ tail ∷ []) c [] (begins_true first last (range low high ∷ tail ∷ tail ∷ []) b (c ∷ []) e).2).2)
  four_octets l least b (c ∷ d ∷ []) e =
      let w = begins_true first last (range low high ∷ tail ∷ tail ∷ []) b (c ∷ d ∷ []) e in
      let v = begins_true low high (tail ∷ tail ∷ []) c (d ∷ []) w.2 in
      absurd (false≢true (begins_true 0x80 0xbf (tail ∷ []) d [] v.2).2)
  four_octets l least b (c ∷ d ∷ a ∷ bs) e =
      let w = begins_true first last (range low high ∷ tail ∷ tail ∷ []) b (c ∷ d ∷ a ∷ bs) e in
      let v = begins_true low high (tail ∷ tail ∷ []) c (d ∷ a ∷ bs) w.2 in
      let u = begins_true 0x80 0xbf (tail ∷ []) d (a ∷ bs) v.2 in
      let t = begins_true 0x80 0xbf [] a bs u.2 in
      let f = four_following b (omega arith) in
      let g = least b c w.0 w.1 v.0 v.1 in
      let enough : 0x80 ≤ code_point (first_bits b) (following b) (c ∷ d ∷ a ∷ bs) = rw (f.0, f.1) (omega arith) in
      rw f.0 (refl, (omega arith, (u.0, (t.0, tt))), long (omega arith) enough)

-- what holds of the length of each line that the bytes begin with holds of the first such line's
abbrev Lines : (ℕ → Type 0) → List (List Range) → List ℕ → Type 0
Lines P [] bs = Unit {0}
Lines P (row ∷ rows) bs = (begins row bs ≡ true → P (length row)) × Lines P rows bs

length-line : (P : ℕ → Type 0) (rows : List (List Range)) (bs : List ℕ) → Lines P rows bs → (length_in rows bs ≡ 0 → ⊥) → P (length_in rows bs)
length-line P [] bs l n = absurd (n refl)
length-line P (row ∷ rows) bs l n = go (begins row bs) refl n (length-line P rows bs l.1)
  where
    go : (w : Bool) → begins row bs ≡ w → (pick w (length row) (length_in rows bs) ≡ 0 → ⊥) → ((length_in rows bs ≡ 0 → ⊥) → P (length_in rows bs))
        → P (pick w (length row) (length_in rows bs))
    go true e n ih = l.0 e
    go false e n ih = ih n

sequence_octets : (b : ℕ) (bs : List ℕ) → (sequence (b ∷ bs) ≡ 0 → ⊥) → Sequence b bs (sequence (b ∷ bs))
unfolding sequence
sequence_octets b bs n =
    length-line (Sequence b bs) well_formed (b ∷ bs) (
      one_octet b bs,
      (
        two_octets b bs,
        (
          three_octets 0xe0 0xe0 0xa0 0xbf (omega arith) (omega arith) (omega arith) (λ b c k l m n. omega arith) b bs,
          (
            three_octets 0xe1 0xec 0x80 0xbf (omega arith) (omega arith) (omega arith) (λ b c k l m n. omega arith) b bs,
            (
              three_octets 0xed 0xed 0x80 0x9f (omega arith) (omega arith) (omega arith) (λ b c k l m n. omega arith) b bs,
              (
                three_octets 0xee 0xef 0x80 0xbf (omega arith) (omega arith) (omega arith) (λ b c k l m n. omega arith) b bs,
                (
                  four_octets 0xf0 0xf0 0x90 0xbf (omega arith) (omega arith) (λ b c k l m n. omega arith) b bs,
                  (
                    four_octets 0xf1 0xf3 0x80 0xbf (omega arith) (omega arith) (λ b c k l m n. omega arith) b bs,
                    (
                      four_octets 0xf4 0xf4 0x80 0x8f (omega arith) (omega arith) (λ b c k l m n. omega arith) b bs,
                      tt,
                    ),
                  ),
                ),
              ),
            ),
          ),
        ),
      ),
    )
    n

scan_decodes : (n at : ℕ) (bs : List ℕ) → Tails n bs → scan n at bs ≡ none → Decodes n bs
scan_decodes zero at [] t e = tt
scan_decodes (suc n) at [] t e = t
scan_decodes (suc n) at (b ∷ bs) t e = (t.0, scan_decodes n (at + 1) bs t.1 e)
scan_decodes zero at (b ∷ bs) t e = go (eqb (sequence (b ∷ bs)) 0) refl e (λ n. scan_decodes n (at + 1) bs)
  where
    go : (w : Bool) → eqb (sequence (b ∷ bs)) 0 ≡ w → pick w (some at) (scan (sequence (b ∷ bs) - 1) (at + 1) bs) ≡ none
        → ((n : ℕ) → Tails n bs → scan n (at + 1) bs ≡ none → Decodes n bs) → First b bs × Decodes (following b) bs
    go true q e ih = absurd (cc)
    go false q e ih =
        let s = sequence_octets b bs (eqb-false (sequence (b ∷ bs)) 0 q) in
        let k : sequence (b ∷ bs) - 1 ≡ following b = omega arith in
        (s.2, ih (following b) s.1 (rw k at e))

-- text that is UTF-8 decodes
pub utf8_decodes : (bs : List ℕ) → first_bad bs ≡ none → Decodes 0 bs
unfolding first_bad
utf8_decodes bs e = scan_decodes 0 0 bs tt e
