-- The marks of eight bytes, by sums that do not carry.
use Rattle.std.proofs.Common.{◌≡◌, ℕ, ◌+◌, ◌*◌, ◌^◌, ◌<◌, Bool, true, eqb, List, [], ◌∷◌, map, length, replicate, sym, refl, ap, ◌∙◌, arith, eqb-true}
use lib.Bits.{bit_and, bit_or, bit_xor, and_block, or_block, xor_block, and_lt, or_lt, xor_lt, and_le_r}
use Rattle.std.proofs.lemmas.List.{map-id}
use Rattle.subject.specs.Words.{spell}
use Rattle.subject.specs.Spelling.{is_dot, is_barred, mark, marks}
use Rattle.subject.proofs.Bytewise.{Bytes, Small, bytewise, sums, up_to, tested}
use Rattle.subject.proofs.Spelled.{Eight}

-- the word w has f b in place of each byte b
record Made (bs : List ℕ) (w : ℕ) (f : ℕ → ℕ) : Type 0 where
  spelt : w ≡ spell (map f bs)
  small : Small f

module _ {bs : List ℕ} (p : Bytes bs) {v w : ℕ} {f g : ℕ → ℕ} (a : Made bs v f) (b : Made bs w g) where
  made_by_lem : (op : ℕ → ℕ → ℕ) → ((k a b r s : ℕ) → r < 2 ^ k → s < 2 ^ k → op (a * 2 ^ k + r) (b * 2 ^ k + s) ≡ op a b * 2 ^ k + op r s)
      → op 0 0 ≡ 0 → ((k a b : ℕ) → a < 2 ^ k → b < 2 ^ k → op a b < 2 ^ k) → Made bs (op v w) (λ x. op (f x) (g x))
  made_by_lem op block none less =
      record {
        spelt = rw (a.spelt, b.spelt) (bytewise op block none f g bs p a.small b.small);
        small = λ x l. less 8 (f x) (g x) (a.small x l) (b.small x l);
      }

  made-and : Made bs (bit_and v w) (λ x. bit_and (f x) (g x))
  made-and = made_by_lem bit_and and_block refl and_lt

  made-or : Made bs (bit_or v w) (λ x. bit_or (f x) (g x))
  made-or = made_by_lem bit_or or_block refl or_lt

  made_xor : Made bs (bit_xor v w) (λ x. bit_xor (f x) (g x))
  made_xor = made_by_lem bit_xor xor_block refl xor_lt

  made-sum : ((x : ℕ) → x < 256 → f x + g x < 256) → Made bs (v + w) (λ x. f x + g x)
  made-sum s = record { spelt = rw (a.spelt, b.spelt) (sums f g bs); small = s }

-- bytes of which each is marked as meant
marked : (meant : ℕ → Bool) (f : ℕ → ℕ) → up_to 256 (λ b. eqb (f b) (mark (meant b))) ≡ true → (bs : List ℕ) → Bytes bs → map f bs ≡ marks meant bs
marked meant f e [] p = refl
marked meant f e (b ∷ bs) p =
    let h : f b ≡ mark (meant b) = eqb-true (f b) (mark (meant b)) (tested 256 (λ b. eqb (f b) (mark (meant b))) e b p.0) in
    rw (h, marked meant f e bs p.1)

each_same : (c : ℕ) (bs : List ℕ) → spell (map (λ b. c) bs) ≡ spell (replicate (length bs) c)
each_same c [] = refl
each_same c (b ∷ bs) = ap (λ (n : ℕ). c + 256 * n) (each_same c bs)

-- no sum leaves the word
pub other_fits : (w c : ℕ) → c < 2 ^ 63 → bit_xor (bit_and w 0x7f7f7f7f7f7f7f7f) c + 0x7f7f7f7f7f7f7f7f < 2 ^ 64
other_fits w c l = omega (arith, xor_lt 63 (bit_and w 0x7f7f7f7f7f7f7f7f) c (omega (arith, and_le_r w 0x7f7f7f7f7f7f7f7f)) l)

module _ {bs : List ℕ} {w : ℕ} (t : Eight bs w) where
  -- the bytes themselves, and the same byte eight times
  bytes : Made bs w (λ b. b)
  bytes = record { spelt = rw (map-id bs) t.spelt; small = λ b l. l }

  copies : (c : ℕ) → c < 256 → Made bs (spell (replicate 8 c)) (λ b. c)
  copies c l = record { spelt = sym (rw t.eight at (each_same c bs)); small = λ b h. l }

  -- the lower seven bits of each byte
  low : Made bs (bit_and w 0x7f7f7f7f7f7f7f7f) (λ b. bit_and b 0x7f)
  low = made-and t.bytes bytes (copies 0x7f (omega arith))

  -- the highest bit of each sum says that these are not those of c
  other : (c : ℕ) → c < 128
      → Made bs (bit_xor (bit_and w 0x7f7f7f7f7f7f7f7f) (spell (replicate 8 c)) + 0x7f7f7f7f7f7f7f7f) (λ b. bit_xor (bit_and b 0x7f) c + 0x7f)
  other c l =
      made-sum t.bytes (made_xor t.bytes low (copies c (omega arith))) (copies 0x7f (omega arith))
      (λ b h. omega (arith, xor_lt 7 (bit_and b 0x7f) c (omega (arith, and_le_r b 0x7f)) l))

  pub dots_marked :
      bit_xor (bit_and (bit_or (bit_xor (bit_and w 0x7f7f7f7f7f7f7f7f) 0x2e2e2e2e2e2e2e2e + 0x7f7f7f7f7f7f7f7f) w) 0x8080808080808080) 0x8080808080808080
      ≡ spell (marks is_dot bs)
  dots_marked =
      let high = copies 0x80 (omega arith) in
      (made_xor t.bytes (made-and t.bytes (made-or t.bytes (other 0x2e (omega arith)) bytes) high) high).spelt
      ∙ ap spell (marked is_dot _ refl bs t.bytes)

  -- the highest bit of each sum says that they are 20 or more
  shown : Made bs (bit_and w 0x7f7f7f7f7f7f7f7f + 0x6060606060606060) (λ b. bit_and b 0x7f + 0x60)
  shown = made-sum t.bytes low (copies 0x60 (omega arith)) (λ b h. omega (arith, and_le_r b 0x7f))

  -- with p, q, r and s for the four sums
  pub barred_marked : (p q r s : ℕ)
      → p ≡ bit_and w 0x7f7f7f7f7f7f7f7f + 0x6060606060606060
      → q ≡ bit_xor (bit_and w 0x7f7f7f7f7f7f7f7f) 0x7f7f7f7f7f7f7f7f + 0x7f7f7f7f7f7f7f7f
      → r ≡ bit_xor (bit_and w 0x7f7f7f7f7f7f7f7f) 0x2a2a2a2a2a2a2a2a + 0x7f7f7f7f7f7f7f7f
      → s ≡ bit_xor (bit_and w 0x7f7f7f7f7f7f7f7f) 0x3e3e3e3e3e3e3e3e + 0x7f7f7f7f7f7f7f7f
      → bit_and (bit_or (bit_xor (bit_and (bit_and (bit_and p q) r) s) 0x8080808080808080) w) 0x8080808080808080 ≡ spell (marks is_barred bs)
  barred_marked p q r s p_is q-is r_is s-is =
      let b = t.bytes in
      let high = copies 0x80 (omega arith) in
      let plain = made-and b (made-and b (made-and b shown (other 0x7f (omega arith))) (other 0x2a (omega arith))) (other 0x3e (omega arith)) in
      rw (p_is, q-is, r_is, s-is) ((made-and b (made-or b (made_xor b plain high) bytes) high).spelt ∙ ap spell (marked is_barred _ refl bs b))
