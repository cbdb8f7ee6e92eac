-- The pass over a plain text by words of eight bytes: what the marks of one say, and what the pass knows behind i bytes.
use Rattle.std.proofs.Common.{◌≡◌, ℕ, zero, suc, ◌+◌, ◌*◌, ◌/◌, ◌%◌, ◌^◌, ◌<◌, ◌≤◌, Bool, true, false, not, eqb, List, [], ◌∷◌, ◌++◌, length, get_or, take, drop, sym, refl, ap, ◌∙◌, arith, take-append-drop, length-take, take-add}
use Rattle.std.specs.Simd.{first_chunks}
use lib.Bits.{bit_and, bit_or, and_block, and_comm, and_zero_r, and_le_l, and_le_r, or_add_and}
use Rattle.subject_rules.specs.Choice.{and, or}
use Rattle.subject.specs.Words.{spell}
use Rattle.subject.specs.Spelling.{is_dot, is_barred, mark, marks}
use Rattle.subject.specs.Plain.{one, plain_from}
use Rattle.subject.proofs.Bytewise.{digit}
use Rattle.subject.proofs.Chunks.{word_is, word_length}

-- two words of which no bit is set
or_none : (a b : ℕ) → bit_or a b ≡ 0 → (a ≡ 0) × (b ≡ 0)
or_none a b e =
    let s = or_add_and a b in
    let l = and_le_l a b in
    let r = and_le_r a b in
    (omega (arith, e, s, l, r), omega (arith, e, s, l, r))

-- whether the last of some bytes is a dot; `dot` says it of the byte before them
abbrev last_dot : Bool → List ℕ → Bool
last_dot dot [] = dot
last_dot dot (b ∷ bs) = last_dot (is_dot b) bs

-- the dots among some bytes
abbrev dots_in : List ℕ → ℕ
dots_in [] = 0
dots_in (b ∷ bs) = one (is_dot b) + dots_in bs

-- no byte is barred, and no two dots stand side by side
abbrev Tidy : Bool → List ℕ → Type 0
Tidy dot [] = Unit {0}
Tidy dot (b ∷ bs) = (or (is_barred b) (and dot (is_dot b)) ≡ false) × Tidy (is_dot b) bs

-- such bytes are passed
passed : (dot : Bool) (n : ℕ) (xs ys : List ℕ) → Tidy dot xs → plain_from dot n (xs ++ ys) ≡ plain_from (last_dot dot xs) (n + dots_in xs) ys
passed dot n [] ys t = ap (λ (k : ℕ). plain_from dot k ys) (let e : n ≡ n + 0 = omega arith in e)
passed dot n (b ∷ bs) ys t =
    rw t.0 (passed (is_dot b) (n + one (is_dot b)) bs ys t.1 ∙ ap (λ (k : ℕ). plain_from (last_dot (is_dot b) bs) k ys) (let e : n + one (is_dot b) + dots_in bs ≡ n + (one (is_dot b) + dots_in bs) = omega arith in e))

-- of two runs of bytes, one behind the other
tidy_both : (dot : Bool) (xs ys : List ℕ) → Tidy dot xs → Tidy (last_dot dot xs) ys → Tidy dot (xs ++ ys)
tidy_both dot [] ys t u = u
tidy_both dot (b ∷ bs) ys t u = (t.0, tidy_both (is_dot b) bs ys t.1 u)

last_both : (dot : Bool) (xs ys : List ℕ) → last_dot dot (xs ++ ys) ≡ last_dot (last_dot dot xs) ys
last_both dot [] ys = refl
last_both dot (b ∷ bs) ys = last_both (is_dot b) bs ys

dots_both : (xs ys : List ℕ) → dots_in (xs ++ ys) ≡ dots_in xs + dots_in ys
dots_both [] ys = omega arith
dots_both (b ∷ bs) ys = omega (arith, dots_both bs ys)

dots_most : (bs : List ℕ) → dots_in bs ≤ length bs
dots_most [] = omega arith
dots_most (b ∷ bs) = go (is_dot b) (dots_most bs)
  where
    go : (d : Bool) → dots_in bs ≤ length bs → one d + dots_in bs ≤ suc (length bs)
    go true h = omega (arith, h)
    go false h = omega (arith, h)

-- what the marks say of the bytes
mark_small : (d : Bool) → mark d < 256
mark_small true = omega arith
mark_small false = omega arith

unmarked : (d : Bool) → mark d ≡ 0 → d ≡ false
unmarked true e = absurd (omega (arith, e))
unmarked false e = refl

marked-is : (d : Bool) → not (eqb (mark d) 0) ≡ d
marked-is true = refl
marked-is false = refl

not_both : (c d : Bool) → bit_and (mark d) (mark c) ≡ 0 → and c d ≡ false
not_both true true e = absurd (omega (arith, e))
not_both true false e = refl
not_both false d e = refl

neither : (a b : Bool) → a ≡ false → b ≡ false → or a b ≡ false
neither a b e f = rw (e, f)

-- of bytes against one byte the first counts
first_digit : (x y n : ℕ) → x < 256 → y < 256 → bit_and (x + 256 * n) y ≡ bit_and x y
first_digit x y n p q =
    let e : y + 256 * 0 ≡ y = omega arith in
    omega (arith, rw e at (digit bit_and and_block refl x y n 0 p q), and_zero_r n)

tidy : (dot : Bool) (bs : List ℕ) → spell (marks is_barred bs) ≡ 0
    → bit_and (spell (marks is_dot bs)) (spell (marks is_dot bs) / 256) ≡ 0
    → bit_and (spell (marks is_dot bs)) (mark dot) ≡ 0 → Tidy dot bs
tidy dot [] o p q = tt
tidy dot (b ∷ bs) o p q =
    let m = mark (is_dot b) in
    let n = spell (marks is_dot bs) in
    let small = mark_small (is_dot b) in
    let low : n % 256 < 256 = omega arith in
    let rest : (m + 256 * n) / 256 ≡ n = omega (arith, small) in
    let parts : n ≡ n % 256 + 256 * (n / 256) = omega arith in
    let pairs : bit_and (m + 256 * n) (n % 256 + 256 * (n / 256)) ≡ 0 = rw (← parts) (rw rest at p) in
    let apart = digit bit_and and_block refl m (n % 256) n (n / 256) small low in
    let first = ap (λ (k : ℕ). bit_and k m) parts ∙ first_digit (n % 256) m (n / 256) low small ∙ and_comm (n % 256) m in (
      neither (is_barred b) (and dot (is_dot b)) (unmarked (is_barred b) (omega (arith, o)))
          (not_both dot (is_dot b) (sym (first_digit m (mark dot) n small (mark_small dot)) ∙ q)),
      tidy (is_dot b) bs (omega (arith, o)) (omega (arith, pairs, apart)) (omega (arith, pairs, apart, first)),
    )

-- the mark of the last of k + 1 bytes
abbrev shifted : ℕ → ℕ → ℕ
shifted zero n = n
shifted (suc k) n = shifted k (n / 256)

last-mark : (dot : Bool) (k : ℕ) (bs : List ℕ) → length bs ≡ suc k → shifted k (spell (marks is_dot bs)) ≡ mark (last_dot dot bs)
last-mark dot k [] e = absurd (omega (arith, e))
last-mark dot zero (b ∷ []) e = omega arith
last-mark dot zero (b ∷ c ∷ bs) e = absurd (omega (arith, e))
last-mark dot (suc k) (b ∷ []) e = absurd (omega (arith, e))
last-mark dot (suc k) (b ∷ c ∷ bs) e =
    let n = spell (marks is_dot (c ∷ bs)) in
    let rest : (mark (is_dot b) + 256 * n) / 256 ≡ n = omega (arith, mark_small (is_dot b)) in
    ap (shifted k) rest ∙ last-mark (is_dot b) k (c ∷ bs) (omega (arith, e))

-- the marks at the lowest bits
abbrev bits : List ℕ → ℕ
bits [] = 0
bits (b ∷ bs) = one (is_dot b) + 256 * bits bs

marks_bits : (bs : List ℕ) → spell (marks is_dot bs) ≡ 128 * bits bs
marks_bits [] = refl
marks_bits (b ∷ bs) = go (is_dot b) (marks_bits bs)
  where
    go : (d : Bool) → spell (marks is_dot bs) ≡ 128 * bits bs → mark d + 256 * spell (marks is_dot bs) ≡ 128 * (one d + 256 * bits bs)
    go true e = omega (arith, e)
    go false e = omega (arith, e)

one-most : (d : Bool) → one d ≤ 1
one-most true = omega arith
one-most false = omega arith

bits_low : (bs : List ℕ) → bits bs % 256 ≤ 1
bits_low [] = omega arith
bits_low (b ∷ bs) = omega (arith, one-most (is_dot b))

-- the lower byte of each of k pairs, and 2 for each
abbrev masks : ℕ → ℕ
masks zero = 0
masks (suc k) = 0xff + 65536 * masks k

abbrev twos : ℕ → ℕ
twos zero = 0
twos (suc k) = 2 + 65536 * twos k

-- how many of two
abbrev paired : ℕ → ℕ → ℕ
paired k n = bit_and (n + n / 256) (masks k)

of_two : (c d : Bool) → bit_and (one c + one d) 0xff ≡ one c + one d
of_two true true = refl
of_two true false = refl
of_two false true = refl
of_two false false = refl

-- one pair, and those behind it
pair : (c d : Bool) (k n : ℕ) → n % 256 ≤ 1 → paired (suc k) (one c + 256 * (one d + 256 * n)) ≡ one c + one d + 65536 * paired k n
pair c d k n l =
    let x = one c in
    let y = one d in
    let p = one-most c in
    let q = one-most d in
    let sum : x + 256 * (y + 256 * n) + (x + 256 * (y + 256 * n)) / 256 ≡ x + y + 256 * (y + n % 256 + 256 * (n + n / 256)) = omega (arith, p, q) in
    let mask : masks (suc k) ≡ 0xff + 256 * (0 + 256 * masks k) = omega arith in
    let low = digit bit_and and_block refl (x + y) 0xff (y + n % 256 + 256 * (n + n / 256)) (0 + 256 * masks k) (omega (arith, p, q)) (omega arith) in
    let high = digit bit_and and_block refl (y + n % 256) 0 (n + n / 256) (masks k) (omega (arith, q, l)) (omega arith) in
    ap (λ (v : ℕ). bit_and v (masks (suc k))) sum ∙ ap (bit_and (x + y + 256 * (y + n % 256 + 256 * (n + n / 256)))) mask ∙ omega (arith, low, high, of_two c d, and_zero_r (y + n % 256))

pairs : (k : ℕ) (bs : List ℕ) → length bs ≡ 2 * k → (paired k (bits bs) % 65535 ≡ dots_in bs % 65535) × (paired k (bits bs) ≤ twos k)
pairs zero [] e = (refl, omega arith)
pairs zero (b ∷ bs) e = absurd (omega (arith, e))
pairs (suc k) [] e = absurd (omega (arith, e))
pairs (suc k) (b ∷ []) e = absurd (omega (arith, e))
pairs (suc k) (b ∷ c ∷ bs) e =
    let h = pairs k bs (omega (arith, e)) in
    let p = pair (is_dot b) (is_dot c) k (bits bs) (bits_low bs) in
    (omega (arith, p, h.0), omega (arith, p, h.1, one-most (is_dot b), one-most (is_dot c)))

-- what the pass knows behind i bytes: the dots but for a multiple of 65,535, the mark of the last byte, and, where nothing was met, that all is tidy
pub record Seen (text : List ℕ) (faults counts before i : ℕ) : Type 0 where
  pub within : i ≤ length text
  pub count : counts % 65535 ≡ dots_in (take i text) % 65535
  pub most : counts * 8 ≤ i * 0x0002000200020002
  pub last : before ≡ mark (last_dot true (take i text))
  pub clear : faults ≡ 0 → Tidy true (take i text)

-- a word more: d marks the dots in it, b the barred bytes
module _ (text : List ℕ) (ws : List (List ℕ)) (front : ws ≡ first_chunks 8 (length text / 8) text) (many : length ws ≡ length text / 8) (k : ℕ) (h : k < length ws)
    (faults counts before : ℕ) (s : Seen text faults counts before (8 * k)) (d b : ℕ) (d-is : d ≡ spell (marks is_dot (get_or ws k []))) (b-is : b ≡ spell (marks is_barred (get_or ws k []))) where
  eight : length (get_or ws k []) ≡ 8
  eight = ap length (word_is text ws front many k h) ∙ word_length text ws front many k h

  split : take (8 * (k + 1)) text ≡ take (8 * k) text ++ get_or ws k []
  split =
      let n : 8 * (k + 1) ≡ 8 * k + 8 = omega arith in
      rw (n, word_is text ws front many k h) (take-add (8 * k) 8 text)

  -- the pairs of dots, as the code has them
  paired_is : bit_and (d / 2 ^ 7 + d / 2 ^ 15) 0x00ff00ff00ff00ff ≡ paired 4 (bits (get_or ws k []))
  paired_is =
      let m = marks_bits (get_or ws k []) in
      let p : d / 2 ^ 7 ≡ bits (get_or ws k []) = omega (arith, d-is, m) in
      let q : d / 2 ^ 15 ≡ bits (get_or ws k []) / 256 = omega (arith, d-is, m) in
      rw (p, q)

  pub pairs_fit : bit_and (d / 2 ^ 7 + d / 2 ^ 15) 0x00ff00ff00ff00ff ≤ 0x0002000200020002
  pairs_fit = rw paired_is (pairs 4 (get_or ws k []) eight).1

  last-is : d / 2 ^ 56 ≡ mark (last_dot true (take (8 * (k + 1)) text))
  last-is =
      let m = last-mark (last_dot true (take (8 * k) text)) 7 (get_or ws k []) eight in
      let z : d / 2 ^ 56 ≡ shifted 7 d = omega arith in
      z ∙ rw (d-is, split, last_both true (take (8 * k) text) (get_or ws k [])) m

  pub seen_word : Seen text (bit_or (bit_or (bit_or faults b) (bit_and d (d / 2 ^ 8))) (bit_and d before)) (counts + bit_and (d / 2 ^ 7 + d / 2 ^ 15) 0x00ff00ff00ff00ff) (d / 2 ^ 56) (8 * (k + 1))
  seen_word =
      record {
        within = omega (arith, h, many);
        count = rw (split, dots_both (take (8 * k) text) (get_or ws k []), paired_is) (omega (arith, s.count, (pairs 4 (get_or ws k []) eight).0));
        most = omega (arith, s.most, pairs_fit);
        last = last-is;
        clear = λ e.
            let x = or_none (bit_or (bit_or faults b) (bit_and d (d / 2 ^ 8))) (bit_and d before) e in
            let y = or_none (bit_or faults b) (bit_and d (d / 2 ^ 8)) x.0 in
            let z = or_none faults b y.0 in
            rw split (tidy_both true (take (8 * k) text) (get_or ws k []) (s.clear z.0)
            (tidy (last_dot true (take (8 * k) text)) (get_or ws k []) (sym b-is ∙ z.1) (rw (← d-is) y.1) (rw (← d-is, ← s.last) x.1)));
      }

-- the end of the pass by words: what is left is passed by bytes
module _ (text : List ℕ) (faults counts before i : ℕ) (s : Seen text faults counts before i) (l : length text ≤ 4096) where
  count-is : counts % 65535 ≡ dots_in (take i text)
  count-is = omega (arith, s.count, dots_most (take i text), length-take i text, l)

  pub count_fits : counts % 65535 ≤ 4096
  count_fits = omega (arith, count-is, dots_most (take i text), length-take i text, l)

  pub seen-rest : faults ≡ 0 → (j : ℕ) → j ≡ i → (rest : List ℕ) → rest ≡ drop j text → plain_from (not (eqb before 0)) (counts % 65535) rest ≡ plain_from true 0 text
  seen-rest z j e rest back =
      let n : counts % 65535 ≡ 0 + dots_in (take i text) = omega (arith, count-is) in
      let d : not (eqb before 0) ≡ last_dot true (take i text) = rw s.last (marked-is (last_dot true (take i text))) in
      rw (n, d, back, e) (sym (passed true 0 (take i text) (drop i text) (s.clear z)) ∙ ap (plain_from true 0) (take-append-drop i text))
