-- The sequences of the table are the characters of std's UTF-8.
use Rattle.std.proofs.Common.{◌≡◌, ◌⊎◌, inl, inr, ℕ, suc, ◌+◌, ◌-◌, ◌*◌, ◌/◌, ◌<◌, ◌≤◌, Bool, true, false, List, [], ◌∷◌, ◌++◌, length, take, refl, ◌∙◌, subst, arith, le-ltb, lt-ltb, le-leb}
use native.Mathlib.Decide.{dec_lt}
use lib.Utf8.{scalar, next, encode, low_scalar, scalar_cases}
use Rattle.std.specs.Str.{IsUtf8}
use Rattle.std.proofs.lemmas.Bool.{false≢true}
use Rattle.std.proofs.lemmas.Str.{IsUtf8-encode}
use Rattle.subject_rules.specs.Choice.{pick}
use Rattle.subject_rules.specs.Utf8.{Range, range, tail, well_formed, within, begins, sequence}
use Rattle.subject_rules.proofs.Booleans.{and_false}
use Rattle.subject_rules.proofs.Lines.{inside, begins_true, lines, narrowed}
use Rattle.subject_rules.proofs.Ascii.{sequence_ascii}

-- the bytes of a character, by how many they are
one : (c : ℕ) → c < 0x80 → encode c ≡ c ∷ []
unfolding encode
one c h = rw (lt-ltb c 0x80 h)

two : (c : ℕ) → 0x80 ≤ c → c < 0x800 → encode c ≡ (0xc0 + c / 64) ∷ next c ∷ []
unfolding encode
two c l h = rw (le-ltb c 0x80 l, lt-ltb c 0x800 h)

three : (c : ℕ) → 0x800 ≤ c → c < 0x10000 → encode c ≡ (0xe0 + c / 4096) ∷ next (c / 64) ∷ next c ∷ []
unfolding encode
three c l h = rw (le-ltb c 0x80 (omega arith), le-ltb c 0x800 l, lt-ltb c 0x10000 h)

four : (c : ℕ) → 0x10000 ≤ c → encode c ≡ (0xf0 + c / 262144) ∷ next (c / 4096) ∷ next (c / 64) ∷ next c ∷ []
unfolding encode
four c l = rw (le-ltb c 0x80 (omega arith), le-ltb c 0x800 (omega arith), le-ltb c 0x10000 l)

-- bytes that start with one from lo to hi, with which one line of the table starts, or none
module _ (lo hi b : ℕ) (h : lo ≤ b) (k : b ≤ hi) (bs : List ℕ) where
  by_line : (rs : List Range) → lines lo hi well_formed ≡ (range lo hi ∷ rs) ∷ [] → sequence (b ∷ bs) ≡ pick (begins rs bs) (suc (length rs)) 0
  unfolding sequence
  by_line rs e = narrowed b lo hi h k well_formed bs ∙ rw (e, inside b lo hi h k)

  by_none : lines lo hi well_formed ≡ [] → sequence (b ∷ bs) ≡ 0
  unfolding sequence
  by_none e = narrowed b lo hi h k well_formed bs ∙ rw e

-- each character is a sequence
in_tail : (c : ℕ) → within tail (next c) ≡ true
in_tail c = inside (next c) 0x80 0xbf (omega arith) (omega arith)

module _ (c : ℕ) (rest : List ℕ) where
  whole_three : 0x800 ≤ c → c < 0x10000 → (lo hi low high : ℕ) → lines lo hi well_formed ≡ (range lo hi ∷ range low high ∷ tail ∷ []) ∷ []
      → (lo ≤ 0xe0 + c / 4096) × (0xe0 + c / 4096 ≤ hi) → (low ≤ next (c / 64)) × (next (c / 64) ≤ high) → sequence (encode c ++ rest) ≡ length (encode c)
  whole_three l h lo hi low high e first second =
      rw (three c l h) (by_line lo hi _ first.0 first.1 _ (range low high ∷ tail ∷ []) e ∙ rw (inside _ low high second.0 second.1, in_tail c))

  whole_four : 0x10000 ≤ c → (lo hi low high : ℕ) → lines lo hi well_formed ≡ (range lo hi ∷ range low high ∷ tail ∷ tail ∷ []) ∷ []
      → (lo ≤ 0xf0 + c / 262144) × (0xf0 + c / 262144 ≤ hi) → (low ≤ next (c / 4096)) × (next (c / 4096) ≤ high) → sequence (encode c ++ rest) ≡ length (encode c)
  whole_four l lo hi low high e first second =
      rw (four c l) (by_line lo hi _ first.0 first.1 _ (range low high ∷ tail ∷ tail ∷ []) e ∙ rw (inside _ low high second.0 second.1, in_tail (c / 64), in_tail c))

  pub whole : scalar c ≡ true → sequence (encode c ++ rest) ≡ length (encode c)
  whole s = by (dec_lt c 0x80) (dec_lt c 0x800) (dec_lt c 0x1000) (dec_lt c 0xd000) (dec_lt c 0x10000) (dec_lt c 0x40000) (dec_lt c 0x100000) (scalar_cases c s)
    where
      by : Dec (c < 0x80) → Dec (c < 0x800) → Dec (c < 0x1000) → Dec (c < 0xd000) → Dec (c < 0x10000) → Dec (c < 0x40000) → Dec (c < 0x100000)
          → (c < 55296) ⊎ ((57344 ≤ c) × (c < 1114112)) → sequence (encode c ++ rest) ≡ length (encode c)
      by (yes h) _ _ _ _ _ _ _ = rw (one c h) (sequence_ascii c rest h)
      by (no l) (yes h) _ _ _ _ _ _ = rw (two c (omega arith) h) (by_line 0xc2 0xdf _ (omega arith) (omega arith) _ (tail ∷ []) refl ∙ rw (in_tail c))
      by (no _) (no l) (yes h) _ _ _ _ _ = whole_three (omega arith) (omega arith) 0xe0 0xe0 0xa0 0xbf refl (omega arith, omega arith) (omega arith, omega arith)
      by (no _) (no _) (no l) (yes h) _ _ _ _ = whole_three (omega arith) (omega arith) 0xe1 0xec 0x80 0xbf refl (omega arith, omega arith) (omega arith, omega arith)
      by (no _) (no _) (no _) (no l) (yes h) _ _ (inl s) = whole_three (omega arith) (omega arith) 0xed 0xed 0x80 0x9f refl (omega arith, omega arith) (omega arith, omega arith)
      by (no _) (no _) (no _) (no l) (yes h) _ _ (inr s) = whole_three (omega arith) (omega arith) 0xee 0xef 0x80 0xbf refl (omega arith, omega arith) (omega arith, omega arith)
      by (no _) (no _) (no _) (no _) (no l) (yes h) _ _ = whole_four (omega arith) 0xf0 0xf0 0x90 0xbf refl (omega arith, omega arith) (omega arith, omega arith)
      by (no _) (no _) (no _) (no _) (no _) (no l) (yes h) _ = whole_four (omega arith) 0xf1 0xf3 0x80 0xbf refl (omega arith, omega arith) (omega arith, omega arith)
      by (no _) (no _) (no _) (no _) (no _) (no _) (no l) (inl s) = absurd (omega arith)
      by (no _) (no _) (no _) (no _) (no _) (no _) (no l) (inr s) = whole_four (omega arith) 0xf4 0xf4 0x80 0x8f refl (omega arith, omega arith) (omega arith, omega arith)

-- each sequence is a character
high_scalar : (c : ℕ) → 57344 ≤ c → c < 1114112 → scalar c ≡ true
high_scalar c l h = rw (le-ltb c 55296 (omega arith), le-leb 57344 c l, lt-ltb c 1114112 h)

of_scalar : (c : ℕ) → scalar c ≡ true → {bs : List ℕ} → encode c ≡ bs → IsUtf8 bs
of_scalar c s e = subst IsUtf8 e (IsUtf8-encode c s)

two_utf8 : (b c : ℕ) → 0xc2 ≤ b → b ≤ 0xdf → 0x80 ≤ c → c ≤ 0xbf → IsUtf8 (b ∷ c ∷ [])
two_utf8 b c l h m k =
    let x = (b - 0xc0) * 64 + (c - 0x80) in
    let p : 0xc0 + x / 64 ≡ b = omega arith in
    let q : next x ≡ c = omega arith in
    of_scalar x (low_scalar x (omega arith)) (two x (omega arith) (omega arith) ∙ rw (p, q))

three_utf8 : (b c d : ℕ) → 0xe0 ≤ b → b ≤ 0xef → 0x80 ≤ c → c ≤ 0xbf → 0x80 ≤ d → d ≤ 0xbf
    → (0x800 ≤ (b - 0xe0) * 4096 + (c - 0x80) * 64) → ((b - 0xe0) * 4096 + (c - 0x80) * 64 < 0xd800) ⊎ (0xe000 ≤ (b - 0xe0) * 4096 + (c - 0x80) * 64) → IsUtf8 (b ∷ c ∷ d ∷ [])
three_utf8 b c d l h m k n j long s =
    let x = (b - 0xe0) * 4096 + (c - 0x80) * 64 + (d - 0x80) in
    let p : 0xe0 + x / 4096 ≡ b = omega arith in
    let q : next (x / 64) ≡ c = omega arith in
    let r : next x ≡ d = omega arith in
    of_scalar x (by x s (omega arith) (omega arith)) (three x (omega arith) (omega arith) ∙ rw (p, q, r))
  where
    by : (x : ℕ) → ((b - 0xe0) * 4096 + (c - 0x80) * 64 < 0xd800) ⊎ (0xe000 ≤ (b - 0xe0) * 4096 + (c - 0x80) * 64) → (b - 0xe0) * 4096 + (c - 0x80) * 64 ≤ x → x ≤ (b - 0xe0) * 4096 + (c - 0x80) * 64 + 63 → scalar x ≡ true
    by x (inl s) f g = low_scalar x (omega arith)
    by x (inr s) f g = high_scalar x (omega arith) (omega arith)

four_utf8 : (b c d e : ℕ) → 0xf0 ≤ b → 0x80 ≤ c → c ≤ 0xbf → 0x80 ≤ d → d ≤ 0xbf → 0x80 ≤ e → e ≤ 0xbf
    → (16 ≤ (b - 0xf0) * 64 + (c - 0x80)) → ((b - 0xf0) * 64 + (c - 0x80) < 272) → IsUtf8 (b ∷ c ∷ d ∷ e ∷ [])
four_utf8 b c d e l m k n j i g long short =
    let x = (b - 0xf0) * 262144 + (c - 0x80) * 4096 + (d - 0x80) * 64 + (e - 0x80) in
    let p : 0xf0 + x / 262144 ≡ b = omega arith in
    let q : next (x / 4096) ≡ c = omega arith in
    let f : x / 64 ≡ (b - 0xf0) * 4096 + (c - 0x80) * 64 + (d - 0x80) = omega arith in
    let r : next (x / 64) ≡ d = rw f (omega arith) in
    let t : next x ≡ e = omega arith in
    of_scalar x (high_scalar x (omega arith) (omega arith)) (four x (omega arith) ∙ rw (p, q, r, t))

-- the first n bytes are UTF-8, and at most four
abbrev pub Front : List ℕ → ℕ → Type 0
Front bs n = IsUtf8 (take n bs) × (n ≤ 4)

module _ (b : ℕ) (bs : List ℕ) (some : sequence (b ∷ bs) ≡ 0 → ⊥) where
  -- by a line of the table
  front_line : (rs : List Range) → sequence (b ∷ bs) ≡ pick (begins rs bs) (suc (length rs)) 0 → (begins rs bs ≡ true → Front (b ∷ bs) (suc (length rs))) → Front (b ∷ bs) (sequence (b ∷ bs))
  front_line rs e f = by (begins rs bs) refl
    where
      by : (t : Bool) → begins rs bs ≡ t → Front (b ∷ bs) (sequence (b ∷ bs))
      by true t = rw (e, t) (f t)
      by false t = absurd (some (rw (e, t)))

  front_three : (lo hi low high : ℕ) → lines lo hi well_formed ≡ (range lo hi ∷ range low high ∷ tail ∷ []) ∷ [] → lo ≤ b → b ≤ hi → 0xe0 ≤ lo → hi ≤ 0xef → 0x80 ≤ low → high ≤ 0xbf
      → ((c : ℕ) → low ≤ c → c ≤ high → (0x800 ≤ (b - 0xe0) * 4096 + (c - 0x80) * 64) × (((b - 0xe0) * 4096 + (c - 0x80) * 64 < 0xd800) ⊎ (0xe000 ≤ (b - 0xe0) * 4096 + (c - 0x80) * 64)))
      → Front (b ∷ bs) (sequence (b ∷ bs))
  front_three lo hi low high e h k m n i j fits = front_line (range low high ∷ tail ∷ []) (by_line lo hi b h k bs (range low high ∷ tail ∷ []) e) (by bs)
    where
      by : (bs : List ℕ) → begins (range low high ∷ tail ∷ []) bs ≡ true → Front (b ∷ bs) 3
      by [] t = absurd (false≢true t)
      by (c ∷ []) t = absurd (false≢true (begins_true low high (tail ∷ []) c [] t).2)
      by (c ∷ d ∷ rest) t =
          let u = begins_true low high (tail ∷ []) c (d ∷ rest) t in
          let v = begins_true 0x80 0xbf [] d rest u.2 in
          let f = fits c u.0 u.1 in
          (three_utf8 b c d (omega arith) (omega arith) (omega arith) (omega arith) v.0 v.1 f.0 f.1, omega arith)

  front_four : (lo hi low high : ℕ) → lines lo hi well_formed ≡ (range lo hi ∷ range low high ∷ tail ∷ tail ∷ []) ∷ [] → lo ≤ b → b ≤ hi → 0xf0 ≤ lo → 0x80 ≤ low → high ≤ 0xbf
      → ((c : ℕ) → low ≤ c → c ≤ high → (16 ≤ (b - 0xf0) * 64 + (c - 0x80)) × ((b - 0xf0) * 64 + (c - 0x80) < 272)) → Front (b ∷ bs) (sequence (b ∷ bs))
  front_four lo hi low high e h k m i j fits = front_line (range low high ∷ tail ∷ tail ∷ []) (by_line lo hi b h k bs (range low high ∷ tail ∷ tail ∷ []) e) (by bs)
    where
      by : (bs : List ℕ) → begins (range low high ∷ tail ∷ tail ∷ []) bs ≡ true → Front (b ∷ bs) 4
      by [] t = absurd (false≢true t)
      by (c ∷ []) t = absurd (false≢true (begins_true low high (tail ∷ tail ∷ []) c [] t).2)
      by (c ∷ d ∷ []) t = absurd (false≢true (begins_true 0x80 0xbf (tail ∷ []) d [] (begins_true low high (tail ∷ tail ∷ []) c (d ∷ []) t).2).2)
      by (c ∷ d ∷ a ∷ rest) t =
          let u = begins_true low high (tail ∷ tail ∷ []) c (d ∷ a ∷ rest) t in
          let v = begins_true 0x80 0xbf (tail ∷ []) d (a ∷ rest) u.2 in
          let w = begins_true 0x80 0xbf [] a rest v.2 in
          let f = fits c u.0 u.1 in
          (four_utf8 b c d a (omega arith) (omega arith) (omega arith) v.0 v.1 w.0 w.1 f.0 f.1, omega arith)

  front_two : 0xc2 ≤ b → b ≤ 0xdf → Front (b ∷ bs) (sequence (b ∷ bs))
  front_two h k = front_line (tail ∷ []) (by_line 0xc2 0xdf b h k bs (tail ∷ []) refl) (by bs)
    where
      by : (bs : List ℕ) → begins (tail ∷ []) bs ≡ true → Front (b ∷ bs) 2
      by [] t = absurd (false≢true t)
      by (c ∷ rest) t = let u = begins_true 0x80 0xbf [] c rest t in (two_utf8 b c h k u.0 u.1, omega arith)

  front_byte : Front (b ∷ bs) (sequence (b ∷ bs))
  front_byte = by (dec_lt b 0x80) (dec_lt b 0xc2) (dec_lt b 0xe0) (dec_lt b 0xe1) (dec_lt b 0xed) (dec_lt b 0xee) (dec_lt b 0xf0) (dec_lt b 0xf1) (dec_lt b 0xf4) (dec_lt b 0xf5)
    where
      by : Dec (b < 0x80) → Dec (b < 0xc2) → Dec (b < 0xe0) → Dec (b < 0xe1) → Dec (b < 0xed) → Dec (b < 0xee) → Dec (b < 0xf0) → Dec (b < 0xf1) → Dec (b < 0xf4) → Dec (b < 0xf5)
          → Front (b ∷ bs) (sequence (b ∷ bs))
      by (yes h) _ _ _ _ _ _ _ _ _ = rw (sequence_ascii b bs h) (of_scalar b (low_scalar b (omega arith)) (one b h), omega arith)
      by (no l) (yes h) _ _ _ _ _ _ _ _ = absurd (some (by_none 0x80 0xc1 b (omega arith) (omega arith) bs refl))
      by (no _) (no l) (yes h) _ _ _ _ _ _ _ = front_two (omega arith) (omega arith)
      by (no _) (no _) (no l) (yes h) _ _ _ _ _ _ = front_three 0xe0 0xe0 0xa0 0xbf refl (omega arith) (omega arith) (omega arith) (omega arith) (omega arith) (omega arith) (λ c p q. (omega arith, inl (omega arith)))
      by (no _) (no _) (no _) (no l) (yes h) _ _ _ _ _ = front_three 0xe1 0xec 0x80 0xbf refl (omega arith) (omega arith) (omega arith) (omega arith) (omega arith) (omega arith) (λ c p q. (omega arith, inl (omega arith)))
      by (no _) (no _) (no _) (no _) (no l) (yes h) _ _ _ _ = front_three 0xed 0xed 0x80 0x9f refl (omega arith) (omega arith) (omega arith) (omega arith) (omega arith) (omega arith) (λ c p q. (omega arith, inl (omega arith)))
      by (no _) (no _) (no _) (no _) (no _) (no l) (yes h) _ _ _ = front_three 0xee 0xef 0x80 0xbf refl (omega arith) (omega arith) (omega arith) (omega arith) (omega arith) (omega arith) (λ c p q. (omega arith, inr (omega arith)))
      by (no _) (no _) (no _) (no _) (no _) (no _) (no l) (yes h) _ _ = front_four 0xf0 0xf0 0x90 0xbf refl (omega arith) (omega arith) (omega arith) (omega arith) (omega arith) (λ c p q. (omega arith, omega arith))
      by (no _) (no _) (no _) (no _) (no _) (no _) (no _) (no l) (yes h) _ = front_four 0xf1 0xf3 0x80 0xbf refl (omega arith) (omega arith) (omega arith) (omega arith) (omega arith) (λ c p q. (omega arith, omega arith))
      by (no _) (no _) (no _) (no _) (no _) (no _) (no _) (no _) (no l) (yes h) = front_four 0xf4 0xf4 0x80 0x8f refl (omega arith) (omega arith) (omega arith) (omega arith) (omega arith) (λ c p q. (omega arith, omega arith))
      by (no _) (no _) (no _) (no _) (no _) (no _) (no _) (no _) (no _) (no l) = absurd (some (by_none 0xf5 b b (omega arith) (omega arith) bs (simp and_false)))

pub none_of_none : sequence [] ≡ 0
unfolding sequence
none_of_none = refl

pub front : (bs : List ℕ) → (sequence bs ≡ 0 → ⊥) → Front bs (sequence bs)
front [] some = absurd (some none_of_none)
front (b ∷ bs) some = front_byte b bs some
