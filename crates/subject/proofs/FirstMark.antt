-- The first dot of eight bytes by their marks.
use Rattle.std.proofs.Common.{◌≡◌, ◌==◌, ℕ, zero, suc, ◌+◌, ◌*◌, ◌/◌, ◌%◌, ◌<◌, ◌≤◌, Bool, true, false, not, cond, ltb, List, [], ◌∷◌, length, get_or, take, drop, Some, None, unwrap_or, sym, refl, ap, ◌∙◌, arith, drop-drop, ltb-false}
use Rattle.std.specs.List.{position, position_or_len}
use Rattle.std.specs.Simd.{first_chunks}
use lib.Count.{count_trailing_zeros}
use Rattle.subject_rules.specs.Choice.{pick}
use Rattle.subject.specs.Words.{spell}
use Rattle.subject.specs.Spelling.{is_dot, mark, marks}
use Rattle.subject.specs.Reading.{until_dot}
use Rattle.subject.proofs.Chunks.{word_is, word_room, word_length}
use Rattle.subject.proofs.Positions.{until_within}

-- one binary digit
even : (k m n : ℕ) → n ≡ 2 * m → count_trailing_zeros (suc k) n ≡ suc (count_trailing_zeros k m)
unfolding count_trailing_zeros
even k m n e =
    let r : n % 2 ≡ 0 = omega arith in
    let h : n / 2 ≡ m = omega arith in
    rw (r, h)

odd : (k m n : ℕ) → n ≡ 2 * m + 1 → count_trailing_zeros (suc k) n ≡ 0
unfolding count_trailing_zeros
odd k m n e =
    let r : n % 2 ≡ 1 = omega arith in
    rw r

-- n and j more
abbrev more : ℕ → ℕ → ℕ
more zero n = n
more (suc j) n = suc (more j n)

-- n doubled j times
abbrev doubled : ℕ → ℕ → ℕ
doubled zero n = n
doubled (suc j) n = 2 * doubled j n

evens : (j k n : ℕ) → count_trailing_zeros (more j k) (doubled j n) ≡ more j (count_trailing_zeros k n)
evens zero k n = refl
evens (suc j) k n = even (more j k) (doubled j n) (2 * doubled j n) refl ∙ ap suc (evens j k n)

-- a byte
byte : (dot : Bool) (k n : ℕ) → count_trailing_zeros (more 8 k) (mark dot + 256 * n) ≡ pick dot 7 (more 8 (count_trailing_zeros k n))
byte true k n =
    let s : 0x80 + 256 * n ≡ doubled 7 (2 * n + 1) = omega arith in
    rw s (evens 7 (suc k) (2 * n + 1) ∙ ap (more 7) (odd k n (2 * n + 1) refl))
byte false k n =
    let s : 0 + 256 * n ≡ doubled 8 n = omega arith in
    rw s (evens 8 k n)

-- eight digits a byte
abbrev digits : List ℕ → ℕ
digits [] = 0
digits (b ∷ bs) = more 8 (digits bs)

first-mark : (bs : List ℕ) → count_trailing_zeros (digits bs) (spell (marks is_dot bs)) / 8 ≡ until_dot bs
unfolding count_trailing_zeros
first-mark [] = refl
first-mark (b ∷ bs) = go (is_dot b) (first-mark bs)
  where
    go : (dot : Bool) → count_trailing_zeros (digits bs) (spell (marks is_dot bs)) / 8 ≡ until_dot bs
        → count_trailing_zeros (more 8 (digits bs)) (mark dot + 256 * spell (marks is_dot bs)) / 8 ≡ pick dot 0 (suc (until_dot bs))
    go true e = rw (byte true (digits bs) (spell (marks is_dot bs)))
    go false e = omega (arith, e, byte false (digits bs) (spell (marks is_dot bs)))

digits_are : (bs : List ℕ) → digits bs ≡ 8 * length bs
digits_are [] = refl
digits_are (b ∷ bs) = omega (arith, digits_are bs)

-- eight bytes: the first dot, by the marks
first_of_eight : (bs : List ℕ) → length bs ≡ 8 → count_trailing_zeros 64 (spell (marks is_dot bs)) / 8 ≡ until_dot bs
first_of_eight bs e =
    let d : digits bs ≡ 64 = omega (arith, e, digits_are bs) in
    rw (d) at (first-mark bs)

-- no mark, no dot; a mark, a dot
no_mark : (bs : List ℕ) → spell (marks is_dot bs) ≡ 0 → until_dot bs ≡ length bs
no_mark [] e = refl
no_mark (b ∷ bs) e = go (is_dot b) e (λ f. no_mark bs f)
  where
    go : (dot : Bool) → mark dot + 256 * spell (marks is_dot bs) ≡ 0 → (spell (marks is_dot bs) ≡ 0 → until_dot bs ≡ length bs) → pick dot 0 (suc (until_dot bs)) ≡ suc (length bs)
    go true f h = absurd (omega arith)
    go false f h = ap suc (h (omega (arith, f)))

some_mark : (bs : List ℕ) → (spell (marks is_dot bs) ≡ 0 → ⊥) → until_dot bs < length bs
some_mark [] n = absurd (n refl)
some_mark (b ∷ bs) n = go (is_dot b) n (λ f. some_mark bs f)
  where
    go : (dot : Bool) → (mark dot + 256 * spell (marks is_dot bs) ≡ 0 → ⊥) → ((spell (marks is_dot bs) ≡ 0 → ⊥) → until_dot bs < length bs) → pick dot 0 (suc (until_dot bs)) < suc (length bs)
    go true f h = omega arith
    go false f h = omega (arith, h (λ z. f (omega (arith, z))))

-- the first dot of a text by its first n bytes
until_front : (n : ℕ) (xs : List ℕ) → until_dot (take n xs) < length (take n xs) → until_dot xs ≡ until_dot (take n xs)
until_front zero xs h = absurd (omega arith)
until_front (suc n) [] h = refl
until_front (suc n) (x ∷ xs) h = go (is_dot x) h (λ k. until_front n xs k)
  where
    go : (dot : Bool) → pick dot 0 (suc (until_dot (take n xs))) < suc (length (take n xs)) → (until_dot (take n xs) < length (take n xs) → until_dot xs ≡ until_dot (take n xs))
        → pick dot 0 (suc (until_dot xs)) ≡ pick dot 0 (suc (until_dot (take n xs)))
    go true l h = refl
    go false l h = ap suc (h (omega arith))

until_behind : (n : ℕ) (xs : List ℕ) → n ≤ length xs → until_dot (take n xs) ≡ n → until_dot xs ≡ n + until_dot (drop n xs)
until_behind zero xs l e = omega arith
until_behind (suc n) [] l e = absurd (omega arith)
until_behind (suc n) (x ∷ xs) l e = go (is_dot x) e (λ k. until_behind n xs (omega arith) k)
  where
    go : (dot : Bool) → pick dot 0 (suc (until_dot (take n xs))) ≡ suc n → (until_dot (take n xs) ≡ n → until_dot xs ≡ n + until_dot (drop n xs))
        → pick dot 0 (suc (until_dot xs)) ≡ suc n + until_dot (drop n xs)
    go true f h = absurd (omega (arith, f))
    go false f h = omega (arith, h (omega (arith, f)))

-- the search in a word of a text, whose marks are m, where the words before it have no dot
module _ (text : List ℕ) (ws : List (List ℕ)) (front : ws ≡ first_chunks 8 (length text / 8) text) (many : length ws ≡ length text / 8) (i : ℕ) where
  module _ (h : i < length ws) (m : ℕ) (e : m ≡ spell (marks is_dot (get_or ws i []))) (passed : until_dot text ≡ 8 * i + until_dot (drop (8 * i) text)) where
    word : get_or ws i [] ≡ take 8 (drop (8 * i) text)
    word = word_is text ws front many i h

    marks-are : m ≡ spell (marks is_dot (take 8 (drop (8 * i) text)))
    marks-are = rw (← word) e

    eight : length (take 8 (drop (8 * i) text)) ≡ 8
    eight = word_length text ws front many i h

    -- a mark: the first dot is there
    pub dot_marked : (m ≡ 0 → ⊥) → 8 * i + count_trailing_zeros 64 m / 8 ≡ until_dot text
    dot_marked n =
        let k : count_trailing_zeros 64 m / 8 ≡ until_dot (take 8 (drop (8 * i) text)) = rw marks-are (first_of_eight (take 8 (drop (8 * i) text)) eight) in
        let u = until_front 8 (drop (8 * i) text) (some_mark (take 8 (drop (8 * i) text)) (rw (← marks-are) n)) in
        omega (arith, passed, k, u)

    -- none: it is behind them
    pub dot_unmarked : m ≡ 0 → until_dot text ≡ 8 * (i + 1) + until_dot (drop (8 * (i + 1)) text)
    dot_unmarked z =
        let k : until_dot (take 8 (drop (8 * i) text)) ≡ 8 = no_mark (take 8 (drop (8 * i) text)) (sym marks-are ∙ z) ∙ eight in
        let u = until_behind 8 (drop (8 * i) text) (word_room text ws front many i h) k in
        let d : drop 8 (drop (8 * i) text) ≡ drop (8 * (i + 1)) text = drop-drop 8 (8 * i) text ∙ ap (λ (n : ℕ). drop n text) (omega arith) in
        omega (arith, passed, u, ap until_dot d)

  -- none in any: it is in the rest
  pub dot_in_rest : (n : ℕ) → n ≡ i → i ≡ length ws → (rest : List ℕ) → rest ≡ drop (length text / 8 * 8) text → (r : ℕ) → r ≡ until_dot rest
      → until_dot text ≡ 8 * i + until_dot (drop (8 * i) text) → 8 * n + r ≡ until_dot text
  dot_in_rest n e all rest back r found passed =
      let d : length text / 8 * 8 ≡ 8 * i = omega arith in
      omega (arith, passed, found, ap until_dot (back ∙ ap (λ (k : ℕ). drop k text) d))

-- the first dot by its index, all where there is none
until_first : (bs : List ℕ) → position_or_len (λ b. b == 0x2e) bs ≡ until_dot bs
until_first [] = refl
until_first (b ∷ bs) = go (is_dot b) (until_first bs)
  where
    go : (dot : Bool) → position_or_len (λ b. b == 0x2e) bs ≡ until_dot bs → cond (not dot) (1 + position_or_len (λ b. b == 0x2e) bs) 0 ≡ pick dot 0 (suc (until_dot bs))
    go true e = refl
    go false e = omega (arith, e)

pub until_position : (bs : List ℕ) → unwrap_or (position (λ b. b == 0x2e) bs) (length bs) ≡ until_dot bs
until_position bs = go (ltb (position_or_len (λ b. b == 0x2e) bs) (length bs)) refl
  where
    go : (t : Bool) → ltb (position_or_len (λ b. b == 0x2e) bs) (length bs) ≡ t
        → unwrap_or (cond t (Some (position_or_len (λ b. b == 0x2e) bs)) None) (length bs) ≡ until_dot bs
    go true l = until_first bs
    go false l = omega (arith, ltb-false _ _ l, until_first bs, until_within bs)
