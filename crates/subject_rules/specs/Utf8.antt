-- UTF-8, by the table of well-formed sequences in RFC 3629, section 4.
use Rattle.std.specs.Prelude.{ℕ, zero, suc, ◌+◌, ◌-◌, Bool, true, false, List, [], ◌∷◌, eqb, leb, length}
use Rattle.std.proofs.Math.Option.{Option, none, some}
use Rattle.subject_rules.specs.Choice.{pick, and}

-- the bytes from low to high
pub data Range : Type 0 where
  range : ℕ → ℕ → Range

abbrev pub within : Range → ℕ → Bool
within (range low high) b = and (leb low b) (leb b high)

-- UTF8-tail
abbrev pub tail : Range
tail = range 0x80 0xbf

-- UTF8-1, UTF8-2, then the four lines of UTF8-3 and the three of UTF8-4
abbrev pub well_formed : List (List Range)
well_formed =
    (range 0x00 0x7f ∷ [])
    ∷ (range 0xc2 0xdf ∷ tail ∷ [])
    ∷ (range 0xe0 0xe0 ∷ range 0xa0 0xbf ∷ tail ∷ [])
    ∷ (range 0xe1 0xec ∷ tail ∷ tail ∷ [])
    ∷ (range 0xed 0xed ∷ range 0x80 0x9f ∷ tail ∷ [])
    ∷ (range 0xee 0xef ∷ tail ∷ tail ∷ [])
    ∷ (range 0xf0 0xf0 ∷ range 0x90 0xbf ∷ tail ∷ tail ∷ [])
    ∷ (range 0xf1 0xf3 ∷ tail ∷ tail ∷ tail ∷ [])
    ∷ (range 0xf4 0xf4 ∷ range 0x80 0x8f ∷ tail ∷ tail ∷ [])
    ∷ []

-- the bytes begin with one byte of each range
abbrev pub begins : List Range → List ℕ → Bool
begins [] bs = true
begins (r ∷ rs) [] = false
begins (r ∷ rs) (b ∷ bs) = and (within r b) (begins rs bs)

-- the length of the first line of the table that the bytes begin with, 0 if they begin with none
abbrev pub length_in : List (List Range) → List ℕ → ℕ
length_in [] bs = 0
length_in (row ∷ rows) bs = pick (begins row bs) (length row) (length_in rows bs)

-- the length of the well-formed sequence that the bytes begin with, 0 if there is none
unfoldable pub sequence : List ℕ → ℕ
sequence bs = length_in well_formed bs

-- from index `at` on, past the bytes still to skip: the first index where a sequence should start and none does
abbrev pub scan : ℕ → ℕ → List ℕ → Option ℕ
scan skip at [] = none
scan (suc skip) at (b ∷ bs) = scan skip (at + 1) bs
scan zero at (b ∷ bs) = pick (eqb (sequence (b ∷ bs)) 0) (some at) (scan (sequence (b ∷ bs) - 1) (at + 1) bs)

-- the first byte index where a well-formed sequence should start and none does
unfoldable pub first_bad : List ℕ → Option ℕ
first_bad bs = scan 0 0 bs
