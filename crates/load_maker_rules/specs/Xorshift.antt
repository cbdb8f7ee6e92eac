-- Marsaglia's xorshift on 64 bits. A draw steps the state and returns the new one.
use Rattle.std.specs.Prelude.{ℕ, zero, suc, ◌*◌, ◌/◌, ◌%◌, ◌^◌}
use Rattle.std.specs.Int.Bits.{bit_xor}

-- the state, exclusive-or itself shifted left by so many bits: those above 64 are lost
abbrev pub left : ℕ → ℕ → ℕ
left bits s = bit_xor s (s * 2 ^ bits % 2 ^ 64)

-- and shifted right
abbrev pub right : ℕ → ℕ → ℕ
right bits s = bit_xor s (s / 2 ^ bits)

-- "shifts left 13, right 7, left 17"
unfoldable pub draw : ℕ → ℕ
draw s = left 17 (right 7 (left 13 s))

-- the state after so many draws
abbrev pub draws : ℕ → ℕ → ℕ
draws zero s = s
draws (suc n) s = draws n (draw s)
