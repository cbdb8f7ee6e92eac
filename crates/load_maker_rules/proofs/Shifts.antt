-- Each of the three steps of a draw fits in 64 bits, and makes 0 of 0 alone.
use Prim.Native.Nat.{ℕ, ◌+◌, ◌-◌, ◌*◌, ◌/◌, ◌%◌, ◌^◌, ◌<◌}
use native.Mathlib.Omega.{arith}
use native.Mathlib.Nat.{mod-lt}
use mathlib.Core.Path.{◌≡◌}
use lib.Bits.{bit_xor, xor_lt, xor_add_and, and_le_l, and_le_r}
use Rattle.load_maker_rules.specs.Xorshift.{left, right}

-- two numbers of which no bit differs are equal
same_bits : (a b : ℕ) → bit_xor a b ≡ 0 → a ≡ b
same_bits a b e = omega (arith, xor_add_and a b, and_le_l a b, and_le_r a b, e)

-- each of the three steps keeps a state in 64 bits
pub left-fits : (bits s : ℕ) → s < 2 ^ 64 → left bits s < 2 ^ 64
left-fits bits s h = xor_lt 64 s (s * 2 ^ bits % 2 ^ 64) h (mod-lt (s * 2 ^ bits) (omega arith))

pub first-fits : (s : ℕ) → s < 2 ^ 64 → left 13 s < 2 ^ 64
first-fits s h = left-fits 13 s h

pub right-fits : (s : ℕ) → s < 2 ^ 64 → right 7 s < 2 ^ 64
right-fits s h = xor_lt 64 s (s / 2 ^ 7) h (omega arith)

-- a multiple of 2^64 below it
no_multiple : (s k : ℕ) → s < 2 ^ 64 → s ≡ 2 ^ 64 * k → s ≡ 0
no_multiple s k h e = omega arith

-- and makes 0 of 0 alone. Where s shifted left is s again, modulo 2^64, s · (2^bits - 1) is q · 2^64 for some q; as that
-- factor is odd, s is a multiple of 2^64
pub left_13 : (s : ℕ) → s < 2 ^ 64 → left 13 s ≡ 0 → s ≡ 0
left_13 s h e =
    let same = same_bits s (s * 2 ^ 13 % 2 ^ 64) e in
    let q : ℕ = s * 2 ^ 13 / 2 ^ 64 in
    let split : q * 2 ^ 64 + s ≡ s * 2 ^ 13 = omega arith in
    no_multiple s (2 * s - 4504149450301441 * q) h (omega arith)

pub right_7 : (s : ℕ) → right 7 s ≡ 0 → s ≡ 0
right_7 s e = let same = same_bits s (s / 2 ^ 7) e in omega arith

pub left_17 : (s : ℕ) → s < 2 ^ 64 → left 17 s ≡ 0 → s ≡ 0
left_17 s h e =
    let same = same_bits s (s * 2 ^ 17 % 2 ^ 64) e in
    let q : ℕ = s * 2 ^ 17 / 2 ^ 64 in
    let split : q * 2 ^ 64 + s ≡ s * 2 ^ 17 = omega arith in
    no_multiple s (16 * s - 2251816993685505 * q) h (omega arith)
