-- FNV-1a in a form that computes: `bit_xor` takes as many steps as its first argument, so the byte goes first. Assumes nothing.
use Prim.Native.Nat.{ℕ, ◌*◌, ◌%◌, ◌^◌}
use mathlib.Core.Path.{◌≡◌, refl}
use mathlib.Core.List.{List, [], ◌∷◌}
use lib.Bits.{bit_xor, xor_comm}
use Rattle.subject_rules.specs.Fnv.{fnv_from, fnv}

abbrev pub fnv_low_from : ℕ → List ℕ → ℕ
fnv_low_from h [] = h
fnv_low_from h (b ∷ bs) = fnv_low_from (bit_xor b h * 0x100000001b3 % 2 ^ 64) bs

abbrev pub fnv_low : List ℕ → ℕ
fnv_low bs = fnv_low_from 0xcbf29ce484222325 bs

pub fnv_low_from_lem : (h : ℕ) (bs : List ℕ) → fnv_from h bs ≡ fnv_low_from h bs
unfolding fnv_from
fnv_low_from_lem h [] = refl
fnv_low_from_lem h (b ∷ bs) = rw (xor_comm h b) (fnv_low_from_lem (bit_xor b h * 0x100000001b3 % 2 ^ 64) bs)

-- so an example of `fnv` is `fnv_low_lem bs` at a list of numerals
pub fnv_low_lem : (bs : List ℕ) → fnv bs ≡ fnv_low bs
unfolding fnv
fnv_low_lem bs = fnv_low_from_lem 0xcbf29ce484222325 bs

-- three of the test vectors of FNV-1a's authors: "", "a", "foobar"
vector_0 : fnv [] ≡ 0xcbf29ce484222325
vector_0 = fnv_low_lem []

vector_1 : fnv (0x61 ∷ []) ≡ 0xaf63dc4c8601ec8c
vector_1 = fnv_low_lem (0x61 ∷ [])

vector_6 : fnv (0x66 ∷ 0x6f ∷ 0x6f ∷ 0x62 ∷ 0x61 ∷ 0x72 ∷ []) ≡ 0x85944171f73967e8
vector_6 = fnv_low_lem (0x66 ∷ 0x6f ∷ 0x6f ∷ 0x62 ∷ 0x61 ∷ 0x72 ∷ [])
