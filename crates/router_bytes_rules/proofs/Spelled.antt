-- Laws of numbers and the bytes that spell them, over the width.
use Rattle.std.proofs.Common.{◌≡◌, ℕ, zero, suc, ◌+◌, ◌*◌, ◌/◌, ◌%◌, ◌^◌, ◌<◌, List, [], ◌∷◌, length, drop, map, refl, ap, ◌∙◌, arith, length-append}
use Rattle.std.proofs.Math.Nat.{pow-suc, suc-mul, div-lt_iff_lt-mul}
use Rattle.std.proofs.lemmas.List.{length-map, take_at, drop_at}
use Rattle.std.specs.Simd.{first_chunks}
use Rattle.router_bytes_rules.specs.Bytes.{spelled, spelling, numbers_in, bytes_of}

pub length-first_chunks : {X : Type 0} (n k : ℕ) (xs : List X) → length (first_chunks n k xs) ≡ k
length-first_chunks n zero xs = refl
length-first_chunks n (suc k) xs = ap suc (length-first_chunks n k (drop n xs))

pub length-numbers_in : (width : ℕ) (bytes : List ℕ) → length (numbers_in width bytes) ≡ length bytes / width
length-numbers_in width bytes =
    length-map (first_chunks width (length bytes / width) bytes) spelled
    ∙ length-first_chunks width (length bytes / width) bytes

pub length-spelling : (width n : ℕ) → length (spelling width n) ≡ width
length-spelling zero n = refl
length-spelling (suc width) n = ap suc (length-spelling width (n / 256))

pub length-bytes_of : (width : ℕ) (ns : List ℕ) → length (bytes_of width ns) ≡ length ns * width
length-bytes_of width [] = omega arith
length-bytes_of width (n ∷ ns) =
    length-append (spelling width n) (bytes_of width ns)
    ∙ omega (arith, length-spelling width n, length-bytes_of width ns, suc-mul (length ns) width)

-- the parts of the bytes of numbers are the bytes of each
pub first_chunks-bytes_of : (width : ℕ) (ns : List ℕ) → first_chunks width (length ns) (bytes_of width ns) ≡ map (spelling width) ns
first_chunks-bytes_of width [] = refl
first_chunks-bytes_of width (n ∷ ns) =
    rw (take_at (spelling width n) (bytes_of width ns) width (length-spelling width n), drop_at (spelling width n) (bytes_of width ns) width (length-spelling width n), first_chunks-bytes_of width ns)

-- a number is what its bytes spell
pub spelled-spelling : (width n : ℕ) → n < 256 ^ width → spelled (spelling width n) ≡ n
spelled-spelling zero n h = omega arith
spelled-spelling (suc width) n h =
    let rest : n / 256 < 256 ^ width = (div-lt_iff_lt-mul {k = 256} {x = n} {y = 256 ^ width} (omega arith)).1 (rw pow-suc at h) in
    ap (λ (k : ℕ). n % 256 + k * 256) (spelled-spelling width (n / 256) rest) ∙ omega arith
