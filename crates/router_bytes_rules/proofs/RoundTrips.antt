-- The round trips, over the width: numbers to bytes and back, and the bytes of a number and back.
use Rattle.std.proofs.Common.{◌≡◌, ℕ, suc, ◌+◌, ◌*◌, ◌/◌, ◌%◌, ◌^◌, ◌<◌, List, [], ◌∷◌, length, get_or, map, refl, ap, ◌∙◌, arith}
use Rattle.std.proofs.Math.Nat.{mul-div_cancel}
use Rattle.std.specs.Simd.{first_chunks}
use Rattle.router_bytes_rules.specs.Bytes.{spelled, spelling, numbers_in, bytes_of}
use Rattle.router_bytes_rules.proofs.Spelled.{length-bytes_of, first_chunks-bytes_of, spelled-spelling}

-- bytes are those of the number that they spell
pub spelling-spelled : (bs : List ℕ) → ((k : ℕ) → get_or bs k 0 < 256) → spelling (length bs) (spelled bs) ≡ bs
spelling-spelled [] small = refl
spelling-spelled (b ∷ bs) small =
    let h : b < 256 = small 0 in
    let low : (b + spelled bs * 256) % 256 ≡ b = omega arith in
    let high : (b + spelled bs * 256) / 256 ≡ spelled bs = omega arith in
    ap (λ (k : ℕ). k ∷ spelling (length bs) ((b + spelled bs * 256) / 256)) low
    ∙ ap (λ (k : ℕ). b ∷ spelling (length bs) k) high
    ∙ ap (λ (l : List ℕ). b ∷ l) (spelling-spelled bs (λ k. small (suc k)))

module _ (width : ℕ) where
  each : (ns : List ℕ) → ((k : ℕ) → get_or ns k 0 < 256 ^ width) → map spelled (map (spelling width) ns) ≡ ns
  each [] small = refl
  each (n ∷ ns) small = rw (spelled-spelling width n (small 0), each ns (λ k. small (suc k)))

  -- numbers to bytes and back
  pub round_trip : 0 < width → (ns : List ℕ) → ((k : ℕ) → get_or ns k 0 < 256 ^ width) → numbers_in width (bytes_of width ns) ≡ ns
  round_trip pos ns small =
      let count : length (bytes_of width ns) / width ≡ length ns = ap (λ (k : ℕ). k / width) (length-bytes_of width ns) ∙ mul-div_cancel (length ns) pos in
      ap (λ (k : ℕ). map spelled (first_chunks width k (bytes_of width ns))) count
      ∙ ap (map spelled) (first_chunks-bytes_of width ns)
      ∙ each ns small
