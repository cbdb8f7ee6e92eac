-- The words of a text, each of eight bytes.
use Rattle.std.proofs.Common.{◌≡◌, ℕ, zero, suc, ◌+◌, ◌*◌, ◌/◌, ◌<◌, ◌≤◌, List, [], length, get_or, take, drop, refl, ap, ◌∙◌, arith, length-drop, length-take, drop-drop}
use Rattle.std.specs.Simd.{first_chunks}

chunk_at : (i k at : ℕ) (xs : List ℕ) → at ≡ 8 * i → i < k → get_or (first_chunks 8 k xs) i [] ≡ take 8 (drop at xs)
chunk_at i zero at xs e h = absurd (omega arith)
chunk_at zero (suc k) at xs e h =
    let z : 0 ≡ at = omega (arith, e) in
    ap (λ (n : ℕ). take 8 (drop n xs)) z
chunk_at (suc i) (suc k) at xs e h =
    let z : 8 + 8 * i ≡ at = omega (arith, e) in
    chunk_at i k (8 * i) (drop 8 xs) refl (omega arith) ∙ ap (take 8) (drop-drop (8 * i) 8 xs ∙ ap (λ (n : ℕ). drop n xs) z)

module _ (text : List ℕ) (ws : List (List ℕ)) (front : ws ≡ first_chunks 8 (length text / 8) text) (many : length ws ≡ length text / 8) (i : ℕ) (h : i < length ws) where
  pub word_is : get_or ws i [] ≡ take 8 (drop (8 * i) text)
  word_is = ap (λ (l : List (List ℕ)). get_or l i []) front ∙ chunk_at i (length text / 8) (8 * i) text refl (omega arith)

  pub word_room : 8 ≤ length (drop (8 * i) text)
  word_room = omega (arith, length-drop (8 * i) text)

  pub word_length : length (take 8 (drop (8 * i) text)) ≡ 8
  word_length = omega (arith, length-take 8 (drop (8 * i) text), word_room)
