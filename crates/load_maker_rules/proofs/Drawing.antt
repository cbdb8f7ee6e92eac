-- A draw from a state that is not 0 is not 0, and fits in 64 bits.
use Prim.Native.Nat.{ℕ, ◌^◌, ◌<◌}
use mathlib.Core.Path.{◌≡◌}
use Rattle.load_maker_rules.specs.Xorshift.{draw}
use Rattle.load_maker_rules.proofs.Shifts.{left-fits, first-fits, right-fits, left_13, right_7, left_17}

pub draw-fits : (s : ℕ) → s < 2 ^ 64 → draw s < 2 ^ 64
unfolding draw
draw-fits s h = left-fits 17 _ (right-fits _ (first-fits s h))

pub draw_zero : (s : ℕ) → s < 2 ^ 64 → draw s ≡ 0 → s ≡ 0
unfolding draw
draw_zero s h e = left_13 s h (right_7 _ (left_17 _ (right-fits _ (first-fits s h)) e))
