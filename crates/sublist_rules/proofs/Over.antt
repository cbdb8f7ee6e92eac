-- 16 by the worst case.
use Prim.Native.Nat.{ℕ, ◌≤◌, ◌<◌}
use native.Mathlib.Omega.{arith}
use mathlib.Core.Path.{◌≡◌}
use mathlib.Core.Bool.{true, false}
use borrow.Author.Tests.{lt-ltb, le-ltb, ltb-false}
use Rattle.sublist_rules.specs.Building.{over_limit}

pub over : (w : ℕ) → 1024 < w → over_limit w ≡ true
over w l = lt-ltb 1024 w l

pub within : (w : ℕ) → w ≤ 1024 → over_limit w ≡ false
within w l = le-ltb 1024 w l

pub not_over : (w : ℕ) → over_limit w ≡ false → w ≤ 1024
not_over w e = omega (arith, ltb-false 1024 w e)
