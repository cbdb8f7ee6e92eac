-- Runs of stores into a list, and reads of zeros.
use Prim.Native.Nat.{ℕ, zero, suc, ◌+◌, ◌≤◌}
use native.Mathlib.Nat.{zero-add, add-suc, suc-add, add-zero}
use native.Mathlib.Omega.{arith}
use mathlib.Core.Path.{◌≡◌, refl}
use mathlib.Core.List.{List, [], ◌∷◌, ◌++◌}
use lib.ListN.{length, get_or, set, replicate}
use lib.Seq.{set_out, sets, sets-eq}
use Rattle.subject_rules.specs.Outputs.{over}

-- a run outside the list changes nothing
pub sets-out : (l : List ℕ) (at : ℕ) (vs : List ℕ) → length l ≤ at → sets l at vs ≡ l
sets-out l at [] h = refl
sets-out l at (v ∷ vs) h = rw (set_out l at v h) (sets-out l (suc at) vs (omega arith))

-- two runs, one behind the other
pub sets-append : (l : List ℕ) (at : ℕ) (us vs : List ℕ) → sets l at (us ++ vs) ≡ sets (sets l at us) (at + length us) vs
sets-append l at [] vs = rw (add-zero at)
sets-append l at (u ∷ us) vs = rw (add-suc at (length us), ← suc-add at (length us)) (sets-append (set l at u) (suc at) us vs)

-- a run from the first place on, within the list
pub sets_over : (vs l : List ℕ) → length vs ≤ length l → sets l 0 vs ≡ over vs l
sets_over vs l h = rw zero-add at (sets-eq vs l 0 (omega arith))

-- zeros, and what lies behind them
pub zeros : (n k : ℕ) → get_or {A = ℕ} (replicate n 0) k 0 ≡ 0
zeros zero k = refl
zeros (suc n) zero = refl
zeros (suc n) (suc k) = zeros n k
