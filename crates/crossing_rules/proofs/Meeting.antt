-- The token that two have in common, neither of them `>`.
use Prim.Native.Nat.{ℕ}
use mathlib.Core.Path.{◌≡◌, refl}
use mathlib.Core.Bool.{Bool, true, false}
use mathlib.Core.List.{List}
use mathlib.Core.Option.{Option, none, some}
use Rattle.subject_rules.specs.Choice.{pick, or}
use Rattle.subject_rules.specs.Text.{is_star, is_tail, same}
use Rattle.subject_rules.proofs.Booleans.{or_false}
use Rattle.crossing_rules.specs.Crossing.{is_wild, meet}

pub wild_star : (t : List ℕ) → is_tail t ≡ false → is_wild t ≡ is_star t
wild_star t n = rw n (or_false (is_star t))

-- the token of two, neither of them `>`: by the ways through `meet`
module _ (filler p q : List ℕ) (pn : is_tail p ≡ false) (qn : is_tail q ≡ false) (P : Option (List ℕ) → Type 0) where
  pub by_meeting : (is_star p ≡ true → is_star q ≡ true → P (some filler))
      → (is_star p ≡ true → is_star q ≡ false → P (some q))
      → (is_star p ≡ false → is_star q ≡ true → P (some p))
      → (is_star p ≡ false → is_star q ≡ false → same p q ≡ true → P (some p))
      → (is_star p ≡ false → is_star q ≡ false → same p q ≡ false → P none)
      → P (meet filler p q)
  by_meeting v w x y z = rw (wild_star q qn) (go (is_star p) refl (is_star q) refl (same p q) refl)
    where
      go : (a : Bool) → is_star p ≡ a → (b : Bool) → is_star q ≡ b → (c : Bool) → same p q ≡ c → P (pick a (some (pick b filler q)) (pick (or b c) (some p) none))
      go true e true f c g = v e f
      go true e false f c g = w e f
      go false e true f c g = x e f
      go false e false f true g = y e f g
      go false e false f false g = z e f g
