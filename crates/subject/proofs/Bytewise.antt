-- Operations on words that are operations on their bytes, and tests of all bytes by computing.
use Rattle.std.proofs.Common.{◌≡◌, ℕ, zero, suc, ◌+◌, ◌*◌, ◌^◌, ◌<◌, Bool, true, false, eqb, List, [], ◌∷◌, map, refl, ap, ◌∙◌, arith, eqb-true}
use borrow.Author.Tests.{eqb-false}
use Rattle.subject_rules.specs.Choice.{and}
use Rattle.subject.specs.Words.{spell}

-- each is a byte
abbrev pub Bytes : List ℕ → Type 0
Bytes [] = Unit {0}
Bytes (b ∷ bs) = (b < 256) × Bytes bs

-- each byte gives a byte
abbrev pub Small : (ℕ → ℕ) → Type 0
Small f = (b : ℕ) → b < 256 → f b < 256

-- an operation on numbers that is one on their digits is one on the bytes that they spell
module _ (op : ℕ → ℕ → ℕ) (block : (k a b r s : ℕ) → r < 2 ^ k → s < 2 ^ k → op (a * 2 ^ k + r) (b * 2 ^ k + s) ≡ op a b * 2 ^ k + op r s) (none : op 0 0 ≡ 0) where
  pub digit : (x y m n : ℕ) → x < 256 → y < 256 → op (x + 256 * m) (y + 256 * n) ≡ op x y + 256 * op m n
  digit x y m n p q =
      let u : m * 2 ^ 8 + x ≡ x + 256 * m = omega arith in
      let v : n * 2 ^ 8 + y ≡ y + 256 * n = omega arith in
      let z : op m n * 2 ^ 8 + op x y ≡ op x y + 256 * op m n = omega arith in
      rw (← u, ← v, ← z) (block 8 m n x y p q)

  pub bytewise : (f g : ℕ → ℕ) (bs : List ℕ) → Bytes bs → Small f → Small g → op (spell (map f bs)) (spell (map g bs)) ≡ spell (map (λ b. op (f b) (g b)) bs)
  bytewise f g [] p s t = none
  bytewise f g (b ∷ bs) p s t =
      digit (f b) (g b) (spell (map f bs)) (spell (map g bs)) (s b p.0) (t b p.0)
      ∙ ap (λ (n : ℕ). op (f b) (g b) + 256 * n) (bytewise f g bs p.1 s t)

-- sums are byte by byte where none carries, and as numbers always
pub sums : (f g : ℕ → ℕ) (bs : List ℕ) → spell (map f bs) + spell (map g bs) ≡ spell (map (λ b. f b + g b) bs)
sums f g [] = refl
sums f g (b ∷ bs) = omega (arith, sums f g bs)

-- a test of all numbers below n, by computing
abbrev pub up_to : ℕ → (ℕ → Bool) → Bool
up_to zero test = true
up_to (suc n) test = and (test n) (up_to n test)

pub tested : (n : ℕ) (test : ℕ → Bool) → up_to n test ≡ true → (b : ℕ) → b < n → test b ≡ true
tested zero test e b h = absurd (omega arith)
tested (suc n) test e b h = go (test n) refl (eqb b n) refl e (λ k l. tested n test k b l)
  where
    go : (t : Bool) → test n ≡ t → (u : Bool) → eqb b n ≡ u → and t (up_to n test) ≡ true → (up_to n test ≡ true → b < n → test b ≡ true) → test b ≡ true
    go true f true g k more = rw (eqb-true b n g) f
    go true f false g k more = more k (omega (arith, eqb-false b n g, h))
    go false f u g k more = let y : true ≡ false = cc in cc
