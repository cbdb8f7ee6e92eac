-- Parts of lists: one element more behind those searched, and a part of a list's first elements.
use Rattle.std.proofs.Common.{◌≡◌, ℕ, zero, suc, ◌+◌, ◌≤◌, Bool, true, false, eqb, List, [], ◌∷◌, ◌++◌, take, refl, take-take, arith}
use Rattle.subject_rules.specs.Choice.{or}
use Rattle.subject_rules.proofs.Booleans.{or_false}
use Rattle.sublist_walk_rules.specs.Walk.{part, among}

pub among_snoc : (j : ℕ) (xs : List ℕ) (x : ℕ) → among j (xs ++ (x ∷ [])) ≡ or (among j xs) (eqb j x)
among_snoc j [] x = or_false (eqb j x)
among_snoc j (y ∷ xs) x = go (eqb j y) (among_snoc j xs x)
  where
    go : (b : Bool) → among j (xs ++ (x ∷ [])) ≡ or (among j xs) (eqb j x) → or b (among j (xs ++ (x ∷ []))) ≡ or (or b (among j xs)) (eqb j x)
    go true e = refl
    go false e = e

-- a part of a list's first m elements
pub part-take : (m : ℕ) (xs : List ℕ) (from count : ℕ) → from + count ≤ m → part (take m xs) from count ≡ part xs from count
part-take m xs zero count h = take-take count m xs (omega arith)
part-take zero xs (suc from) count h = absurd (omega arith)
part-take (suc m) [] (suc from) count h = refl
part-take (suc m) (x ∷ xs) (suc from) count h = part-take m xs from count (omega arith)
