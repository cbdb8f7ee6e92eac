-- The search of a frontier, as its loop goes.
use Rattle.std.proofs.Common.{◌≡◌, ℕ, ◌+◌, ◌<◌, eqb, List, length, get_or, take, sym, add-one, arith}
use mathlib.Core.Bool.{◌||◌}
use lib.Seq.{take-suc}
use Rattle.std.proofs.lemmas.Bool.Decides.{nat_tests}
use Rattle.subject_rules.proofs.Booleans.{or_same}
use Rattle.sublist_walk_rules.specs.Walk.{among}
use Rattle.sublist_walk_rules.proofs.Parts.{among_snoc}

eqb_either : (x y : ℕ) → eqb x y ≡ eqb y x
eqb_either x y = grind (arith, nat_tests)

-- one node more
pub among_more : (j : ℕ) (l : List ℕ) (i : ℕ) → i < length l → among j (take (i + 1) l) ≡ (among j (take i l) || eqb (get_or l i 0) j)
among_more j l i h =
    rw (add-one i, take-suc l i 0 h, among_snoc j (take i l) (get_or l i 0), eqb_either j (get_or l i 0)) (sym (or_same (among j (take i l)) (eqb (get_or l i 0) j)))
