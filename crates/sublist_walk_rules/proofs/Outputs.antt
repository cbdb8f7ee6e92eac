-- What a match leaves in its output, by its answer: a refusal leaves it, an accepted match writes its list over the first places. Of any table.
use Prim.Native.Nat.{ℕ, zero, suc}
use mathlib.Core.Path.{◌≡◌, refl, sym, ap}
use mathlib.Core.Bool.{Bool, true, false}
use mathlib.Core.List.{List, [], ◌∷◌, map}
use lib.Dec.{ltb}
use lib.ListN.{length, take, drop, get_or}
use lib.Seq.{take-append_seam}
use Rattle.subject_rules.specs.Choice.{pick}
use Rattle.subject_rules.specs.Text.{tokens}
use Rattle.subject_rules.specs.Fnv.{fnv}
use Rattle.subject_rules.specs.Answers.{Answer, answer}
use Rattle.subject_rules.specs.Grammar.{grammar}
use Rattle.sublist_walk_rules.specs.Walk.{Walked, found, failed, walk_over}
use Rattle.subject_rules.specs.Outputs.{over, Outcome, outcome, if_parsed}
use Rattle.sublist_walk_rules.specs.Matching.{counts_fit, written, match_table}

-- the first value is the list's length
abbrev pub Leaves : List ℕ → Outcome → Type 0
Leaves out (outcome (answer zero values) after) = after ≡ over (take (get_or values 0 0) after) out
Leaves out (outcome (answer (suc n) values) after) = after ≡ out

pub match_leaves : (n m : ℕ) (a ts subject out : List ℕ) → Leaves out (match_table n m a ts subject out)
unfolding match_table
match_leaves n m a ts subject out = go (grammar false subject) (counts_fit n m a ts) (walk_over 1024 a n m ts (map fnv (tokens subject)))
  where
    fits : (b : Bool) (list : List ℕ) (peak : ℕ) → Leaves out (pick b (outcome (answer 21 (length list ∷ [])) out) (outcome (answer 0 (length list ∷ peak ∷ [])) (over list out)))
    fits true list peak = refl
    fits false list peak = ap (λ (l : List ℕ). over l out) (sym (take-append_seam list (drop (length list) out)))

    go : (g : Answer) (b : Bool) (w : Walked) → Leaves out (if_parsed g out (pick b (written w out) (outcome (answer 19 []) out)))
    go (answer (suc k) values) b w = refl
    go (answer zero values) false w = refl
    go (answer zero values) true (failed f) = refl
    go (answer zero values) true (found list peak) = fits (ltb (length out) (length list)) list peak
