-- The call `crossing` says that there is none exactly where there is none.
use Prim.Native.Nat.{ℕ}
use mathlib.Core.Path.{◌≡◌, refl, sym}
use mathlib.Core.List.{List, [], ◌∷◌}
use mathlib.Core.Logic.{◌↔◌}
use Rattle.subject_rules.specs.Answers.{answer}
use Rattle.subject_rules.specs.Outputs.{Outcome, outcome}
use Rattle.crossing_rules.specs.Crossing.{crossing}
use Rattle.crossing_rules.specs.Asked.{Apart, Accepts, Asked, first_refused, second_refused, apart, out_short, shown}
use Rattle.crossing_rules.proofs.Exactly.{crossing-asked, crossing-only}

module _ (first second out : List ℕ) where
  -- none is said exactly if no accepted subject matches both
  pub none_exactly : Accepts first → Accepts second → (crossing first second out ≡ outcome (answer 0 (0 ∷ [])) out) ↔ Apart first second
  none_exactly f s = (said-apart (crossing-asked first second out), λ n. sym (crossing-only first second out _ (apart f s n refl)))
    where
      said-apart : {filler : List ℕ} {o : Outcome} → Asked filler first second out o → o ≡ outcome (answer 0 (0 ∷ [])) out → Apart first second
      said-apart (first_refused a r e) h = absurd (cc r.refusal)
      said-apart (second_refused a f r e) h = absurd (cc r.refusal)
      said-apart (apart f s n e) h = n
      said-apart (out_short t f s w l e) h = absurd (cc)
      said-apart (shown t f s w l e) h = absurd (cc)
