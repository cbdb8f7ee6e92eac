-- A token without an offending character.
use Rattle.std.proofs.Common.{◌≡◌, ◌||◌, ℕ, Bool, true, false, nat_eq, nat_lt, List, [], ◌∷◌, fold, refl, sym, ◌∙◌, true≢false}
use Rattle.std.proofs.Math.Option.{none, some}
use Rattle.subject_rules.specs.Choice.{pick, or}
use Rattle.subject_rules.specs.Answers.{answer}
use Rattle.subject_rules.specs.Grammar.{first_of, bad_chars}

abbrev pub any_bad : Bool → ℕ → Bool
any_bad any b = (((any || nat_lt b 0x20) || nat_eq b 0x7f) || nat_eq b 0x2a) || nat_eq b 0x3e

stays : (bs : List ℕ) → fold any_bad true bs ≡ true
stays [] = refl
stays (b ∷ bs) = stays bs

pub none_bad : (bs : List ℕ) (index : ℕ) → fold any_bad false bs ≡ false → bad_chars index bs ≡ none
none_bad [] index e = refl
none_bad (b ∷ bs) index e = go (nat_lt b 0x20) (nat_eq b 0x7f) (nat_eq b 0x2a) (nat_eq b 0x3e) (λ f. none_bad bs index f) e
  where
    go : (low delete star tail : Bool) → (fold any_bad false bs ≡ false → bad_chars index bs ≡ none) → fold any_bad ((((false || low) || delete) || star) || tail) bs ≡ false
        → first_of (pick (or low delete) (some (answer 8 (b ∷ index ∷ []))) (pick (or star tail) (some (answer 9 (b ∷ index ∷ []))) none)) (bad_chars index bs) ≡ none
    go true d s t r f = absurd (true≢false (sym (stays bs) ∙ f))
    go false true s t r f = absurd (true≢false (sym (stays bs) ∙ f))
    go false false true t r f = absurd (true≢false (sym (stays bs) ∙ f))
    go false false false true r f = absurd (true≢false (sym (stays bs) ∙ f))
    go false false false false r f = r f
