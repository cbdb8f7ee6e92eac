-- What the first pass and the rest make of a build.
use Rattle.std.proofs.Common.{◌≡◌, ℕ, List, refl, Err, ◌∙◌}
use Rattle.std.proofs.Math.Option.{none, some}
use Rattle.sublist_entries.specs.declared.Entry.{Entry}
use Rattle.sublist_rules.specs.Building.{needed}
use Rattle.sublist_rules.specs.Passes.{End, Growth, growth, stopped}
use Rattle.sublist_rules.specs.Leaving.{BuildOutcome, build_into}
use Rattle.sublist_rules.specs.Core.{list_refused, all_in, finish_by, built_by, leaves_by}
use Rattle.sublist_rules.proofs.Composed.{core_builds}
use Rattle.sublist.specs.declared.SublistError.{SublistError}
use Rattle.sublist.specs.declared.SublistError.TheVariants.{NodesFull}
use Rattle.sublist.specs.Answers.{build_refusal, built}

-- a build that is refused for its list, and one that is not
module _ (es : List Entry) (store a ts : List ℕ) (generation : ℕ) where
  pub bad_list : (e : SublistError) → some (build_refusal e) ≡ list_refused es store → built (Err e) a ts ≡ build_into es store a ts generation
  unfolding built_by leaves_by
  bad_list e h = rw (← core_builds es store a ts generation, ← h)

  module _ (ok : none ≡ list_refused es store) (xs : List Entry) (st : List ℕ) (same : (xs ≡ es) × (st ≡ store)) where
    good_list : (need : ℕ) → need ≡ needed st xs → (g : Growth) → g ≡ all_in xs st a → finish_by xs need ts generation g ≡ build_into es store a ts generation
    unfolding built_by leaves_by
    good_list need n g s = rw (← core_builds es store a ts generation, ← ok, n, s, same.0, same.1)

    pub no_room : (b : List ℕ) → stopped b ≡ all_in xs st a → (need : ℕ) → need ≡ needed st xs → built (Err (NodesFull need)) b ts ≡ build_into es store a ts generation
    no_room b s need n = good_list need n (stopped b) s

    pub all_in_then : (n : ℕ) (b : List ℕ) (ends : List End) → growth n b ends ≡ all_in xs st a → (o : BuildOutcome) → o ≡ finish_by xs 0 ts generation (growth n b ends)
        → o ≡ build_into es store a ts generation
    all_in_then n b ends s o e = e ∙ good_list (needed st xs) refl (growth n b ends) s
