-- What a call gives, by its three cases.
use Prim.Native.Nat.{ℕ, ◌+◌, ◌≤◌, ◌<◌}
use mathlib.Core.Path.{◌≡◌}
use mathlib.Core.Bool.{Bool}
use mathlib.Core.List.{List, [], ◌∷◌}
use lib.ListN.{length}
use borrow.Author.Tests.{eq-eqb, ne_eqb, lt-ltb, le-ltb}
use Rattle.subject_rules.specs.Text.{tokens}
use Rattle.subject_rules.specs.Answers.{answer}
use Rattle.subject_rules.specs.Outputs.{over}
use Rattle.load_maker_rules.specs.Xorshift.{draws}
use Rattle.load_maker_rules.specs.Load.{made_text, new_state, made, make}
use Rattle.load_maker_rules.proofs.Making.{made-count}

-- the new state is that behind a draw for the count and one for each token
state_new : (wild : Bool) (s : ℕ) → new_state s ≡ draws (1 + length (tokens (made_text wild s))) s
unfolding new_state
state_new wild s = rw (made-count wild s)

module _ (wild : Bool) (s : ℕ) (out : List ℕ) where
  pub zero_says : s ≡ 0 → make wild s out ≡ made (answer 28 []) s out
  unfolding make
  zero_says z = rw (eq-eqb s 0 z)

  pub short-says : (s ≡ 0 → ⊥) → length out < length (made_text wild s) → make wild s out ≡ made (answer 21 (length (made_text wild s) ∷ [])) s out
  unfolding make
  short-says n l = rw (ne_eqb s 0 n, lt-ltb (length out) (length (made_text wild s)) l)

  pub makes-says : (s ≡ 0 → ⊥) → length (made_text wild s) ≤ length out
      → make wild s out ≡ made (answer 0 (length (made_text wild s) ∷ [])) (draws (1 + length (tokens (made_text wild s))) s) (over (made_text wild s) out)
  unfolding make
  makes-says n l = rw (ne_eqb s 0 n, le-ltb (length out) (length (made_text wild s)) l, state_new wild s)
