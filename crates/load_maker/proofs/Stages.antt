-- What a call gives from a state that is not 0, by the first draw from it.
use Rattle.std.proofs.Common.{◌≡◌, ℕ, suc, ◌+◌, ◌-◌, ◌*◌, ◌%◌, ◌≤◌, ◌<◌, Bool, List, [], ◌∷◌, length, sym, arith}
use Rattle.std.proofs.lemmas.List.Edits.{sets}
use Rattle.subject_rules.specs.Text.{tokens, joined}
use Rattle.subject_rules.specs.Answers.{answer}
use Rattle.subject_rules.proofs.Stores.{sets_over}
use Rattle.load_maker_rules.specs.Xorshift.{draw, draws}
use Rattle.load_maker_rules.specs.Load.{made_tokens, made_text, made, make}
use Rattle.load_maker_rules.proofs.Making.{made-count, made-length}
use Rattle.load_maker_rules.proofs.Says.{zero_says, short-says, makes-says}

module _ (wild : Bool) (s : ℕ) (out : List ℕ) (n : s ≡ 0 → ⊥) where
  -- the text's length
  size_is : 2 * (1 + draw s % 6) - 1 ≡ length (made_text wild s)
  size_is = omega (arith, made-length wild s)

  pub too_short : length out < 2 * (1 + draw s % 6) - 1 → made (answer 21 ((2 * (1 + draw s % 6) - 1) ∷ [])) s out ≡ make wild s out
  too_short h = rw size_is (sym (short-says wild s out n (omega (arith, size_is))))

  new_is : draws (1 + length (tokens (made_text wild s))) s ≡ draws (1 + draw s % 6) (draw s)
  new_is = let more : 1 + (1 + draw s % 6) ≡ suc (1 + draw s % 6) = omega arith in rw (made-count wild s, more)

  -- the tokens written are the text, and the state behind them the new one
  pub all_made : 2 * (1 + draw s % 6) - 1 ≤ length out
      → made (answer 0 ((2 * (1 + draw s % 6) - 1) ∷ [])) (draws (1 + draw s % 6) (draw s)) (sets out 0 (joined (made_tokens wild (1 + draw s % 6) (draw s)))) ≡ make wild s out
  unfolding made_text
  all_made h =
      let fits : length (made_text wild s) ≤ length out = omega (arith, size_is) in
      rw (size_is, sets_over (made_text wild s) out fits, ← new_is) (sym (makes-says wild s out n fits))

-- each way through a call
pub ruleset stages = (zero_says, too_short, all_made)
