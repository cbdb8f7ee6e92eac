-- The tokens of a made text: how many, which, and that the grammar accepts what is put together of them.
use Prim.Native.Nat.{ℕ, zero, suc, ◌+◌, ◌-◌, ◌*◌, ◌%◌, ◌≤◌, ◌<◌}
use native.Mathlib.Omega.{arith}
use mathlib.Core.Path.{◌≡◌, refl}
use mathlib.Core.Bool.{Bool, true, false}
use mathlib.Core.List.{[], ◌∷◌}
use lib.Dec.{eqb}
use lib.ListN.{length, get_or}
use borrow.Author.Tests.{ne_eqb}
use Rattle.subject_rules.specs.Text.{tokens, is_tail}
use Rattle.subject_rules.specs.Answers.{answer}
use Rattle.subject_rules.specs.Grammar.{grammar}
use Rattle.sublist_tree.specs.Lists.{All}
use Rattle.crossing_rules.proofs.Texts.{size, size_joined}
use Rattle.crossing_rules.proofs.Legal.{Legal, TailLast, legal_tokens, legal_accepted}
use Rattle.load_maker_rules.specs.Xorshift.{draw, draws}
use Rattle.load_maker_rules.specs.Load.{count, pattern_byte, token_byte, made_tokens, made_text}
use Rattle.load_maker_rules.proofs.OneToken.{letter_legal, pattern_legal}

token_legal : (wild last : Bool) (d : ℕ) → Legal wild (token_byte wild last d ∷ [])
token_legal true last d = pattern_legal last (d % 10) (omega arith)
token_legal false last d = letter_legal false (d % 8) (omega arith)

-- only the last one may be `>`
pattern_inner : (k : ℕ) → k ≤ 9 → is_tail (pattern_byte false k ∷ []) ≡ false
pattern_inner zero h = refl
pattern_inner (suc zero) h = refl
pattern_inner (suc (suc n)) h = ne_eqb (0x61 + n) 0x3e (λ e. omega arith)

token_inner : (wild : Bool) (d : ℕ) → is_tail (token_byte wild false d ∷ []) ≡ false
token_inner true d = pattern_inner (d % 10) (omega arith)
token_inner false d = ne_eqb (0x61 + d % 8) 0x3e (λ e. omega arith)

-- ---- the tokens

pub tokens_legal : (wild : Bool) (n s : ℕ) → All (Legal wild) (made_tokens wild n s)
tokens_legal wild zero s = tt
tokens_legal wild (suc n) s = (token_legal wild (eqb n 0) (draw s), tokens_legal wild n (draw s))

tokens-last : (wild : Bool) (n s : ℕ) → TailLast (made_tokens wild n s)
tokens-last wild zero s = tt
tokens-last wild (suc zero) s = ((λ e. refl), tt)
tokens-last wild (suc (suc n)) s =
    let inner = ne_eqb (suc n) 0 (λ e. omega arith) in
    let no : is_tail (token_byte wild (eqb (suc n) 0) (draw s) ∷ []) ≡ false = rw inner (token_inner wild (draw s)) in
    ((λ e. absurd (cc)), tokens-last wild (suc n) (draw s))

pub tokens-length : (wild : Bool) (n s : ℕ) → length (made_tokens wild n s) ≡ n
tokens-length wild zero s = refl
tokens-length wild (suc n) s = rw (tokens-length wild n (draw s))

-- each is one byte, so with the dots they are two for each
tokens_size : (wild : Bool) (n s : ℕ) → size (made_tokens wild n s) ≡ 2 * n
tokens_size wild zero s = refl
tokens_size wild (suc n) s = omega (arith, tokens_size wild n (draw s))

-- token i is that of draw i + 1, and the last one if none is left behind it
pub token_at : (wild : Bool) (n s i : ℕ) → i < n → get_or (made_tokens wild n s) i [] ≡ token_byte wild (eqb (n - suc i) 0) (draws (suc i) s) ∷ []
token_at wild zero s i h = absurd (omega arith)
token_at wild (suc n) s zero h = let z : suc n - 1 ≡ n = omega arith in rw z
token_at wild (suc n) s (suc i) h = let z : suc n - suc (suc i) ≡ n - suc i = omega arith in rw z (token_at wild n (draw s) i (omega arith))

-- ---- the text

module _ (wild : Bool) (s : ℕ) where
  some_token : 1 ≤ length (made_tokens wild (count s) (draw s))
  some_token = omega (arith, tokens-length wild (count s) (draw s))

  -- its tokens are those made
  pub made-tokens : tokens (made_text wild s) ≡ made_tokens wild (count s) (draw s)
  unfolding made_text
  made-tokens = legal_tokens wild (made_tokens wild (count s) (draw s)) (tokens_legal wild (count s) (draw s)) some_token

  pub made-count : length (tokens (made_text wild s)) ≡ count s
  made-count = rw made-tokens (tokens-length wild (count s) (draw s))

  -- a byte for each token, and a dot between each two
  pub made-length : length (made_text wild s) + 1 ≡ 2 * count s
  unfolding made_text
  made-length =
      omega (arith, tokens_size wild (count s) (draw s), size_joined (made_tokens wild (count s) (draw s)) some_token)

  -- so 11 bytes are enough
  pub made-most : length (made_text wild s) ≤ 11
  made-most = omega (arith, made-length)

  -- "every pattern and subject made is accepted by the grammar"
  pub made-accepted : grammar wild (made_text wild s) ≡ answer 0 (count s ∷ [])
  unfolding made_text
  made-accepted =
      let n = tokens-length wild (count s) (draw s) in
      rw n at
      (legal_accepted wild (made_tokens wild (count s) (draw s)) (tokens_legal wild (count s) (draw s)) some_token
      (tokens-last wild (count s) (draw s)) (omega (arith, n)) (omega (arith, made-length)))
