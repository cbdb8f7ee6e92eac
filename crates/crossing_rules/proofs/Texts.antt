-- A text is its tokens, joined by dots; what its bytes are, its tokens' are.
use Prim.Native.Nat.{ℕ, ◌+◌, ◌≤◌}
use native.Mathlib.Omega.{arith}
use mathlib.Core.Path.{◌≡◌, refl}
use mathlib.Core.Bool.{Bool, true, false}
use mathlib.Core.List.{List, [], ◌∷◌, ◌++◌}
use mathlib.Core.Option.{none}
use lib.Dec.{eqb}
use lib.ListN.{length, length-append}
use borrow.Author.Tests.{eqb-true}
use Rattle.subject_rules.specs.Text.{cut_at, tokens, joined}
use Rattle.subject_rules.specs.Utf8.{first_bad}
use Rattle.subject_rules.proofs.Ascii.{first_bad_cut, first_bad-join}
use Rattle.subject_rules.proofs.Depths.{tokens_some}
use Rattle.subject_rules.proofs.Pieces.{NoDot}
use Rattle.sublist_tree.specs.Lists.{All}

-- a token without a dot is a text's first token where a dot follows it, and its only one where nothing does
tokens-first : (t bs : List ℕ) → NoDot t → tokens (t ++ 0x2e ∷ bs) ≡ t ∷ tokens bs
tokens-first [] bs d = refl
tokens-first (b ∷ t) bs d = rw (d.0, tokens-first t bs d.1)

tokens-only : (t : List ℕ) → NoDot t → tokens t ≡ t ∷ []
tokens-only [] d = refl
tokens-only (b ∷ t) d = rw (d.0, tokens-only t d.1)

pub tokens-joined : (ts : List (List ℕ)) → All NoDot ts → 1 ≤ length ts → tokens (joined ts) ≡ ts
tokens-joined [] d h = absurd (omega arith)
tokens-joined (t ∷ []) d h = tokens-only t d.0
tokens-joined (t ∷ (u ∷ ts)) d h = rw (tokens-first t (joined (u ∷ ts)) d.0, tokens-joined (u ∷ ts) d.1 (omega arith))

-- a byte in front of the first token
joined_front : (b : ℕ) (t : List ℕ) (ts : List (List ℕ)) → joined ((b ∷ t) ∷ ts) ≡ b ∷ joined (t ∷ ts)
joined_front b t [] = refl
joined_front b t (u ∷ ts) = refl

-- a byte in front of a text
joined_cut : (c : Bool) (b : ℕ) (bs : List ℕ) (ts : List (List ℕ)) → eqb b 0x2e ≡ c → 1 ≤ length ts → joined ts ≡ bs → joined (cut_at c b ts) ≡ b ∷ bs
joined_cut c b bs [] q h e = absurd (omega arith)
joined_cut true b bs (t ∷ ts) q h e = rw (eqb-true b 0x2e q, e)
joined_cut false b bs (t ∷ ts) q h e = rw (joined_front b t ts, e)

pub joined-tokens : (bs : List ℕ) → joined (tokens bs) ≡ bs
joined-tokens [] = refl
joined-tokens (b ∷ bs) = joined_cut (eqb b 0x2e) b bs (tokens bs) refl (tokens_some bs) (joined-tokens bs)

no_dots_cut : (c : Bool) (b : ℕ) (ts : List (List ℕ)) → eqb b 0x2e ≡ c → All NoDot ts → All NoDot (cut_at c b ts)
no_dots_cut true b ts q d = (tt, d)
no_dots_cut false b [] q d = ((q, tt), tt)
no_dots_cut false b (t ∷ ts) q d = ((q, d.0), d.1)

-- no token has a dot
pub no_dots : (bs : List ℕ) → All NoDot (tokens bs)
no_dots [] = (tt, tt)
no_dots (b ∷ bs) = no_dots_cut (eqb b 0x2e) b (tokens bs) refl (no_dots bs)

-- the token is UTF-8
abbrev pub Utf8 : List ℕ → Type 0
Utf8 t = first_bad t ≡ none

utf8_pieces : (ts : List (List ℕ)) → Utf8 (joined ts) → All Utf8 ts
utf8_pieces [] e = tt
utf8_pieces (t ∷ []) e = (e, tt)
utf8_pieces (t ∷ (u ∷ ts)) e =
    let c = first_bad_cut 0x2e (joined (u ∷ ts)) (omega arith) t e in
    (c.0, utf8_pieces (u ∷ ts) c.1)

-- the tokens of UTF-8 text are UTF-8
pub utf8_tokens : (bs : List ℕ) → Utf8 bs → All Utf8 (tokens bs)
utf8_tokens bs e = utf8_pieces (tokens bs) (rw (joined-tokens bs) e)

-- and so is what is put together of such tokens
pub utf8_joined : (ts : List (List ℕ)) → All Utf8 ts → Utf8 (joined ts)
unfolding first_bad
utf8_joined [] a = refl
utf8_joined (t ∷ []) a = a.0
utf8_joined (t ∷ (u ∷ ts)) a = first_bad-join 0x2e (joined (u ∷ ts)) (omega arith) t a.0 (utf8_joined (u ∷ ts) a.1)

-- the bytes of tokens, each with the dot behind it
abbrev pub size : List (List ℕ) → ℕ
size [] = 0
size (t ∷ ts) = length t + 1 + size ts

-- one more than their text has
pub size_joined : (ts : List (List ℕ)) → 1 ≤ length ts → size ts ≡ length (joined ts) + 1
size_joined [] h = absurd (omega arith)
size_joined (t ∷ []) h = omega arith
size_joined (t ∷ (u ∷ ts)) h =
    omega (arith, size_joined (u ∷ ts) (omega arith), length-append t (0x2e ∷ joined (u ∷ ts)))
