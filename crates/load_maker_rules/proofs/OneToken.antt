-- One token of a made text: the grammar accepts it.
use Prim.Native.Nat.{ℕ, zero, suc, ◌+◌, ◌≤◌, ◌<◌}
use native.Mathlib.Omega.{arith}
use mathlib.Core.Path.{refl}
use mathlib.Core.Bool.{Bool, true, false}
use mathlib.Core.List.{[], ◌∷◌}
use borrow.Author.Tests.{ne_eqb, le-ltb}
use Rattle.subject_rules.specs.Utf8.{first_bad}
use Rattle.subject_rules.proofs.Ascii.{first_bad-join}
use Rattle.crossing_rules.proofs.Texts.{Utf8}
use Rattle.crossing_rules.proofs.Legal.{Legal}
use Rattle.load_maker_rules.specs.Load.{letter, pattern_byte}

-- ---- one token

ascii : (b : ℕ) → b < 0x80 → Utf8 (b ∷ [])
unfolding first_bad
ascii b h = first_bad-join b [] h [] refl refl

-- a letter may stand in a subject and in a pattern
pub letter_legal : (wild : Bool) (n : ℕ) → n ≤ 9 → Legal wild (letter n ∷ [])
letter_legal wild n h = record {
  utf8 = ascii (0x61 + n) (omega arith);
  undotted = (ne_eqb (0x61 + n) 0x2e (λ e. omega arith), tt);
  unbarred = λ index. rw (ne_eqb (0x61 + n) 0x2a (λ e. omega arith), ne_eqb (0x61 + n) 0x3e (λ e. omega arith), le-ltb (0x61 + n) 0x20 (omega arith), ne_eqb (0x61 + n) 0x7f (λ e. omega arith)) refl;
}

star_legal : Legal true (0x2a ∷ [])
star_legal = record { utf8 = ascii 0x2a (omega arith); undotted = (refl, tt); unbarred = λ index. refl }

tail_legal : Legal true (0x3e ∷ [])
tail_legal = record { utf8 = ascii 0x3e (omega arith); undotted = (refl, tt); unbarred = λ index. refl }

pub pattern_legal : (last : Bool) (k : ℕ) → k ≤ 9 → Legal true (pattern_byte last k ∷ [])
pattern_legal last zero h = star_legal
pattern_legal true (suc zero) h = tail_legal
pattern_legal false (suc zero) h = star_legal
pattern_legal last (suc (suc n)) h = letter_legal true n (omega arith)
