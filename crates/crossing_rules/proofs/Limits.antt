-- 4,096 bytes are shown, and one more is none.
use Prim.Native.Nat.{ℕ}
use mathlib.Core.Path.{◌≡◌, refl}
use mathlib.Core.List.{List, [], ◌∷◌, ◌++◌}
use lib.ListN.{replicate}
use Rattle.subject_rules.specs.Utf8.{sequence, first_bad}
use Rattle.subject_rules.specs.Answers.{answer}
use Rattle.subject_rules.specs.Grammar.{grammar}
use Rattle.subject_rules.specs.Outputs.{outcome}
use Rattle.crossing_rules.specs.Crossing.{shown_for, crossing_with, crossing}

-- n bytes `a`, then `.*`; `*.`, then n bytes `b`
abbrev begins : ℕ → List ℕ
begins n = replicate n 0x61 ++ (0x2e ∷ 0x2a ∷ [])

abbrev ends : ℕ → List ℕ
ends n = 0x2a ∷ 0x2e ∷ replicate n 0x62

most : crossing (begins 2047) (ends 2048) [] ≡ outcome (answer 21 (4096 ∷ [])) []
unfolding sequence first_bad grammar shown_for crossing_with crossing
most = refl

one_more : crossing (begins 2048) (ends 2048) [] ≡ outcome (answer 0 (0 ∷ [])) []
unfolding sequence first_bad grammar shown_for crossing_with crossing
one_more = refl
