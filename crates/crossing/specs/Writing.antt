-- Only private contracts cite this file: a subject as it is put together, a dot behind each token.
use Rattle.std.specs.Prelude as std
use Rattle.std.specs.Prelude.{ℕ, ◌+◌, List, [], ◌∷◌, ◌++◌, ltb, length}
use Rattle.std.proofs.Math.Option.{Option, none, some}
use Rattle.std.proofs.lemmas.List.Edits.{sets}
use Rattle.subject_rules.specs.Choice.{pick}

-- so many bytes, and the output then; or that there is no subject
pub data Progress : Type 0 where
  upto : ℕ → List ℕ → Progress
  nowhere : Progress

abbrev pub reached : std.Option ℕ → List ℕ → Progress
reached (std.Some n) out = upto n out
reached std.None out = nowhere

-- tokens one behind another, a dot behind each
abbrev pub dotted : List (List ℕ) → List ℕ
dotted [] = []
dotted (t ∷ ts) = t ++ (0x2e ∷ dotted ts)

-- tokens, if there are any to put, are put behind `at` bytes, as far as the output goes; a subject has at most
-- 4,096 bytes, so with the dot behind it 4,097
unfoldable pub progress : Option (List (List ℕ)) → ℕ → List ℕ → Progress
progress none at out = nowhere
progress (some ts) at out =
    pick (ltb 4097 (at + length (dotted ts))) nowhere
    (upto (at + length (dotted ts)) (sets out at (dotted ts)))

-- a subject, if there is one, by its length; it is put with a dot behind it, as far as the output goes
abbrev pub dotted_in : Option (List ℕ) → List ℕ → Progress
dotted_in none out = nowhere
dotted_in (some s) out = upto (length s) (sets out 0 (s ++ (0x2e ∷ [])))
