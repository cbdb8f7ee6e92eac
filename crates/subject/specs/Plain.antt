-- Only private contracts cite this file: the tokens of a plain text, counted in one pass. No byte of it is barred, no
-- token is empty, and it has at most 32 tokens.
use Rattle.std.specs.Prelude.{ℕ, ◌+◌, Bool, true, false, List, [], ◌∷◌, nat_le, Option, None, Some}
use Rattle.subject_rules.specs.Choice.{pick, and, or}
use Rattle.subject.specs.Spelling.{is_dot, is_barred}

-- how many dots a byte is
abbrev pub one : Bool → ℕ
one true = 1
one false = 0

-- the tokens of a plain text, none for any other, where n dots were passed and these bytes are left; `dot` says that a
-- dot or nothing is before them
abbrev pub plain_from : Bool → ℕ → List ℕ → Option ℕ
plain_from dot n [] = pick (or dot (nat_le 32 n)) None (Some (n + 1))
plain_from dot n (b ∷ bs) =
    pick (or (is_barred b) (and dot (is_dot b))) None
    (plain_from (is_dot b) (n + one (is_dot b)) bs)
