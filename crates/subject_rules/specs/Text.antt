-- Texts: a text is the list of its bytes, cut at every `.` (2E) into tokens, one more than it has dots.
use Rattle.std.specs.Prelude.{ℕ, Bool, true, false, List, [], ◌∷◌, ◌++◌, eqb}
use Rattle.subject_rules.specs.Choice.{and}

-- a byte in front of the tokens behind it: a dot ends an empty token, any other byte joins the first
abbrev pub cut_at : Bool → ℕ → List (List ℕ) → List (List ℕ)
cut_at true b ts = [] ∷ ts
cut_at false b [] = (b ∷ []) ∷ []
cut_at false b (t ∷ ts) = (b ∷ t) ∷ ts

abbrev pub tokens : List ℕ → List (List ℕ)
tokens [] = [] ∷ []
tokens (b ∷ bs) = cut_at (eqb b 0x2e) b (tokens bs)

-- tokens as a text, a dot between each two
abbrev pub joined : List (List ℕ) → List ℕ
joined [] = []
joined (t ∷ []) = t
joined (t ∷ (u ∷ ts)) = t ++ (0x2e ∷ joined (u ∷ ts))

-- the token is `*` (2A) alone
abbrev pub is_star : List ℕ → Bool
is_star [] = false
is_star (b ∷ []) = eqb b 0x2a
is_star (b ∷ (c ∷ bs)) = false

-- the token is `>` (3E) alone
abbrev pub is_tail : List ℕ → Bool
is_tail [] = false
is_tail (b ∷ []) = eqb b 0x3e
is_tail (b ∷ (c ∷ bs)) = false

-- the last token is `>` alone
abbrev pub ends_in_tail : List (List ℕ) → Bool
ends_in_tail [] = false
ends_in_tail (t ∷ []) = is_tail t
ends_in_tail (t ∷ (u ∷ ts)) = ends_in_tail (u ∷ ts)

-- the two have the same bytes
abbrev pub same : List ℕ → List ℕ → Bool
same [] [] = true
same [] (y ∷ ys) = false
same (x ∷ xs) [] = false
same (x ∷ xs) (y ∷ ys) = and (eqb x y) (same xs ys)
