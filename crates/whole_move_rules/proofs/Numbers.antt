-- What the grammar answers is numbered 0 to 9.
use Prim.Native.Nat.{ℕ, ◌+◌, ◌≤◌}
use native.Mathlib.Omega.{arith}
use mathlib.Core.Bool.{Bool, true, false}
use mathlib.Core.List.{List, [], ◌∷◌}
use mathlib.Core.Option.{Option, none, some}
use lib.Dec.{eqb}
use lib.ListN.{length}
use Rattle.subject_rules.specs.Choice.{pick}
use Rattle.subject_rules.specs.Text.{tokens, is_tail}
use Rattle.subject_rules.specs.Utf8.{first_bad}
use Rattle.subject_rules.specs.Answers.{Answer, answer, unless}
use Rattle.subject_rules.specs.Grammar.{bad_token, too_deep, tail_at, check, not_utf8, too_long, grammar}
use Rattle.subject_rules.proofs.Depths.{Refuses, bad_token_lem}

abbrev pub Low : Answer → Type 0
Low (answer number values) = number ≤ 9

pick_low : (b : Bool) (x y : Answer) → Low x → Low y → Low (pick b x y)
pick_low true x y p q = p
pick_low false x y p q = q

unless_low : (o : Option Answer) (a : Answer) → Refuses o → Low a → Low (unless o a)
unless_low none a p q = q
unless_low (some (answer n values)) a p q = p.1

check_low : (wild : Bool) (passed : Option ℕ) (index : ℕ) (ts : List (List ℕ)) → Low (check wild passed index ts)
check_low wild passed index [] = omega arith
check_low wild (some at) index (t ∷ ts) = omega arith
check_low wild none index (t ∷ ts) =
    pick_low (too_deep index) (answer 5 (33 ∷ [])) _ (omega arith)
    (unless_low (bad_token wild index t) (check wild (tail_at (is_tail t) index) (index + 1) ts) (bad_token_lem wild index t)
    (check_low wild (tail_at (is_tail t) index) (index + 1) ts))

utf8_low : (o : Option ℕ) → Refuses (not_utf8 o)
utf8_low none = tt
utf8_low (some index) = omega arith

pub grammar_low : (wild : Bool) (bs : List ℕ) → Low (grammar wild bs)
unfolding grammar
grammar_low wild bs =
    pick_low (too_long bs) (answer 1 []) _ (omega arith)
    (unless_low (not_utf8 (first_bad bs)) _ (utf8_low (first_bad bs))
    (pick_low (eqb (length bs) 0) (answer 3 []) _ (omega arith) (check_low wild none 0 (tokens bs))))
