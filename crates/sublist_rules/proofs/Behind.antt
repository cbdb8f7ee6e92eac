-- The passes leave the words behind the nodes.
use Prim.Native.Nat.{ℕ, zero, suc, ◌+◌, ◌*◌, ◌%◌, ◌<◌, ◌≤◌, max}
use native.Mathlib.Omega.{arith}
use mathlib.Core.Path.{◌≡◌, refl, ◌∙◌}
use mathlib.Core.Bool.{Bool, true, false}
use mathlib.Core.List.{List, [], ◌∷◌}
use lib.Dec.{eqb, ltb}
use lib.ListN.{get_or, set}
use lib.Seq.{get_or-set_other}
use borrow.Author.Tests.{ltb-true}
use Rattle.subject_rules.specs.Choice.{pick}
use Rattle.sublist_tree.specs.Lists.{All}
use Rattle.sublist_area_rules.specs.Words.{word}
use Rattle.sublist_rules.specs.Passes.{End, end, counted, count_word, start_word, node_worst, told, settled, laid_at, laid, filling, filled_by, filled}
use Rattle.sublist_rules.proofs.Filling.{node_of}
use Rattle.sublist_rules.specs.Passes.{node_words_in}

-- the words behind so many places are left
abbrev pub Behind : List ℕ → List ℕ → ℕ → Type 0
Behind b a from = (x : ℕ) → from ≤ x → get_or b x 0 ≡ get_or a x 0

counted-left : (a : List ℕ) (j n : ℕ) (tail : Bool) → j < n → Behind (counted a j tail) a (n * 16)
unfolding counted
counted-left a j n true l x h = get_or-set_other a (j * 16 + 7) x ((word a j 7 + 1) % 4294967296) 0 (λ e. omega arith)
counted-left a j n false l x h = get_or-set_other a (j * 16 + 5) x ((word a j 5 + 1) % 4294967296) 0 (λ e. omega arith)

told-left : (a : List ℕ) (i p n : ℕ) → i < n → Behind (told a i p) a (n * 16)
unfolding told
told-left a i p n l x h = go (ltb p i) refl (eqb (word a p 3) i)
  where
    go : (b : Bool) → ltb p i ≡ b → (c : Bool) → get_or (pick b (pick c (set a (p * 16 + 4) (node_worst a i)) (set a (p * 16 + 6) (max (word a p 6) (node_worst a i)))) a) x 0 ≡ get_or a x 0
    go true e true = let q = ltb-true p i e in get_or-set_other a (p * 16 + 4) x (node_worst a i) 0 (λ f. omega arith)
    go true e false = let q = ltb-true p i e in get_or-set_other a (p * 16 + 6) x (max (word a p 6) (node_worst a i)) 0 (λ f. omega arith)
    go false e c = refl

pub settled-left : (m : ℕ) (a : List ℕ) (n : ℕ) → m < n → Behind (settled a m) a (n * 16)
unfolding settled
settled-left zero a n l x h = refl
settled-left (suc m) a n l x h = settled-left m (told a (suc m) (word a (suc m) 12)) n (omega arith) x h ∙ told-left a (suc m) (word a (suc m) 12) n l x h

pub laid-left : (left i : ℕ) (a : List ℕ) (from n : ℕ) → i + left ≤ n → Behind (laid a i left from) a (n * 16)
unfolding laid laid_at
laid-left zero i a from n l x h = refl
laid-left (suc left) i a from n l x h =
    laid-left left (suc i) (laid_at a i from) ((from + word a i 5 + word a i 7) % 4294967296) n (omega arith) x h
    ∙ get_or-set_other (set (set (set a (i * 16 + 4) from) (i * 16 + 5) 0) (i * 16 + 6) ((from + word a i 5) % 4294967296)) (i * 16 + 7) x 0 0 (λ e. omega arith)
    ∙ get_or-set_other (set (set a (i * 16 + 4) from) (i * 16 + 5) 0) (i * 16 + 6) x ((from + word a i 5) % 4294967296) 0 (λ e. omega arith)
    ∙ get_or-set_other (set a (i * 16 + 4) from) (i * 16 + 5) x 0 0 (λ e. omega arith)
    ∙ get_or-set_other a (i * 16 + 4) x from 0 (λ e. omega arith)

pub filled-left : (es : List End) (xs a ts : List ℕ) (n : ℕ) → All (λ e. node_of e < n) es → Behind (node_words_in (filled (filling a ts) es xs)) a (n * 16)
unfolding filled filled_by
filled-left [] xs a ts n in_n x h = refl
filled-left (e ∷ es) [] a ts n in_n x h = refl
filled-left (end j tail ∷ es) (y ∷ xs) a ts n in_n x h =
    filled-left es xs (counted a j tail) (set ts (word a j (start_word tail) + word a j (count_word tail)) y) n in_n.1 x h ∙ counted-left a j n tail in_n.0 x h
