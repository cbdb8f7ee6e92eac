-- What a build does to the words lent for nodes and targets, pass by pass.
-- A line is the keys of a pattern, whether `>` follows, and its target.
use Rattle.std.specs.Prelude.{ℕ, zero, suc, ◌+◌, ◌-◌, ◌*◌, ◌%◌, max, min, Bool, true, false}
use Rattle.std.specs.Prelude.{List, [], ◌∷◌, ◌++◌, ltb, eqb, set, Result, Ok, Err}
use Rattle.subject_rules.specs.Choice.{pick}
use Rattle.sublist_tree.specs.Tree.{Line, line}
use Rattle.sublist_area_rules.specs.declared.Placed.{Placed}
use Rattle.sublist_area_rules.specs.declared.PlaceError.{PlaceError}
use Rattle.sublist_area_rules.specs.Words.{word}
use Rattle.sublist_area_rules.specs.Growing.{placed_at, grown}

-- where a line ends: a node, and whether `>` follows
pub data End : Type 0 where
  end : ℕ → Bool → End

-- the nodes so far, their words, and where the lines so far end; or no room for a node
pub data Growth : Type 0 where
  growth : ℕ → List ℕ → List End → Growth
  stopped : List ℕ → Growth

-- the word that counts a node's exact or `>` targets, and the one where they start
abbrev pub count_word : Bool → ℕ
count_word true = 7
count_word false = 5

abbrev pub start_word : Bool → ℕ
start_word true = 6
start_word false = 4

-- one target more
unfoldable pub counted : List ℕ → ℕ → Bool → List ℕ
counted a j tail = set a (j * 16 + count_word tail) ((word a j (count_word tail) + 1) % 4294967296)

unfoldable pub joined : Result Placed PlaceError × List ℕ → Bool → List End → Growth
joined (Ok p, a) tail ends = growth p.count (counted a p.node tail) (ends ++ (end p.node tail ∷ []))
joined (Err e, a) tail ends = stopped a

-- first pass: each line's run is put in, and its end counts it
unfoldable pub line_in : Growth → Line ℕ → Growth
line_in (growth n a ends) (line ks tail target) = joined (grown (placed_at 0 n, a) ks) tail ends
line_in (stopped a) l = stopped a

unfoldable pub lines_in : Growth → List (Line ℕ) → Growth
lines_in g [] = g
lines_in g (l ∷ ls) = lines_in (line_in g l) ls

-- second pass, from the last node to the first: a node's worst case, from those of its `*` child (word 4) and of its
-- literal children (word 6), told to its parent
abbrev pub node_worst : List ℕ → ℕ → ℕ
node_worst a i = min (max 1 (word a i 4 + word a i 6)) 4294967295

unfoldable pub told : List ℕ → ℕ → ℕ → List ℕ
told a i p =
    pick (ltb p i)
    (pick (eqb (word a p 3) i) (set a (p * 16 + 4) (node_worst a i))
    (set a (p * 16 + 6) (max (word a p 6) (node_worst a i))))
    a

unfoldable pub settled : List ℕ → ℕ → List ℕ
settled a zero = a
settled a (suc i) = settled (told a (suc i) (word a (suc i) 12)) i

-- third pass: where each node's targets start, exact ones before `>` ones; the counts start again at 0
unfoldable pub laid_at : List ℕ → ℕ → ℕ → List ℕ
laid_at a i from =
    set (set (set (set a (i * 16 + 4) from) (i * 16 + 5) 0)
    (i * 16 + 6) ((from + word a i 5) % 4294967296)) (i * 16 + 7) 0

-- the nodes i to i + left - 1, their targets from a place on
unfoldable pub laid : List ℕ → ℕ → ℕ → ℕ → List ℕ
laid a i zero from = a
laid a i (suc left) from = laid (laid_at a i from) (suc i) left ((from + word a i 5 + word a i 7) % 4294967296)

-- fourth pass: each line's target is put behind those that its end has
pub data Filling : Type 0 where
  filling : List ℕ → List ℕ → Filling

-- the words of nodes and those of targets
abbrev pub node_words_in : Filling → List ℕ
node_words_in (filling a ts) = a

abbrev pub target_words_in : Filling → List ℕ
target_words_in (filling a ts) = ts

unfoldable pub filled_by : Filling → End → ℕ → Filling
filled_by (filling a ts) (end j tail) target =
    filling (counted a j tail) (set ts (word a j (start_word tail) + word a j (count_word tail)) target)

unfoldable pub filled : Filling → List End → List ℕ → Filling
filled f [] targets = f
filled f (e ∷ es) [] = f
filled f (e ∷ es) (t ∷ targets) = filled (filled_by f e t) es targets

-- the last three passes, of n nodes, the target words, where the lines end, and the lines' targets
abbrev pub last_passes : ℕ → List ℕ → List ℕ → List End → List ℕ → Filling
last_passes n a ts ends xs = filled (filling (laid (settled a (n - 1)) 0 n 0) ts) ends xs
