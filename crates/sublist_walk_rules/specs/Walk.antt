-- The walk of a subject's hashes over a table: n nodes in the words a, m targets in the words ts.
-- Every area has one outcome.
use Rattle.std.specs.Prelude.{ℕ, ◌+◌, max, Bool, false, List, [], ◌∷◌, ◌++◌, ltb, leb, eqb, length, take, drop}
use Rattle.subject_rules.specs.Choice.{pick, or}
use Rattle.sublist_area_rules.specs.declared.Child.{Child}
use Rattle.sublist_area_rules.specs.declared.Child.TheVariants.{Node, Missing, Damaged}
use Rattle.sublist_area_rules.specs.Words.{word, literal_child, star_child}
use Rattle.sublist_tree.specs.Tree.{Key, star, lit}
use Rattle.sublist_walk_rules.specs.declared.Failure.{Failure}
use Rattle.sublist_walk_rules.specs.declared.Failure.TheVariants as failure

-- count elements from a place on
abbrev pub part : List ℕ → ℕ → ℕ → List ℕ
part xs from count = take count (drop from xs)

abbrev pub among : ℕ → List ℕ → Bool
among j [] = false
among j (i ∷ is) = or (eqb j i) (among j is)

-- a level half done: the next frontier and the list so far; or why the walk fails there: a frontier would pass its
-- limit, or a number points outside
pub data Level : Type 0 where
  level : List ℕ → List ℕ → Level
  broken : Failure → Level

-- how far a walk has come: the frontier, the list collected, and the largest frontier met
pub data Walk : Type 0 where
  at : List ℕ → List ℕ → ℕ → Walk
  stuck : Failure → Walk

-- where a walk starts: the root alone in the frontier
abbrev pub root : Walk
root = at (0 ∷ []) [] 1

-- what a walk ends with: the list and the peak
pub data Walked : Type 0 where
  found : List ℕ → ℕ → Walked
  failed : Failure → Walked

-- the targets that the words f and f + 1 of node i say, start and count
unfoldable pub collect : List ℕ → ℕ → List ℕ → ℕ → ℕ → Level → Level
collect a m ts f i (level next list) =
    pick (leb (word a i f + word a i (f + 1)) m)
    (level next (list ++ part ts (word a i f) (word a i (f + 1))))
    (broken failure.Damaged)
collect a m ts f i (broken why) = broken why

-- a child joins the next frontier, behind those there, unless it is there; `limit` nodes at the most
unfoldable pub push : ℕ → Level → Child → Level
push limit (level next list) (Node j) =
    pick (among j next) (level next list)
    (pick (ltb (length next) limit) (level (next ++ (j ∷ [])) list) (broken failure.Wide))
push limit (level next list) (Missing link) = level next list
push limit (level next list) Damaged = broken failure.Damaged
push limit (broken why) c = broken why

-- children join it in turn
abbrev pub pushes : ℕ → Level → List Child → Level
pushes limit s [] = s
pushes limit s (c ∷ cs) = pushes limit (push limit s c) cs

-- what replaces node i on a token's hash h: its literal child, then its `*` child
abbrev pub children : List ℕ → ℕ → ℕ → ℕ → List Child
children a n h i = literal_child a n i h ∷ star_child a n i ∷ []

module _ (limit : ℕ) (a : List ℕ) (n m : ℕ) (ts : List ℕ) where
  -- one node of the frontier and a token's hash h: its `>` targets, then its children
  unfoldable pub visit : ℕ → Level → ℕ → Level
  visit h s i = pushes limit (collect a m ts 6 i s) (children a n h i)

  unfoldable pub visits : ℕ → Level → List ℕ → Level
  visits h s [] = s
  visits h s (i ∷ is) = visits h (visit h s i) is

  unfoldable pub arrived : ℕ → Level → Walk
  arrived peak (level next list) = at next list (max peak (length next))
  arrived peak (broken why) = stuck why

  unfoldable pub on_token : Walk → ℕ → Walk
  on_token (at front list peak) h = arrived peak (visits h (level [] list) front)
  on_token (stuck why) h = stuck why

  unfoldable pub on_tokens : Walk → List ℕ → Walk
  on_tokens w [] = w
  on_tokens w (h ∷ hs) = on_tokens (on_token w h) hs

  -- the exact targets of the nodes that are left
  unfoldable pub exact : Level → List ℕ → Level
  exact s [] = s
  exact s (i ∷ is) = exact (collect a m ts 4 i s) is

  unfoldable pub listed : ℕ → Level → Walked
  listed peak (level next list) = found list peak
  listed peak (broken why) = failed why

  unfoldable pub ended : Walk → Walked
  ended (at front list peak) = listed peak (exact (level [] list) front)
  ended (stuck why) = failed why

  unfoldable pub walk_over : List ℕ → Walked
  walk_over hs = ended (on_tokens root hs)

-- the same for tokens of any kind: `look i k` is what the lookup by k at node i says
module _ {K : Type 0} (look : ℕ → Key K → Child) (limit : ℕ) (a : List ℕ) (n m : ℕ) (ts : List ℕ) where
  abbrev pub children_by : K → ℕ → List Child
  children_by h i = look i (lit h) ∷ look i star ∷ []

  unfoldable pub visit_by : K → Level → ℕ → Level
  visit_by h s i = pushes limit (collect a m ts 6 i s) (children_by h i)

  unfoldable pub visits_by : K → Level → List ℕ → Level
  visits_by h s [] = s
  visits_by h s (i ∷ is) = visits_by h (visit_by h s i) is

  unfoldable pub on_token_by : Walk → K → Walk
  on_token_by (at front list peak) h = arrived limit a n m ts peak (visits_by h (level [] list) front)
  on_token_by (stuck why) h = stuck why

  unfoldable pub on_tokens_by : Walk → List K → Walk
  on_tokens_by w [] = w
  on_tokens_by w (h ∷ hs) = on_tokens_by (on_token_by w h) hs

  unfoldable pub walk_by : List K → Walked
  walk_by hs = ended limit a n m ts (on_tokens_by root hs)
