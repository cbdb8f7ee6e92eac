-- An area reads back as the tree of a list of lines: the words of n nodes in a, and m targets in ts.
use Rattle.std.specs.Prelude.{ℕ, ◌+◌, ◌*◌, ◌≤◌, ◌<◌, ◌^◌, ◌≡◌, Bool, true, false, List, [], ◌∷◌, ◌++◌, eqb, length}
use Rattle.sublist_tree.specs.Tree.{Key, star, lit, Line, below, ends, left_at}
use Rattle.sublist_area_rules.specs.declared.Child.{Child}
use Rattle.sublist_area_rules.specs.declared.Child.TheVariants.{Node, Missing, Damaged}
use Rattle.sublist_area_rules.specs.Words.{word, child_of}
use Rattle.sublist_walk_rules.specs.Walk.{part}

-- what is asked of the literals among the keys
abbrev pub Fitting : {K : Type 0} → (K → Type 0) → Key K → Type 0
Fitting P star = Unit {0}
Fitting P (lit h) = P h

-- a hash fits 64 bits
abbrev pub Narrow : ℕ → Type 0
Narrow h = h < 2 ^ 64

abbrev pub Small : Key ℕ → Type 0
Small k = Fitting Narrow k

-- what a lookup by k at a node with the run ks says, if the lines `under` go on with k: the node with the run ks and k;
-- or none, if no line does
abbrev pub Leads : {K : Type 0} → ℕ → (ℕ → List (Key K)) → List (Key K) → Key K → List (Line K) → Child → Type 0
Leads n label ks k under (Node j) = (j < n) × (label j ≡ ks ++ (k ∷ [])) × (under ≡ [] → ⊥)
Leads n label ks k under (Missing link) = under ≡ []
Leads n label ks k under Damaged = ⊥

-- the words f and f + 1 of node i, start and count, say these targets
abbrev pub Says : List ℕ → ℕ → List ℕ → ℕ → ℕ → List ℕ → Type 0
Says a m ts i f targets = (word a i f + word a i (f + 1) ≤ m) × (part ts (word a i f) (word a i (f + 1)) ≡ targets)

-- keys of any kind: `eq` compares them, `P` is what is asked of a literal that is sought, and `look i k` is what the
-- lookup by k at node i says
pub record HoldsBy {K : Type 0} (eq : K → K → Bool) (P : K → Type 0) (look : ℕ → Key K → Child)
    (a : List ℕ) (n m : ℕ) (ts : List ℕ) (ls : List (Line K)) : Type 0 where
  pub rooted : 0 < n
  pub nodes_fit : n * 16 ≤ length a
  pub targets_fit : m ≤ length ts
  -- the run of keys that each node stands for
  pub label : ℕ → List (Key K)
  pub top : label 0 ≡ []
  pub child : (i : ℕ) (k : Key K) → i < n → Fitting P k
      → Leads n label (label i) k (below eq k (left_at eq ls (label i))) (look i k)
  pub exact : (i : ℕ) → i < n → Says a m ts i 4 (ends false (left_at eq ls (label i)))
  pub tails : (i : ℕ) → i < n → Says a m ts i 6 (ends true (left_at eq ls (label i)))

-- the keys are hashes
abbrev pub Holds : List ℕ → ℕ → ℕ → List ℕ → List (Line ℕ) → Type 0
Holds a n m ts ls = HoldsBy eqb Narrow (child_of a n) a n m ts ls
