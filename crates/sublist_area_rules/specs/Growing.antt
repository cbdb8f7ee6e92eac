-- Putting nodes into an area: the child of a node by a key, made where it is missing, and a whole run of keys.
use Rattle.std.specs.Prelude.{ℕ, ◌+◌, ◌*◌, ◌/◌, ◌%◌, List, [], ◌∷◌, ltb, leb, length, set, Result, Ok, Err}
use Rattle.std.proofs.lemmas.List.Edits.{sets}
use Rattle.subject_rules.specs.Choice.{pick}
use Rattle.sublist_area_rules.specs.declared.Child.{Child}
use Rattle.sublist_area_rules.specs.declared.Child.TheVariants.{Node, Missing, Damaged}
use Rattle.sublist_area_rules.specs.declared.Placed.{Placed}
use Rattle.sublist_area_rules.specs.declared.PlaceError.{PlaceError}
use Rattle.sublist_area_rules.specs.declared.PlaceError.TheVariants.{Full, Broken}
use Rattle.sublist_area_rules.specs.Words.{child_of}
use Rattle.sublist_tree.specs.Tree.{Key, star, lit}

-- the words of a new node with the hash h below node p
abbrev pub fresh : ℕ → ℕ → List ℕ
fresh h p =
    h % 4294967296 ∷ h / 4294967296 ∷ 0 ∷ 0 ∷ 0 ∷ 0 ∷ 0 ∷ 0 ∷ 0 ∷ 0 ∷ 0 ∷ 0 ∷ p ∷ 0 ∷ 0 ∷ 0 ∷ []

-- what a key has for a hash: the `*` child has 0
abbrev pub hash_of : Key ℕ → ℕ
hash_of star = 0
hash_of (lit h) = h

-- node n, new below node p; its number goes into the word `link`
unfoldable pub added : List ℕ → ℕ → ℕ → ℕ → ℕ → List ℕ
added a n link h p = set (sets a (n * 16) (fresh h p)) link n

-- node i, and n nodes afterwards
abbrev pub placed_at : ℕ → ℕ → Result Placed PlaceError
placed_at i n = Ok (record { node = i; count = n })

-- what a lookup makes of an area of n nodes: the child is there, or is made if there is room
unfoldable pub placed : Child → List ℕ → ℕ → ℕ → Key ℕ → Result Placed PlaceError × List ℕ
placed (Node j) a n i k = (placed_at j n, a)
placed (Missing link) a n i k =
    pick (leb (length a / 16) n) (Err Full, a)
    (pick (leb 4294967295 n) (Err Full, a) (placed_at n (n + 1), added a n link (hash_of k) i))
placed Damaged a n i k = (Err Broken, a)

unfoldable pub child_or_new : List ℕ → ℕ → ℕ → Key ℕ → Result Placed PlaceError × List ℕ
child_or_new a n i k = placed (child_of a n i k) a n i k

-- one key further, from where the keys before it came
unfoldable pub onward : Result Placed PlaceError → List ℕ → Key ℕ → Result Placed PlaceError × List ℕ
onward (Ok p) a k = child_or_new a p.count p.node k
onward (Err e) a k = (Err e, a)

-- a run of keys, from a node and a node count on
unfoldable pub grown : Result Placed PlaceError × List ℕ → List (Key ℕ) → Result Placed PlaceError × List ℕ
grown s [] = s
grown s (k ∷ ks) = grown (onward s.0 s.1 k) ks

-- the root alone
unfoldable pub planted : List ℕ → List ℕ
planted a = sets a 0 (fresh 0 0)

-- the root alone, where an area has room for it
unfoldable pub rooted : List ℕ → Result Placed PlaceError × List ℕ
rooted a = pick (ltb (length a) 16) (Err Full, a) (placed_at 0 1, planted a)
