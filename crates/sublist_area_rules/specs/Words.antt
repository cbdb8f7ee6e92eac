-- The nodes of a table in an area of words, sixteen words a node, read with no regard to whether they make sense.
-- Words of a node:  0, 1 the hash of its token, low word first;  2 the first literal child;  3 the `*` child;
--   4, 5 start and count of its exact targets;  6, 7 start and count of its `>` targets;
--   8 to 11 the next literal sibling, by two bits of the hash sought;  12 its parent;
--   13 to 15 are 0 (two of them are kept for the place of its token).
-- A node's number is its place in the area. The root is node 0, and no node's child: as a child, 0 is none.
use Rattle.std.specs.Prelude.{ℕ, zero, suc, ◌+◌, ◌*◌, ◌/◌, ◌%◌, Bool, true, false, List, ltb, leb, eqb, length, get_or}
use Rattle.subject_rules.specs.Choice.{pick, and, or}
use Rattle.subject_rules.specs.Text.{is_star}
use Rattle.subject_rules.specs.Fnv.{fnv}
use Rattle.sublist_area_rules.specs.declared.Child.{Child}
use Rattle.sublist_area_rules.specs.declared.Child.TheVariants.{Node, Missing, Damaged}
use Rattle.sublist_area_rules.specs.declared.ChildKey.{ChildKey}
use Rattle.sublist_area_rules.specs.declared.ChildKey.TheVariants.{Star, Literal}
use Rattle.sublist_tree.specs.Tree.{Key, star, lit}

-- how many words a node takes
abbrev pub words_per_node : ℕ
words_per_node = 16

-- word f of node i
abbrev pub word : List ℕ → ℕ → ℕ → ℕ
word a i f = get_or a (i * 16 + f) 0

-- the key of a token that is no `>`
abbrev pub token_key : List ℕ → Key ℕ
token_key t = pick (is_star t) star (lit (fnv t))

-- the key that a caller names
abbrev pub key_of : ChildKey → Key ℕ
key_of Star = star
key_of (Literal h) = lit h

-- node i has the hash h
abbrev pub hash_is : List ℕ → ℕ → ℕ → Bool
hash_is a i h = and (eqb (word a i 0) (h % 4294967296)) (eqb (word a i 1) (h / 4294967296))

-- what the test of a node says: it is the one sought; it is another; or what it is to be compared with lies outside,
-- which is damage
pub data Met : Type 0 where
  Here : Met
  Passed : Met
  Outside : Met

abbrev pub met : Met → Child → Child → Child
met Here x y = x
met Passed x y = y
met Outside x y = Damaged

abbrev pub told : Bool → Met
told true = Here
told false = Passed

-- the test by the hash alone, which nothing is outside of
abbrev pub by_hash : List ℕ → ℕ → ℕ → Met
by_hash a h i = told (hash_is a i h)

-- 19 of a lookup: n nodes do not fit the area, or node i is none of them
abbrev pub outside : List ℕ → ℕ → ℕ → Bool
outside a n i = or (ltb (length a / 16) n) (leb n i)

-- what the number in word `link` leads to, among n nodes: 0 to no node, and a number of no node is damage
abbrev pub linked : List ℕ → ℕ → ℕ → Child
linked a n link =
    pick (eqb (get_or a link 0) 0) (Missing link)
    (pick (leb n (get_or a link 0)) Damaged (Node (get_or a link 0)))

-- the sibling that the test meets on the chain that starts in word `link`, among n nodes and within so many steps;
-- `rest` is what is left of the hash sought to choose the way. Missing says in which word its number would stand.
-- A chain that does not end within the steps is damaged, and so is a number of no node.
unfoldable pub seek : (ℕ → Met) → List ℕ → ℕ → ℕ → ℕ → ℕ → Child
seek test a n rest zero link = pick (eqb (get_or a link 0) 0) (Missing link) Damaged
seek test a n rest (suc steps) link =
    pick (eqb (get_or a link 0) 0) (Missing link)
    (pick (leb n (get_or a link 0)) Damaged
    (met (test (get_or a link 0)) (Node (get_or a link 0))
    (seek test a n (rest / 4) steps (get_or a link 0 * 16 + 8 + rest % 4))))

-- the literal child of node i with the hash h
unfoldable pub literal_child : List ℕ → ℕ → ℕ → ℕ → Child
literal_child a n i h = pick (outside a n i) Damaged (seek (by_hash a h) a n h n (i * 16 + 2))

-- the `*` child of node i
unfoldable pub star_child : List ℕ → ℕ → ℕ → Child
star_child a n i = pick (outside a n i) Damaged (linked a n (i * 16 + 3))

-- the child of node i by a key
abbrev pub child_of : List ℕ → ℕ → ℕ → Key ℕ → Child
child_of a n i star = star_child a n i
child_of a n i (lit h) = literal_child a n i h
