-- An area holds a history of nodes: each word of its nodes but those of the targets is a function of the history.
-- The keys are of any kind: `eq` compares them, `hash` chooses the way to them, `test` is the test of a node, and `Named a i y` is what the words of node i,
-- and what they point at, say of its key y.
use Prim.Native.Nat.{ℕ, ◌+◌, ◌*◌, ◌/◌, ◌%◌, ◌≤◌, ◌<◌}
use mathlib.Core.Path.{◌≡◌}
use mathlib.Core.Bool.{Bool, true}
use mathlib.Core.List.{List}
use lib.Dec.{eqb}
use lib.ListN.{length, get_or}
use Rattle.subject_rules.specs.Choice.{pick}
use Rattle.sublist_tree.specs.Tree.{Key, lit}
use Rattle.sublist_trie.proofs.Trie.{Trie, size, parent_of, child, Good}
use Rattle.sublist_area_rules.specs.declared.Child.{Child}
use Rattle.sublist_area_rules.specs.declared.Child.TheVariants.{Node, Missing}
use Rattle.sublist_area_rules.specs.Words.{Met, told, word}
use Rattle.sublist_area_rules.specs.Growing.{added}
use Rattle.sublist_area_rules.proofs.Places.{place, link, key_at, hash_at}

-- what is asked of a kind of keys
pub record Keys {K : Type 0} (eq : K → K → Bool) (hash : K → ℕ) (test : List ℕ → K → ℕ → Met) (Named : List ℕ → ℕ → K → Type 0) : Type 0 where
  pub sound : (x y : K) → eq x y ≡ true → x ≡ y
  pub whole : (x : K) → eq x x ≡ true
  -- a node with the hash and the name of the key y is met by y alone, and is outside of nothing
  pub tells : (a : List ℕ) (i : ℕ) (x y : K) → word a i 0 ≡ hash y % 4294967296 → word a i 1 ≡ hash y / 4294967296 → Named a i y → test a x i ≡ told (eq y x)
  -- the name stands in the words 13 to 15
  pub stays : (a b : List ℕ) (i : ℕ) (y : K) → ((f : ℕ) → 12 < f → f < 16 → word b i f ≡ word a i f) → Named a i y → Named b i y

-- a new node names its key
abbrev pub Written : {K : Type 0} → (K → ℕ) → (List ℕ → ℕ → K → Type 0) → Type 0
Written {K} hash Named = (a : List ℕ) (n at p : ℕ) (y : K) → at < n * 16 → n * 16 + 16 ≤ length a → Named (added a n at (hash y) p) n y

pub record RepBy {K : Type 0} (eq : K → K → Bool) (hash : K → ℕ) (Named : List ℕ → ℕ → K → Type 0) (a : List ℕ) (t : Trie K) : Type 0 where
  pub room : size t * 16 ≤ length a
  pub good : Good eq t
  pub lows : (i : ℕ) → i < size t → word a i 0 ≡ hash_at hash t i % 4294967296
  pub highs : (i : ℕ) → i < size t → word a i 1 ≡ hash_at hash t i / 4294967296
  pub names : (i : ℕ) (y : K) → i < size t → key_at t i ≡ lit y → Named a i y
  -- words 2 and 3
  pub heads : (i f : ℕ) → i < size t → 1 < f → f < 4 → word a i f ≡ link hash t (i * 16 + f)
  -- words 8 to 11
  pub nexts : (i f : ℕ) → i < size t → f < 4 → get_or a (i * 16 + 8 + f) 0 ≡ link hash t (i * 16 + 8 + f)
  pub parents : (i : ℕ) → i < size t → word a i 12 ≡ parent_of t i

-- what a lookup says of the child by a key: its number, or the word where its number would stand
module _ {K : Type 0} (eq : K → K → Bool) (hash : K → ℕ) where
  abbrev pub answer : Trie K → ℕ → Key K → Child
  answer t i k = pick (eqb (child eq t i k) 0) (Missing (place hash t i k)) (Node (child eq t i k))
