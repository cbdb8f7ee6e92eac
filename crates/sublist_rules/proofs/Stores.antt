-- Words of nodes after a store to one of them.
use Prim.Native.Nat.{ℕ, ◌+◌, ◌*◌, ◌<◌, ◌≤◌}
use native.Mathlib.Omega.{arith}
use mathlib.Core.Path.{◌≡◌}
use mathlib.Core.List.{List}
use lib.ListN.{length, set}
use lib.Seq.{get_or-set_same, get_or-set_other}
use Rattle.sublist_area_rules.specs.Words.{word}

pub word_set : (a : List ℕ) (i f v : ℕ) → i * 16 + f < length a → word (set a (i * 16 + f) v) i f ≡ v
word_set a i f v l = get_or-set_same a (i * 16 + f) v 0 l

-- another word of any node
pub word_field : (a : List ℕ) (i f v j g : ℕ) → f < 16 → g < 16 → (f ≡ g → ⊥) → word (set a (i * 16 + f) v) j g ≡ word a j g
word_field a i f v j g lf lg d = get_or-set_other a (i * 16 + f) (j * 16 + g) v 0 (λ e. d (omega arith))

-- any word of another node
pub word_node : (a : List ℕ) (i f v j g : ℕ) → f < 16 → g < 16 → (i ≡ j → ⊥) → word (set a (i * 16 + f) v) j g ≡ word a j g
word_node a i f v j g lf lg d = get_or-set_other a (i * 16 + f) (j * 16 + g) v 0 (λ e. d (omega arith))

-- a word of a node below n lies in an area of n nodes
pub in_area : (n i f len : ℕ) → i < n → f < 16 → n * 16 ≤ len → i * 16 + f < len
in_area n i f len l lf fits = omega arith
