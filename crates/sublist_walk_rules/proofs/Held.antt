-- A match on an area that holds the tree of some lines: it is refused by 1 to 9 and by 21 alone, never as damaged, and gives the tree's list and peak.
use Prim.Native.Nat.{ℕ, ◌*◌, ◌%◌, ◌≤◌, ◌<◌, ◌^◌}
use native.Mathlib.Omega.{arith}
use mathlib.Core.Path.{◌≡◌, refl}
use mathlib.Core.Bool.{true, false}
use mathlib.Core.List.{List, [], ◌∷◌, map}
use lib.Bits.{bit_xor}
use lib.Dec.{eqb}
use lib.ListN.{length}
use borrow.Author.Tests.{lt-ltb, le-leb}
use Rattle.subject_rules.specs.Text.{tokens}
use Rattle.subject_rules.specs.Fnv.{fnv, fnv_from}
use Rattle.subject_rules.specs.Grammar.{grammar}
use Rattle.sublist_tree.specs.Lists.{All}
use Rattle.sublist_tree.specs.Tree.{Line, walk, peak}
use Rattle.sublist_walk_rules.specs.Walk.{found}
use Rattle.subject_rules.specs.Outputs.{if_parsed}
use Rattle.sublist_walk_rules.specs.Matching.{counts_fit, written, match_table}
use Rattle.sublist_walk_rules.specs.Holds.{Holds}
use Rattle.sublist_walk_rules.proofs.Frontiers.{walk-holds}

hash_from : (h : ℕ) (bs : List ℕ) → h < 2 ^ 64 → fnv_from h bs < 2 ^ 64
unfolding fnv_from
hash_from h [] l = l
hash_from h (b ∷ bs) l = hash_from (bit_xor h b * 0x100000001b3 % 2 ^ 64) bs (omega arith)

-- a hash fits 64 bits
pub hash_fits : (bs : List ℕ) → fnv bs < 2 ^ 64
unfolding fnv
hash_fits bs = hash_from 0xcbf29ce484222325 bs (omega arith)

pub hashes_fit : (ts : List (List ℕ)) → All (λ h. h < 2 ^ 64) (map fnv ts)
hashes_fit [] = tt
hashes_fit (t ∷ ts) = (hash_fits t, hashes_fit ts)

module _ (a : List ℕ) (n m : ℕ) (ts : List ℕ) (ls : List (Line ℕ)) (H : Holds a n m ts ls) where
  pub counts_hold : counts_fit n m a ts ≡ true
  counts_hold = rw (lt-ltb 0 n H.rooted, le-leb (n * 16) (length a) H.nodes_fit, le-leb m (length ts) H.targets_fit) refl

  pub match_holds : (subject out : List ℕ) → peak eqb (map fnv (tokens subject)) (ls ∷ []) ≤ 1024
      → match_table n m a ts subject out
      ≡ if_parsed (grammar false subject) out (written (found (walk eqb (map fnv (tokens subject)) (ls ∷ [])) (peak eqb (map fnv (tokens subject)) (ls ∷ []))) out)
  unfolding match_table
  match_holds subject out fits = rw (counts_hold, walk-holds 1024 a n m ts ls H (map fnv (tokens subject)) (hashes_fit (tokens subject)) (omega (arith, fits))) refl
