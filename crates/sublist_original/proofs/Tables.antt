-- The original's final nodes hold the tree of a list of lines.
use Prim.Native.Nat.{ℕ, ◌<◌}
use mathlib.Core.Path.{◌≡◌, ◌∙◌}
use mathlib.Core.Bool.{true, false}
use mathlib.Core.List.{List}
use lib.Dec.{eqb}
use lib.ListN.{length, get_or}
use Rattle.sublist_tree.specs.Tree.{star, lit, Line, ends}
use Rattle.sublist_tree.proofs.Bytes.{eqb_sound, eqb_whole}
use Rattle.sublist_trie.proofs.Trie.{size, child, built}
use Rattle.sublist_trie.proofs.Ends.{ends_of}
use Rattle.sublist_trie.proofs.Children.{built_for}
use Rattle.sublist_tree.proofs.Members.{In, Distinct}
use Rattle.sublist_trie.proofs.For.{left_of}
use Rattle.sublist_trie.proofs.Targets.{targets-at, built-ends}
use Rattle.sublist_original.specs.Original.{Literal, Ascending, Std, new_scratch, Arena, Node}
use Rattle.sublist_original.proofs.Library.{reordered_in, in_reordered, keys, reordered-apart}
use Rattle.sublist_original.proofs.Scratches.{optional}
use Rattle.sublist_original.proofs.Arenas.{Stands}
use Rattle.sublist_original.proofs.Flattening.{Range, no_node, Flat}

pub record Tabled (ls : List (Line ℕ)) (ns : List Node) (ts : List ℕ) : Type 0 where
  pub many : length ns ≡ size (built eqb ls)
  pub ascending : (i : ℕ) → i < size (built eqb ls) → Ascending (get_or ns i no_node).literals
  pub child_of_literal : (i h c : ℕ) → i < size (built eqb ls) → In {A = Literal} (h, c) (get_or ns i no_node).literals → (child eqb (built eqb ls) i (lit h) ≡ c) × (c ≡ 0 → ⊥)
  pub literal_of_child : (i h : ℕ) → i < size (built eqb ls) → (child eqb (built eqb ls) i (lit h) ≡ 0 → ⊥)
      → In {A = Literal} (h, child eqb (built eqb ls) i (lit h)) (get_or ns i no_node).literals
  pub apart : (i : ℕ) → i < size (built eqb ls) → Distinct (keys (get_or ns i no_node).literals)
  pub stars : (i : ℕ) → i < size (built eqb ls) → (get_or ns i no_node).star_child ≡ optional (child eqb (built eqb ls) i star)
  pub exacts : (i : ℕ) → i < size (built eqb ls) → Range ts (get_or ns i no_node).terminal (ends false (left_of eqb ls (built eqb ls) i))
  pub tails : (i : ℕ) → i < size (built eqb ls) → Range ts (get_or ns i no_node).gt_terminal (ends true (left_of eqb ls (built eqb ls) i))

module _ (std : Std) (ls : List (Line ℕ)) (a : Arena ℕ) (s : Stands a (built eqb ls) (ends_of eqb ls)) (ts : List ℕ) (ns : List Node)
    (f : Flat std a (size (built eqb ls)) ts ns) where
  pub tabled : Tabled ls ns ts
  tabled = record {
    many = f.many;
    ascending = λ i l. rw (f.each i l).sorted (std.ascending (get_or a.nodes i new_scratch).literals);
    child_of_literal = λ i h c l m. s.held.child_of_literal i h c (in_reordered (std.reordered (get_or a.nodes i new_scratch).literals) (h, c) (rw (f.each i l).sorted at m));
    literal_of_child = λ i h l ne. rw (f.each i l).sorted
        (reordered_in (std.reordered (get_or a.nodes i new_scratch).literals) (h, child eqb (built eqb ls) i (lit h)) (s.held.literal_of_child i h ne));
    apart = λ i l. rw (f.each i l).sorted (reordered-apart (std.reordered (get_or a.nodes i new_scratch).literals) (s.held.apart i));
    stars = λ i l. (f.each i l).star ∙ s.held.stars i;
    exacts = λ i l. let r = (f.each i l).exacts in (r.0, r.1, r.2 ∙ s.exact.says i ∙ targets-at eqb eqb_sound eqb_whole ls (built eqb ls) (built_for eqb eqb_sound eqb_whole ls) (ends_of eqb ls) (built-ends eqb eqb_sound eqb_whole ls) i false l);
    tails = λ i l. let r = (f.each i l).tails in (r.0, r.1, r.2 ∙ s.tail.says i ∙ targets-at eqb eqb_sound eqb_whole ls (built eqb ls) (built_for eqb eqb_sound eqb_whole ls) (ends_of eqb ls) (built-ends eqb eqb_sound eqb_whole ls) i true l);
  }
