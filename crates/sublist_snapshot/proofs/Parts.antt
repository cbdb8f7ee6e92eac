-- A table's words cut to its counts: lookups read nothing else, so the cut areas hold what the whole ones hold.
use Rattle.std.proofs.Common.{◌≡◌, ℕ, zero, suc, ◌+◌, ◌*◌, ◌/◌, ◌%◌, ◌<◌, ◌≤◌, Bool, true, false, eqb, leb, List, length, get_or, take, refl, ap, ◌∙◌, arith, length-take-le, get_or-take, le-ltb, leb-false}
use borrow.Author.Tests.{lt-leb}
use Rattle.subject_rules.specs.Choice.{pick}
use Rattle.sublist_tree.specs.Tree.{Key, star, lit, Line, ends, left_at}
use Rattle.sublist_area_rules.specs.declared.Child.TheVariants.{Node, Missing, Damaged}
use Rattle.sublist_area_rules.specs.Words.{Met, met, told, word, hash_is, by_hash, outside, seek, literal_child, star_child, child_of}
use Rattle.sublist_walk_rules.proofs.Parts.{part-take}
use Rattle.sublist_walk_rules.specs.Holds.{Says, Holds}

module _ (a : List ℕ) (n : ℕ) (fits : n * 16 ≤ length a) where
  pub word-part : (i f : ℕ) → i < n → f < 16 → word (take (n * 16) a) i f ≡ word a i f
  word-part i f h k = get_or-take (n * 16) a (i * 16 + f) 0 (omega arith)

  hash_part : (i h : ℕ) → i < n → hash_is (take (n * 16) a) i h ≡ hash_is a i h
  hash_part i h l = rw (word-part i 0 l (omega arith), word-part i 1 l (omega arith))

  inside_whole : (i : ℕ) → i < n → outside a n i ≡ false
  inside_whole i h = rw (le-ltb (length a / 16) n (omega arith), lt-leb n i h)

  inside-part : (i : ℕ) → i < n → outside (take (n * 16) a) n i ≡ false
  inside-part i h = rw (le-ltb (length (take (n * 16) a) / 16) n (omega (arith, length-take-le (n * 16) a fits)), lt-leb n i h)

  -- whatever the test is, if it says the same of the nodes
  seek-part : (test' test : ℕ → Met) → ((i : ℕ) → i < n → test' i ≡ test i) → (rest steps link : ℕ) → link < n * 16
      → seek test' (take (n * 16) a) n rest steps link ≡ seek test a n rest steps link
  unfolding seek
  seek-part test' test same rest zero link l = rw (get_or-take (n * 16) a link 0 l)
  seek-part test' test same rest (suc steps) link l =
      rw (get_or-take (n * 16) a link 0 l)
      (ap (pick (eqb (get_or a link 0) 0) (Missing link)) (go (leb n (get_or a link 0)) refl (λ k. seek-part test' test same (rest / 4) steps (get_or a link 0 * 16 + 8 + rest % 4) k)))
    where
      go : (b : Bool) → leb n (get_or a link 0) ≡ b
          → (get_or a link 0 * 16 + 8 + rest % 4 < n * 16
          → seek test' (take (n * 16) a) n (rest / 4) steps (get_or a link 0 * 16 + 8 + rest % 4) ≡ seek test a n (rest / 4) steps (get_or a link 0 * 16 + 8 + rest % 4))
          → pick b Damaged (met (test' (get_or a link 0)) (Node (get_or a link 0)) (seek test' (take (n * 16) a) n (rest / 4) steps (get_or a link 0 * 16 + 8 + rest % 4)))
          ≡ pick b Damaged (met (test (get_or a link 0)) (Node (get_or a link 0)) (seek test a n (rest / 4) steps (get_or a link 0 * 16 + 8 + rest % 4)))
      go true e ih = refl
      go false e ih =
          let low = leb-false n (get_or a link 0) e in
          rw (same (get_or a link 0) low, ih (omega arith))

  pub child-part : (i : ℕ) (k : Key ℕ) → i < n → child_of (take (n * 16) a) n i k ≡ child_of a n i k
  unfolding literal_child star_child
  child-part i star l = rw (inside-part i l, inside_whole i l, word-part i 3 l (omega arith))
  child-part i (lit h) l = rw (inside-part i l, inside_whole i l) (seek-part (by_hash (take (n * 16) a) h) (by_hash a h) (λ j l. ap told (hash_part j h l)) h n (i * 16 + 2) (omega arith))

-- the areas that hold a tree hold it within the table's counts
pub holds-part : (a : List ℕ) (n m : ℕ) (ts : List ℕ) (ls : List (Line ℕ)) → Holds a n m ts ls → Holds (take (n * 16) a) n m (take m ts) ls
holds-part a n m ts ls H = record {
  rooted = H.rooted;
  nodes_fit = omega (arith, length-take-le (n * 16) a H.nodes_fit);
  targets_fit = omega (arith, length-take-le m ts H.targets_fit);
  label = H.label;
  top = H.top;
  child = λ i k l small. rw (child-part a n H.nodes_fit i k l) (H.child i k l small);
  exact = λ i l. says i 4 l (omega arith) (ends false (left_at eqb ls (H.label i))) (H.exact i l);
  tails = λ i l. says i 6 l (omega arith) (ends true (left_at eqb ls (H.label i))) (H.tails i l);
}
  where
    says : (i f : ℕ) → i < n → f < 15 → (targets : List ℕ) → Says a m ts i f targets → Says (take (n * 16) a) m (take m ts) i f targets
    says i f l k targets s =
        rw (word-part a n H.nodes_fit i f l (omega arith), word-part a n H.nodes_fit i (f + 1) l (omega arith))
        (s.0, part-take m ts (word a i f) (word a i (f + 1)) s.0 ∙ s.1)
