-- The second pass on an area is the pass over the tree that it holds: the root's worst case comes out, and no word but 4 and 6 changes.
use Prim.Native.Nat.{ℕ, zero, suc, ◌+◌, ◌*◌, ◌<◌, ◌≤◌, max}
use native.Mathlib.Omega.{arith}
use native.Mathlib.Decide.{ℕ_discrete}
use mathlib.Core.Path.{◌≡◌, refl, sym, ap, ◌∙◌, subst}
use mathlib.Core.Bool.{Bool, true, false}
use mathlib.Core.List.{List}
use lib.Dec.{eqb, ltb}
use lib.ListN.{length, set, length-set}
use borrow.Author.Tests.{lt-ltb}
use Rattle.subject_rules.specs.Choice.{pick}
use Rattle.sublist_tree.specs.Tree.{Line, star, worst, left_at}
use Rattle.sublist_tree.proofs.Fork.{Within}
use Rattle.sublist_tree.proofs.Bytes.{eqb_sound, eqb_whole}
use Rattle.sublist_trie.proofs.Trie.{Trie, size, parent_of, child, built, run}
use Rattle.sublist_trie.proofs.Pass.{Told, value_of, put, tell}
use Rattle.sublist_trie.proofs.Children.{built_for}
use Rattle.sublist_trie.proofs.Runs.{child_of}
use Rattle.sublist_trie.proofs.Growth.{good_built}
use Rattle.sublist_trie.proofs.Worst.{put_same, put_other, Settled, settled_tell, settled-value, value_bound}
use Rattle.sublist_area_rules.specs.Words.{word}
use Rattle.sublist_rules.specs.Passes.{node_worst, told, settled}
use Rattle.sublist_rules.proofs.Stores.{word_set, word_field, word_node}

told-word : (a : List ℕ) (i p j g : ℕ) → g < 16 → (4 ≡ g → ⊥) → (6 ≡ g → ⊥) → word (told a i p) j g ≡ word a j g
unfolding told
told-word a i p j g lg d4 d6 = go (ltb p i) (eqb (word a p 3) i)
  where
    go : (b c : Bool) → word (pick b (pick c (set a (p * 16 + 4) (node_worst a i)) (set a (p * 16 + 6) (max (word a p 6) (node_worst a i)))) a) j g ≡ word a j g
    go true true = word_field a p 4 (node_worst a i) j g (omega arith) lg d4
    go true false = word_field a p 6 (max (word a p 6) (node_worst a i)) j g (omega arith) lg d6
    go false c = refl

pub settled-word : (m : ℕ) (a : List ℕ) (j g : ℕ) → g < 16 → (4 ≡ g → ⊥) → (6 ≡ g → ⊥) → word (settled a m) j g ≡ word a j g
unfolding settled
settled-word zero a j g lg d4 d6 = refl
settled-word (suc m) a j g lg d4 d6 = settled-word m (told a (suc m) (word a (suc m) 12)) j g lg d4 d6 ∙ told-word a (suc m) (word a (suc m) 12) j g lg d4 d6

length-told : (a : List ℕ) (i p : ℕ) → length (told a i p) ≡ length a
unfolding told
length-told a i p = go (ltb p i) (eqb (word a p 3) i)
  where
    go : (b c : Bool) → length (pick b (pick c (set a (p * 16 + 4) (node_worst a i)) (set a (p * 16 + 6) (max (word a p 6) (node_worst a i)))) a) ≡ length a
    go true true = length-set a (p * 16 + 4) (node_worst a i)
    go true false = length-set a (p * 16 + 6) (max (word a p 6) (node_worst a i))
    go false c = refl

pub length-settled : (m : ℕ) (a : List ℕ) → length (settled a m) ≡ length a
unfolding settled
length-settled zero a = refl
length-settled (suc m) a = length-settled m (told a (suc m) (word a (suc m) 12)) ∙ length-told a (suc m) (word a (suc m) 12)

module _ (d : ℕ) (ls : List (Line ℕ)) (within : Within d ls) (few : max 1 (length ls) < 4294967296) where
  abbrev T : Trie ℕ
  T = built eqb ls

  -- the words 3 and 12 say the `*` child and the parent of each node
  abbrev pub Agrees : List ℕ → Type 0
  Agrees a = (size T * 16 ≤ length a) × ((i : ℕ) → i < size T → word a i 12 ≡ parent_of T i) × ((i : ℕ) → i < size T → word a i 3 ≡ child eqb T i star)

  -- the words 4 and 6 of the nodes up to m say what they have been told
  abbrev Tells : List ℕ → ℕ → Told → Type 0
  Tells a m s = (p : ℕ) → p ≤ m → (word a p 4 ≡ s.0 p) × (word a p 6 ≡ s.1 p)

  value : (a : List ℕ) (m : ℕ) (s : Told) → Settled eqb d ls (built eqb ls) m s → m < size T → Tells a m s → node_worst a m ≡ value_of s m
  unfolding value_of
  value a m s ok l t = omega (arith, (t m (omega arith)).0, (t m (omega arith)).1, value_bound eqb eqb_sound eqb_whole d ls (built eqb ls) (built_for eqb eqb_sound eqb_whole ls) within m s ok l, few)

  -- one node tells its parent
  told_tells : (a : List ℕ) (m : ℕ) (s : Told) → Settled eqb d ls (built eqb ls) (suc m) s → suc m < size T → Agrees a → Tells a (suc m) s
      → Tells (told a (suc m) (word a (suc m) 12)) m (tell eqb T (suc m) s)
  unfolding told tell
  told_tells a m s ok l agrees tells q lq =
      subst (λ x. (word (told a (suc m) x) q 4 ≡ (tell eqb T (suc m) s).0 q) × (word (told a (suc m) x) q 6 ≡ (tell eqb T (suc m) s).1 q)) (sym (agrees.1 (suc m) l))
      (rw (lt-ltb (parent_of T (suc m)) (suc m) low, agrees.2 (parent_of T (suc m)) (omega (arith, low))) (go (eqb (child eqb T (parent_of T (suc m)) star) (suc m)) (ℕ_discrete q (parent_of T (suc m)))))
    where
      low : parent_of T (suc m) < suc m
      low = (child_of eqb eqb_sound eqb_whole T (suc m) (good_built eqb eqb_sound eqb_whole ls) (omega arith) l).1

      at_4 : parent_of T (suc m) * 16 + 4 < length a
      at_4 = omega (arith, low, agrees.0)

      at_6 : parent_of T (suc m) * 16 + 6 < length a
      at_6 = omega (arith, low, agrees.0)

      w : node_worst a (suc m) ≡ value_of s (suc m)
      w = value a (suc m) s ok l tells

      go : (b : Bool) → Dec (q ≡ parent_of T (suc m))
          → (word (pick b (set a (parent_of T (suc m) * 16 + 4) (node_worst a (suc m))) (set a (parent_of T (suc m) * 16 + 6) (max (word a (parent_of T (suc m)) 6) (node_worst a (suc m))))) q 4
          ≡ (pick {A = Told} b (put s.0 (parent_of T (suc m)) (value_of s (suc m)), s.1) (s.0, put s.1 (parent_of T (suc m)) (max (s.1 (parent_of T (suc m))) (value_of s (suc m))))).0 q)
          × (word (pick b (set a (parent_of T (suc m) * 16 + 4) (node_worst a (suc m))) (set a (parent_of T (suc m) * 16 + 6) (max (word a (parent_of T (suc m)) 6) (node_worst a (suc m))))) q 6
          ≡ (pick {A = Told} b (put s.0 (parent_of T (suc m)) (value_of s (suc m)), s.1) (s.0, put s.1 (parent_of T (suc m)) (max (s.1 (parent_of T (suc m))) (value_of s (suc m))))).1 q)
      go true (yes e) = (
        ap (λ x. word (set a (parent_of T (suc m) * 16 + 4) (node_worst a (suc m))) x 4) e ∙ word_set a (parent_of T (suc m)) 4 (node_worst a (suc m)) at_4 ∙ w ∙ sym (put_same s.0 (parent_of T (suc m)) (value_of s (suc m)) q e),
        word_field a (parent_of T (suc m)) 4 (node_worst a (suc m)) q 6 (omega arith) (omega arith) (λ f. omega arith) ∙ (tells q (omega arith)).1,
      )
      go true (no f) = (
        word_node a (parent_of T (suc m)) 4 (node_worst a (suc m)) q 4 (omega arith) (omega arith) (λ e. f (sym e)) ∙ (tells q (omega arith)).0 ∙ sym (put_other s.0 (parent_of T (suc m)) (value_of s (suc m)) q f),
        word_field a (parent_of T (suc m)) 4 (node_worst a (suc m)) q 6 (omega arith) (omega arith) (λ g. omega arith) ∙ (tells q (omega arith)).1,
      )
      go false (yes e) = (
        word_field a (parent_of T (suc m)) 6 (max (word a (parent_of T (suc m)) 6) (node_worst a (suc m))) q 4 (omega arith) (omega arith) (λ f. omega arith) ∙ (tells q (omega arith)).0,
        ap (λ x. word (set a (parent_of T (suc m) * 16 + 6) (max (word a (parent_of T (suc m)) 6) (node_worst a (suc m)))) x 6) e
            ∙ word_set a (parent_of T (suc m)) 6 (max (word a (parent_of T (suc m)) 6) (node_worst a (suc m))) at_6
            ∙ omega (arith, w, (tells (parent_of T (suc m)) (omega (arith, low))).1) ∙ sym (put_same s.1 (parent_of T (suc m)) (max (s.1 (parent_of T (suc m))) (value_of s (suc m))) q e),
      )
      go false (no f) = (
        word_field a (parent_of T (suc m)) 6 (max (word a (parent_of T (suc m)) 6) (node_worst a (suc m))) q 4 (omega arith) (omega arith) (λ g. omega arith) ∙ (tells q (omega arith)).0,
        word_node a (parent_of T (suc m)) 6 (max (word a (parent_of T (suc m)) 6) (node_worst a (suc m))) q 6 (omega arith) (omega arith) (λ e. f (sym e)) ∙ (tells q (omega arith)).1
            ∙ sym (put_other s.1 (parent_of T (suc m)) (max (s.1 (parent_of T (suc m))) (value_of s (suc m))) q f),
      )

  -- the root's worst case
  pub settle_worst : (m : ℕ) (a : List ℕ) (s : Told) → Settled eqb d ls (built eqb ls) m s → m < size T → Agrees a → Tells a m s → node_worst (settled a m) 0 ≡ worst eqb d (left_at eqb ls (run T 0))
  unfolding settled
  settle_worst zero a s ok l agrees tells = value a 0 s ok l tells ∙ settled-value eqb eqb_sound eqb_whole d ls (built eqb ls) (built_for eqb eqb_sound eqb_whole ls) within 0 s ok l
  settle_worst (suc m) a s ok l agrees tells =
      settle_worst m (told a (suc m) (word a (suc m) 12)) (tell eqb T (suc m) s) (settled_tell eqb eqb_sound eqb_whole d ls (built eqb ls) (built_for eqb eqb_sound eqb_whole ls) within m s ok l) (omega arith) (
        omega (arith, length-told a (suc m) (word a (suc m) 12)),
        (λ i h. told-word a (suc m) (word a (suc m) 12) i 12 (omega arith) (λ e. omega arith) (λ e. omega arith) ∙ agrees.1 i h),
        (λ i h. told-word a (suc m) (word a (suc m) 12) i 3 (omega arith) (λ e. omega arith) (λ e. omega arith) ∙ agrees.2 i h),
      )
      (told_tells a m s ok l agrees tells)
