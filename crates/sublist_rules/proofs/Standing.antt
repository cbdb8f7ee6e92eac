-- The area that an accepted build leaves holds the tree of the lines, with each node's targets in order.
use Prim.Native.Nat.{ℕ, ◌+◌, ◌-◌, ◌*◌, ◌<◌, ◌≤◌, max}
use native.Mathlib.Omega.{arith}
use native.Mathlib.Decide.{ℕ_discrete}
use mathlib.Core.Path.{◌≡◌, refl, sym, ap, ◌∙◌}
use mathlib.Core.Bool.{Bool, true, false, beq}
use mathlib.Core.List.{List, [], ◌∷◌, map}
use lib.Dec.{eqb}
use lib.ListN.{length, get_or, length-map}
use Rattle.subject_rules.specs.Choice.{pick, and}
use Rattle.sublist_tree.specs.Tree.{Key, Line, line, below, ends, worst, target_of, left_at}
use Rattle.sublist_tree.proofs.Fork.{Within}
use Rattle.sublist_tree.proofs.Bytes.{eqb_sound, eqb_whole}
use Rattle.sublist_trie.proofs.Trie.{Trie, root, size, run, child, ins_t, built}
use Rattle.sublist_trie.proofs.Ends.{LineEnd, line_end, ends_from, ends_of, targets_at}
use Rattle.sublist_trie.proofs.Pass.{untold}
use Rattle.sublist_trie.proofs.Children.{built_for}
use Rattle.sublist_trie.proofs.Runs.{size_pos, run_root, run_child, child_less}
use Rattle.sublist_trie.proofs.Growth.{good_built}
use Rattle.sublist_trie.proofs.For.{child_none, child_some}
use Rattle.sublist_trie.proofs.Targets.{targets-at, built-ends}
use Rattle.sublist_trie.proofs.Worst.{settled-start}
use Rattle.sublist_area_rules.specs.Words.{word, child_of}
use Rattle.sublist_area_rules.specs.Growing.{planted}
use Rattle.sublist_area_rules.proofs.Stores.{planted_zero}
use Rattle.sublist_area_rules.proofs.Hashes.{Rep, rep_kept, rep_root, star-word, lookup_there, lookup_none}
use Rattle.sublist_walk_rules.specs.Walk.{part}
use Rattle.sublist_walk_rules.specs.Holds.{Leads, Holds}
use Rattle.sublist_rules.specs.Passes.{End, start_word, count_word, node_worst, settled, laid, filling, filled}
use Rattle.sublist_rules.proofs.Laying.{length-laid, laid_word}
use Rattle.sublist_rules.proofs.Filling.{count_ends, pick_ends, length-filled, length-targets, filled-word}
use Rattle.sublist_rules.specs.Passes.{node_words_in, target_words_in}
use Rattle.sublist_rules.proofs.Ranges.{range-fits, range-says, targets-left}
use Rattle.sublist_rules.proofs.Settling.{settled-word, length-settled, settle_worst}
use Rattle.sublist_rules.proofs.Entering.{to_end, Entered}

-- the root alone, before any line
pub entered_root : (a : List ℕ) → 16 ≤ length a → Entered (planted a) root []
unfolding size
entered_root a l = record {
  rep = rep_root a l;
  inside = tt;
  counts = λ i b h. zero_at i h (count_word b) (small b);
  starts = λ i b h. zero_at i h (start_word b) (small' b);
}
  where
    zero_at : (i : ℕ) → i < 1 → (f : ℕ) → f < 16 → word (planted a) i f ≡ 0
    zero_at i h f lf = let e : i * 16 + f ≡ f = omega arith in ap (λ x. get_or (planted a) x 0) e ∙ planted_zero a l f lf

    small : (b : Bool) → count_word b < 16
    small true = omega arith
    small false = omega arith

    small' : (b : Bool) → start_word b < 16
    small' true = omega arith
    small' false = omega arith

abbrev pub target_end : LineEnd → ℕ
target_end (line_end j tail target) = target

-- the targets picked by their ends
pub pick-targets : (i : ℕ) (b : Bool) (es : List LineEnd) → pick_ends i b (map to_end es) (map target_end es) ≡ targets_at i b es
unfolding targets_at
pick-targets i b [] = refl
pick-targets i b (line_end j tail x ∷ es) = ap (λ l. pick (and (eqb j i) (beq tail b)) (x ∷ l) l) (pick-targets i b es)

ends-targets : (ls : List (Line ℕ)) (t : Trie ℕ) → map target_end (ends_from eqb t ls) ≡ map target_of ls
unfolding ends_from
ends-targets [] t = refl
ends-targets (line ks tail x ∷ ls) t = ap (λ l. x ∷ l) (ends-targets ls (ins_t eqb t 0 ks).0)

pub all_targets : (ls : List (Line ℕ)) → map target_end (ends_of eqb ls) ≡ map target_of ls
unfolding ends_of
all_targets ls = ends-targets ls root

module _ (ls : List (Line ℕ)) (b : List ℕ) (ok : Entered b (built eqb ls) (map to_end (ends_of eqb ls))) where
  abbrev T : Trie ℕ
  T = built eqb ls

  -- the second pass finds the worst case
  pub worst-found : (d : ℕ) → Within d ls → max 1 (length ls) < 4294967296 → node_worst (settled b (size T - 1)) 0 ≡ worst eqb d ls
  unfolding untold left_at
  worst-found d within few =
      settle_worst d ls within few (size T - 1) b untold (settled-start eqb eqb_sound eqb_whole d ls (built eqb ls) (built_for eqb eqb_sound eqb_whole ls)) (omega (arith, size_pos T))
      (ok.rep.room, ok.rep.parents, (λ i l. star-word b T ok.rep i l)) (λ p l. (ok.starts p false (omega (arith, size_pos T)), ok.starts p true (omega (arith, size_pos T))))
      ∙ ap (λ r. worst eqb d (left_at eqb ls r)) (run_root T)

  abbrev a : List ℕ
  a = settled b (size T - 1)

  abbrev es : List End
  es = map to_end (ends_of eqb ls)

  abbrev xs : List ℕ
  xs = map target_end (ends_of eqb ls)

  len : length es ≡ length xs
  len = length-map (ends_of eqb ls) to_end ∙ sym (length-map (ends_of eqb ls) target_end)

  settled_rep : Rep a T
  settled_rep =
      rep_kept b a T (length-settled (size T - 1) b)
      (λ f l i h. settled-word (size T - 1) b i f (omega arith) (λ e. omega arith) (λ e. omega arith))
      (λ f l m i h. settled-word (size T - 1) b i f (omega arith) (λ e. omega arith) (λ e. omega arith))
      ok.rep

  count-exact : (i : ℕ) → i < size T → word a i 5 ≡ count_ends i false es
  count-exact i l = settled-word (size T - 1) b i 5 (omega arith) (λ e. omega arith) (λ e. omega arith) ∙ ok.counts i false l

  count-tails : (i : ℕ) → i < size T → word a i 7 ≡ count_ends i true es
  count-tails i l = settled-word (size T - 1) b i 7 (omega arith) (λ e. omega arith) (λ e. omega arith) ∙ ok.counts i true l

  module _ (ts : List ℕ) (wide : length es ≤ length ts) (few : length es < 4294967296) where
    -- the words of nodes and of targets at the end
    abbrev pub nodes_after : List ℕ
    nodes_after = node_words_in (filled (filling (laid a 0 (size T) 0) ts) es xs)

    abbrev pub targets_after : List ℕ
    targets_after = target_words_in (filled (filling (laid a 0 (size T) 0) ts) es xs)

    last_rep : Rep nodes_after T
    last_rep =
        rep_kept a nodes_after T (length-filled es xs (laid a 0 (size T) 0) ts ∙ length-laid a 0 (size T) 0)
        (λ f l i h. filled-word es xs (laid a 0 (size T) 0) ts i f (omega arith) (λ e. omega arith) (λ e. omega arith)
        ∙ laid_word (size T) 0 a 0 i f (omega arith) (λ e. omega arith) (λ e. omega arith) (λ e. omega arith) (λ e. omega arith))
        (λ f l m i h. filled-word es xs (laid a 0 (size T) 0) ts i f (omega arith) (λ e. omega arith) (λ e. omega arith)
        ∙ laid_word (size T) 0 a 0 i f (omega arith) (λ e. omega arith) (λ e. omega arith) (λ e. omega arith) (λ e. omega arith))
        settled_rep

    fits : (i : ℕ) (c : Bool) → i < size T → word nodes_after i (start_word c) + word nodes_after i (count_word c) ≤ length es
    fits = range-fits (size T) a ts es xs len ok.inside settled_rep.room wide few count-exact count-tails

    says : (i : ℕ) (c : Bool) → i < size T → part targets_after (word nodes_after i (start_word c)) (word nodes_after i (count_word c)) ≡ ends c (left_at eqb ls (run T i))
    says i c l =
        range-says (size T) a ts es xs len ok.inside settled_rep.room wide few count-exact count-tails i c l
        ∙ pick-targets i c (ends_of eqb ls) ∙ targets-at eqb eqb_sound eqb_whole ls (built eqb ls) (built_for eqb eqb_sound eqb_whole ls) (ends_of eqb ls) (built-ends eqb eqb_sound eqb_whole ls) i c l

    leads : (i : ℕ) (k : Key ℕ) → i < size T → Leads (size T) (run T) (run T i) k (below eqb k (left_at eqb ls (run T i))) (child_of nodes_after (size T) i k)
    leads i k l = go (ℕ_discrete (child eqb T i k) 0)
      where
        go : Dec (child eqb T i k ≡ 0) → Leads (size T) (run T) (run T i) k (below eqb k (left_at eqb ls (run T i))) (child_of nodes_after (size T) i k)
        go (yes z) = rw (lookup_none nodes_after T last_rep i l k z) (child_none eqb eqb_sound eqb_whole ls (built eqb ls) (built_for eqb eqb_sound eqb_whole ls) i k l z)
        go (no n) =
            rw (lookup_there nodes_after T last_rep i l k n)
            (child_less eqb T i k, run_child eqb eqb_sound eqb_whole T i k (good_built eqb eqb_sound eqb_whole ls) n, (child_some eqb eqb_sound eqb_whole ls (built eqb ls) (built_for eqb eqb_sound eqb_whole ls) i k n).0)

    -- the area reads back as the tree of the lines
    pub stands : Holds nodes_after (size T) (length es) targets_after ls
    stands = record {
      rooted = size_pos T;
      nodes_fit = last_rep.room;
      targets_fit = omega (arith, wide, length-targets es xs (laid a 0 (size T) 0) ts);
      label = run T;
      top = run_root T;
      child = λ i k l s. leads i k l;
      exact = λ i l. (fits i false l, says i false l);
      tails = λ i l. (fits i true l, says i true l);
    }

    -- the target words behind are left
    pub targets-kept : (p : ℕ) → length es ≤ p → get_or targets_after p 0 ≡ get_or ts p 0
    targets-kept = targets-left (size T) a ts es xs len ok.inside settled_rep.room wide few count-exact count-tails
