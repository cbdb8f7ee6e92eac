-- A node that a lookup gives or that is made is one of those counted, and they fit the area.
use Rattle.std.proofs.Common.{◌≡◌, ℕ, zero, suc, ◌+◌, ◌*◌, ◌/◌, ◌%◌, ◌<◌, ◌≤◌, eqb, leb, List, length, get_or, Result, Ok, Err, sym, subst, ap, ◌∙◌, arith, leb-false}
use Rattle.sublist_tree.specs.Tree.{Key, star, lit}
use Rattle.sublist_area_rules.specs.declared.Child.{Child}
use Rattle.sublist_area_rules.specs.declared.Child.TheVariants.{Node, Missing, Damaged}
use Rattle.sublist_area_rules.specs.declared.Placed.{Placed}
use Rattle.sublist_area_rules.specs.declared.PlaceError.{PlaceError}
use Rattle.sublist_area_rules.specs.Words.{Met, word, by_hash, outside, seek, literal_child, star_child, child_of}
use Rattle.sublist_area_rules.specs.Growing.{placed, child_or_new}
use Rattle.sublist_trie.proofs.Runs.{pick_ind}
use Rattle.sublist_area_rules.proofs.Turns.{met_ind}

abbrev NodeBelow : ℕ → Child → Type 0
NodeBelow n (Node j) = j < n
NodeBelow n (Missing link) = Unit {0}
NodeBelow n Damaged = Unit {0}

-- the node is one of those counted, and they fit so many words
abbrev PlaceFits : ℕ → Result Placed PlaceError → Type 0
PlaceFits words (Ok p) = (p.node < p.count) × (p.count * 16 ≤ words)
PlaceFits words (Err e) = Unit {0}

module _ (a : List ℕ) (n : ℕ) where
  seek_node : (test : ℕ → Met) (f rest link : ℕ) → NodeBelow n (seek test a n rest f link)
  unfolding seek
  seek_node test zero rest link = pick_ind (NodeBelow n) (eqb (get_or a link 0) 0) (λ _. tt) (λ _. tt)
  seek_node test (suc f) rest link =
      pick_ind (NodeBelow n) (eqb (get_or a link 0) 0) (λ _. tt)
      (λ _. pick_ind (NodeBelow n) (leb n (get_or a link 0)) (λ _. tt)
      (λ t. met_ind (NodeBelow n) (test (get_or a link 0)) (λ _. leb-false n (get_or a link 0) t)
      (λ _. seek_node test f (rest / 4) (get_or a link 0 * 16 + 8 + rest % 4)) (λ _. tt)))

  child-below : (i : ℕ) (k : Key ℕ) → NodeBelow n (child_of a n i k)
  unfolding star_child literal_child
  child-below i star =
      pick_ind (NodeBelow n) (outside a n i) (λ _. tt)
      (λ _. pick_ind (NodeBelow n) (eqb (word a i 3) 0) (λ _. tt)
      (λ _. pick_ind (NodeBelow n) (leb n (word a i 3)) (λ _. tt) (λ t. leb-false n (word a i 3) t)))
  child-below i (lit h) = pick_ind (NodeBelow n) (outside a n i) (λ _. tt) (λ _. seek_node (by_hash a h) n h (i * 16 + 2))

  placed-fits : (c : Child) (i : ℕ) (k : Key ℕ) → n * 16 ≤ length a → NodeBelow n c → PlaceFits (length a) (placed c a n i k).0
  unfolding placed
  placed-fits (Node j) i k h b = (b, h)
  placed-fits (Missing link) i k h b =
      pick_ind (λ (s : Result Placed PlaceError × List ℕ). PlaceFits (length a) s.0) (leb (length a / 16) n) (λ _. tt)
      (λ t. pick_ind (λ (s : Result Placed PlaceError × List ℕ). PlaceFits (length a) s.0) (leb 4294967295 n) (λ _. tt)
      (λ _. (omega arith, omega (arith, leb-false (length a / 16) n t))))
  placed-fits Damaged i k h b = tt

  pub place_fits : (i : ℕ) (k : Key ℕ) (r : Result Placed PlaceError) (b : List ℕ) → (r, b) ≡ child_or_new a n i k → n * 16 ≤ length a
      → (p : Placed) → r ≡ Ok p → (p.node < p.count) × (p.count * 16 ≤ length a)
  unfolding child_or_new
  place_fits i k r b e h p q = subst (PlaceFits (length a)) (sym (ap (λ (s : Result Placed PlaceError × List ℕ). s.0) e) ∙ q) (placed-fits (child_of a n i k) i k h (child-below i k))
