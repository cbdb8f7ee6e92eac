-- What a turn of the loop of `seek_sibling` makes of `seek`, and where a missing link stands.
use Prim.Native.Nat.{ℕ, zero, suc, ◌+◌, ◌*◌, ◌/◌, ◌%◌, ◌<◌}
use native.Mathlib.Omega.{arith}
use mathlib.Core.Path.{◌≡◌, refl, sym}
use mathlib.Core.List.{List}
use lib.Dec.{leb, eqb}
use lib.ListN.{get_or}
use borrow.Author.Tests.{eq-eqb, ne_eqb, lt-leb, leb-false}
use Rattle.subject_rules.specs.Choice.{pick}
use Rattle.sublist_trie.proofs.Runs.{pick_ind}
use Rattle.sublist_area_rules.specs.declared.Child.{Child}
use Rattle.sublist_area_rules.specs.declared.Child.TheVariants.{Node, Missing, Damaged}
use Rattle.sublist_area_rules.specs.Words.{Met, Here, Passed, Outside, met, seek}

-- a link that is missing is a word of the n nodes
abbrev pub Below : ℕ → Child → Type 0
Below n (Node j) = Unit {0}
Below n (Missing link) = link < n * 16
Below n Damaged = Unit {0}

pub below-missing : (n : ℕ) (c : Child) (link : ℕ) → Below n c → c ≡ Missing link → link < n * 16
below-missing n (Node j) link b e = absurd (cc)
below-missing n (Missing l) link b e = let z : l ≡ link = cc in omega arith
below-missing n Damaged link b e = absurd (cc)

-- whatever the test of a node says
pub met_ind : (P : Child → Type 0) (m : Met) {x y : Child} → (m ≡ Here → P x) → (m ≡ Passed → P y) → (m ≡ Outside → P Damaged) → P (met m x y)
met_ind P Here f g d = f refl
met_ind P Passed f g d = g refl
met_ind P Outside f g d = d refl

module _ (test : ℕ → Met) (a : List ℕ) (n : ℕ) where
  pub seek_none : (rest f link : ℕ) → get_or a link 0 ≡ 0 → seek test a n rest f link ≡ Missing link
  unfolding seek
  seek_none rest zero link e = rw (eq-eqb (get_or a link 0) 0 e)
  seek_none rest (suc f) link e = rw (eq-eqb (get_or a link 0) 0 e)

  -- x is the answer that is sought, id is the number that stands in the link, and there are steps left
  module _ (x : Child) (rest f link id : ℕ) (e : x ≡ seek test a n rest f link) (q : id ≡ get_or a link 0) (g : ℕ) (s : f ≡ suc g) (k : id ≡ 0 → ⊥) where
    at_step : x ≡ pick (leb n id) Damaged (met (test id) (Node id) (seek test a n (rest / 4) g (id * 16 + 8 + rest % 4)))
    unfolding seek
    at_step = rw (s, ← q, ne_eqb id 0 k) at e

    pub at-hit : id < n → test id ≡ Here → Node id ≡ x
    at-hit l t = sym (rw (lt-leb n id l, t) at at_step)

    pub at_next : id < n → test id ≡ Passed → x ≡ seek test a n (rest / 4) g (id * 16 + 8 + rest % 4)
    at_next l t = rw (lt-leb n id l, t) at at_step

  pub seek-below : (f rest link : ℕ) → link < n * 16 → Below n (seek test a n rest f link)
  unfolding seek
  seek-below zero rest link l = pick_ind (Below n) (eqb (get_or a link 0) 0) (λ _. l) (λ _. tt)
  seek-below (suc f) rest link l =
      pick_ind (Below n) (eqb (get_or a link 0) 0) (λ _. l)
      (λ _. pick_ind (Below n) (leb n (get_or a link 0)) (λ _. tt)
      (λ t. met_ind (Below n) (test (get_or a link 0)) (λ _. tt)
      (λ _. seek-below f (rest / 4) (get_or a link 0 * 16 + 8 + rest % 4) (omega (arith, leb-false n (get_or a link 0) t))) (λ _. tt)))
