-- The search for a literal in a history, step by step: it ends at the child, or in the word of `place`, within as many steps as there are nodes.
use Prim.Native.Nat.{ℕ, suc, ◌+◌, ◌*◌, ◌/◌, ◌%◌, ◌<◌}
use native.Mathlib.Omega.{arith}
use native.Mathlib.Decide.{ℕ_discrete}
use mathlib.Core.Path.{◌≡◌, refl, sym, ◌∙◌, ap, subst}
use mathlib.Core.Logic.{◌⊎◌, inl, inr}
use mathlib.Core.Bool.{Bool, true, false}
use lib.Dec.{eqb}
use borrow.Author.Tests.{eqb-true}
use Rattle.sublist_tree.specs.Tree.{Key, star, lit, key_is}
use Rattle.sublist_tree.proofs.Order.{key_is-sound}
use Rattle.sublist_trie.proofs.Trie.{Trie, root, grow, size, child, Good}
use Rattle.sublist_trie.proofs.Runs.{pick_ind, size_pos, child_less, child-new, child-kept}
use Rattle.sublist_area_rules.proofs.Places.{place, rest, link, key_at, spot, spot_on, spot_off, link_new, link_old, link_less, key_new, key_old, Alike, sited, shared, place_free}

-- the search for h passes s nodes from word x, with r left of the hash, to word y, with q left
pub data Passes {K : Type 0} (hash : K → ℕ) (t : Trie K) (h : K) : ℕ → ℕ → ℕ → ℕ → ℕ → Type 0 where
  here : {r x : ℕ} → Passes hash t h r x 0 r x
  past : {r s q y : ℕ} (x v : ℕ) (g : K) → link hash t x ≡ v → (v ≡ 0 → ⊥) → key_at t v ≡ lit g → (g ≡ h → ⊥) → Passes hash t h (r / 4) (v * 16 + 8 + r % 4) s q y
      → Passes hash t h r x (suc s) q y

-- what the search for h from node i comes to: word y, with q left of the hash
abbrev pub Ends : {K : Type 0} → (K → K → Bool) → (K → ℕ) → Trie K → ℕ → K → ℕ → ℕ → Type 0
Ends eq hash t i h q y =
    ((child eq t i (lit h) ≡ 0) × (spot hash t i (lit h) ≡ (y, q)))
    ⊎ ((child eq t i (lit h) ≡ 0 → ⊥) × (link hash t y ≡ child eq t i (lit h)) × (key_at t (child eq t i (lit h)) ≡ lit h))

pub record Search {K : Type 0} (eq : K → K → Bool) (hash : K → ℕ) (t : Trie K) (i : ℕ) (h : K) : Type 0 where
  pub steps : ℕ
  pub left : ℕ
  pub word : ℕ
  pub few : steps < size t
  pub way : Passes hash t h (hash h) (i * 16 + 2) steps left word
  pub ends : Ends eq hash t i h left word

-- one node further
past_end : {K : Type 0} (hash : K → ℕ) (t : Trie K) (h : K) {r x s q y : ℕ} (v : ℕ) (g : K) → Passes hash t h r x s q y → link hash t y ≡ v → (v ≡ 0 → ⊥) → key_at t v ≡ lit g
    → (g ≡ h → ⊥) → Passes hash t h r x (suc s) (q / 4) (v * 16 + 8 + q % 4)
past_end hash t h v g here e n k d = past _ v g e n k d here
past_end hash t h v g (past x v' g' e' n' k' d' w) e n k d = past x v' g' e' n' k' d' (past_end hash t h v g w e n k d)

lit_inj : {K : Type 0} (x y : K) → ◌≡◌ {A = Key K} (lit x) (lit y) → x ≡ y
lit_inj x y e = cc

module _ {K : Type 0} (eq : K → K → Bool) (sound : (h g : K) → eq h g ≡ true → h ≡ g) (whole : (h : K) → eq h h ≡ true) (hash : K → ℕ) where
  unlike : (x y : K) → eq x y ≡ false → x ≡ y → ⊥
  unlike x y n e =
      let t : true ≡ false = sym (whole x) ∙ ap (eq x) e ∙ n in
      let z : ◌≡◌ {A = ℕ} 0 1 = cc in
      absurd (omega arith)

  module _ (t : Trie K) (p : ℕ) (k' : Key K) (g : Good eq t) (free : child eq t p k' ≡ 0) where
    -- a word that links a node goes on linking it
    link_kept : (x v : ℕ) → link hash t x ≡ v → (v ≡ 0 → ⊥) → link hash (grow t p k') x ≡ v
    link_kept x v e n = link_old hash t p k' x (λ q. n (sym e ∙ ap (link hash t) q ∙ place_free eq sound whole hash t g p k' free)) ∙ e

    -- so a new node changes no node that a search passes
    passes_kept : (h : K) {r x s q y : ℕ} → Passes hash t h r x s q y → Passes hash (grow t p k') h r x s q y
    passes_kept h here = here
    passes_kept h (past x v g' e n k d w) =
        let less : v < size t = rw e at (link_less hash t x) in
        past x v g' (link_kept x v e n) n (key_old t p k' v less ∙ k) d (passes_kept h w)

    -- it goes as it went, to what it is shown to come to
    goes_on : (i : ℕ) (h : K) (s : Search eq hash t i h) → Ends eq hash (grow t p k') i h s.left s.word → Search eq hash (grow t p k') i h
    unfolding size
    goes_on i h s e =
        let few = s.few in
        record { steps = s.steps; left = s.left; word = s.word; few = omega arith; way = passes_kept h s.way; ends = e }

  -- the new node is no other's child
  child_other : (t : Trie K) (p : ℕ) (k' : Key K) (i : ℕ) (k : Key K) → (p ≡ i → k ≡ k' → ⊥) → child eq (grow t p k') i k ≡ child eq t i k
  unfolding child
  child_other t p k' i k ne =
      pick_ind (λ x. x ≡ child eq t i k) (eqb p i)
      (λ e. pick_ind (λ x. x ≡ child eq t i k) (key_is eq k k')
      (λ d. absurd (ne (eqb-true p i e) (key_is-sound eq sound whole k k' d)))
      (λ _. refl))
      (λ _. refl)

  module _ (t : Trie K) (p : ℕ) (k' : Key K) (g : Good eq t) (free : child eq t p k' ≡ 0) (i : ℕ) (h : K) where
    -- the child was there
    there : (s : Search eq hash t i h) → (child eq t i (lit h) ≡ 0 → ⊥) → link hash t s.word ≡ child eq t i (lit h) → key_at t (child eq t i (lit h)) ≡ lit h
        → Search eq hash (grow t p k') i h
    there s n e d =
        let c = child-kept eq sound whole t p k' i (lit h) free n in
        goes_on t p k' g free i h s
        (inr (
          λ z. n (sym c ∙ z),
          link_kept t p k' g free s.word (child eq t i (lit h)) e n ∙ sym c,
          ap (key_at (grow t p k')) c ∙ key_old t p k' (child eq t i (lit h)) (child_less eq t i (lit h)) ∙ d,
        ))

    -- the search ends elsewhere than the search for the new node
    elsewhere : (s : Search eq hash t i h) → child eq t i (lit h) ≡ 0 → spot hash t i (lit h) ≡ (s.word, s.left) → (place hash t p k' ≡ place hash t i (lit h) → ⊥)
        → Search eq hash (grow t p k') i h
    elsewhere s z e ne =
        goes_on t p k' g free i h s (inl (child_other t p k' i (lit h) (λ a b. ne (rw (a, b))) ∙ z, spot_off hash t p k' i (lit h) ne ∙ e))

  -- a literal that stands where the search ended: it is the one sought, or it is passed
  module _ (t : Trie K) (p : ℕ) (h' : K) (g : Good eq t) (free : child eq t p (lit h') ≡ 0) (h : K) where
    found : (s : Search eq hash t p h) → spot hash t p (lit h) ≡ (s.word, s.left) → h' ≡ h → Search eq hash (grow t p (lit h')) p h
    unfolding size
    found s e d =
        let y : s.word ≡ place hash t p (lit h') = sym (ap (λ v. v.0) e) ∙ ap (λ x. place hash t p (lit x)) (sym d) in
        let n = child-new eq sound whole t p (lit h') in
        let c : child eq (grow t p (lit h')) p (lit h) ≡ size t = ap (λ x. child eq (grow t p (lit h')) p (lit x)) (sym d) ∙ n in
        let pos = size_pos t in
        goes_on t p (lit h') g free p h s
        (inr (
          λ z. omega arith,
          ap (link hash (grow t p (lit h'))) y ∙ link_new hash t p (lit h') ∙ sym c,
          ap (key_at (grow t p (lit h'))) c ∙ key_new t p (lit h') ∙ ap lit d,
        ))

    passed : (s : Search eq hash t p h) → child eq t p (lit h) ≡ 0 → spot hash t p (lit h) ≡ (s.word, s.left) → place hash t p (lit h') ≡ place hash t p (lit h) → (h' ≡ h → ⊥)
        → Search eq hash (grow t p (lit h')) p h
    unfolding size
    passed s z e q d =
        let few = s.few in
        let y : s.word ≡ place hash t p (lit h') = sym (ap (λ v. v.0) e) ∙ sym q in
        let l : rest hash t p (lit h) ≡ s.left = ap (λ v. v.1) e in
        let pos = size_pos t in
        record {
          steps = suc s.steps;
          left = s.left / 4;
          word = size t * 16 + 8 + s.left % 4;
          few = omega arith;
          way =
              past_end hash (grow t p (lit h')) h (size t) h' (passes_kept t p (lit h') g free h s.way)
              (ap (link hash (grow t p (lit h'))) y ∙ link_new hash t p (lit h'))
              (λ w. omega arith)
              (key_new t p (lit h'))
              d;
          ends = inl (
            child_other t p (lit h') p (lit h) (λ a b. d (sym (lit_inj h h' b))) ∙ z,
            spot_on hash t p (lit h') p (lit h) q ∙ ap (λ v. (size t * 16 + 8 + v % 4, v / 4)) l,
          );
        }

  pub search : (t : Trie K) → Good eq t → (i : ℕ) (h : K) → Search eq hash t i h
  unfolding Good child spot size
  search root g i h = record { steps = 0; left = hash h; word = i * 16 + 2; few = omega arith; way = here; ends = inl (refl, refl) }
  search (grow t p k') g i h = go (search t g.2 i h)
    where
      meets : (k' : Key K) → child eq t p k' ≡ 0 → Alike k' (lit h) → (s : Search eq hash t p h) → child eq t p (lit h) ≡ 0 → spot hash t p (lit h) ≡ (s.word, s.left)
          → place hash t p k' ≡ place hash t p (lit h) → Search eq hash (grow t p k') p h
      meets star free a s z e q = absurd a
      meets (lit h') free a s z e q = on (eq h' h) refl
        where
          on : (b : Bool) → eq h' h ≡ b → Search eq hash (grow t p (lit h')) p h
          on true d = found t p h' g.2 free h s e (sound h' h d)
          on false d = passed t p h' g.2 free h s z e q (unlike h' h d)

      go : Search eq hash t i h → Search eq hash (grow t p k') i h
      go s = by s.ends
        where
          at : child eq t i (lit h) ≡ 0 → spot hash t i (lit h) ≡ (s.word, s.left) → Dec (place hash t p k' ≡ place hash t i (lit h)) → Search eq hash (grow t p k') i h
          at z e (no ne) = elsewhere t p k' g.2 g.1 i h s z e ne
          at z e (yes q) =
              let w = shared t p i k' (lit h) (place hash t p k') (place hash t i (lit h)) (sited eq sound whole hash t g.2 p k' g.1) (sited eq sound whole hash t g.2 i (lit h) z) q in
              subst
              (λ i. (s : Search eq hash t i h) → child eq t i (lit h) ≡ 0 → spot hash t i (lit h) ≡ (s.word, s.left) → place hash t p k' ≡ place hash t i (lit h)
              → Search eq hash (grow t p k') i h)
              w.0
              (meets k' g.1 w.1)
              s
              z
              e
              q

          by : Ends eq hash t i h s.left s.word → Search eq hash (grow t p k') i h
          by (inl w) = at w.0 w.1 (ℕ_discrete (place hash t p k') (place hash t i (lit h)))
          by (inr w) = there t p k' g.2 g.1 i h s w.0 w.1 w.2
