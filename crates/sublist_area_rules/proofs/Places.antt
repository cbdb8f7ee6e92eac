-- Where the search for a key from a node of a history ends, with no area: the links of the nodes, and the words that they stand in.
use Prim.Native.Nat.{ℕ, suc, ◌+◌, ◌*◌, ◌/◌, ◌%◌, ◌≤◌, ◌<◌}
use native.Mathlib.Omega.{arith}
use native.Mathlib.Decide.{ℕ_discrete}
use mathlib.Core.Path.{◌≡◌, refl, sym, ◌∙◌, ap, subst}
use mathlib.Core.Logic.{◌⊎◌, inl, inr}
use mathlib.Core.Bool.{Bool, true}
use lib.Dec.{eqb}
use borrow.Author.Tests.{eq-eqb, ne_eqb}
use Rattle.subject_rules.specs.Choice.{pick}
use Rattle.sublist_tree.specs.Tree.{Key, star, lit, key_is}
use Rattle.sublist_trie.proofs.Trie.{Trie, root, grow, size, parent_of, child, Good}
use Rattle.sublist_trie.proofs.Runs.{pick_ind, size_pos, parent_new, parent_old, child-new}
use Rattle.sublist_area_rules.specs.Growing.{hash_of}
use Rattle.sublist_area_rules.proofs.AnyKeys.{hashed}

module _ {K : Type 0} where
  -- the word where the search for a key starts
  abbrev pub start : ℕ → Key K → ℕ
  start i star = i * 16 + 3
  start i (lit h) = i * 16 + 2

  -- the key of node j, `*` for the root
  unfoldable pub key_at : Trie K → ℕ → Key K
  key_at root j = star
  key_at (grow t p k) j = pick (eqb j (size t)) k (key_at t j)

  module _ (t : Trie K) (p : ℕ) (k' : Key K) where
    pub key_new : key_at (grow t p k') (size t) ≡ k'
    unfolding key_at
    key_new = rw (eq-eqb (size t) (size t) refl)

    pub key_old : (j : ℕ) → j < size t → key_at (grow t p k') j ≡ key_at t j
    unfolding key_at
    key_old j l = rw (ne_eqb j (size t) (omega arith))

-- a word of a node that links nothing
abbrev pub NoLink : ℕ → Type 0
NoLink f = (f < 2) ⊎ (((3 < f) × (f < 8)) ⊎ (11 < f))

module _ {K : Type 0} (hash : K → ℕ) where
  -- where the search for key k from node i ends, if it finds none, and what is then left of the hash: a new node that stands there is passed
  unfoldable pub spot : Trie K → ℕ → Key K → ℕ × ℕ
  spot root i k = (start i k, hash_of (hashed hash k))
  spot (grow t p k') i k =
      pick (eqb (spot t p k').0 (spot t i k).0) (size t * 16 + 8 + (spot t i k).1 % 4, (spot t i k).1 / 4) (spot t i k)

  abbrev pub place : Trie K → ℕ → Key K → ℕ
  place t i k = (spot t i k).0

  abbrev pub rest : Trie K → ℕ → Key K → ℕ
  rest t i k = (spot t i k).1

  -- the number that stands in word x, 0 where there is none: a new node's number goes where the search for it ends
  unfoldable pub link : Trie K → ℕ → ℕ
  link root x = 0
  link (grow t p k) x = pick (eqb x (place t p k)) (size t) (link t x)

  -- the hash of node j's key, 0 for the root and for `*`
  abbrev pub hash_at : Trie K → ℕ → ℕ
  hash_at t j = hash_of (hashed hash (key_at t j))

  link_root : (x : ℕ) → link root x ≡ 0
  unfolding link
  link_root x = refl

  -- ---- one more node

  module _ (t : Trie K) (p : ℕ) (k' : Key K) where
    pub spot_on : (i : ℕ) (k : Key K) → place t p k' ≡ place t i k → spot (grow t p k') i k ≡ (size t * 16 + 8 + rest t i k % 4, rest t i k / 4)
    unfolding spot
    spot_on i k e = rw (eq-eqb (place t p k') (place t i k) e)

    pub spot_off : (i : ℕ) (k : Key K) → (place t p k' ≡ place t i k → ⊥) → spot (grow t p k') i k ≡ spot t i k
    unfolding spot
    spot_off i k e = rw (ne_eqb (place t p k') (place t i k) e)

    pub link_new : link (grow t p k') (place t p k') ≡ size t
    unfolding link
    link_new = rw (eq-eqb (place t p k') (place t p k') refl)

    pub link_old : (x : ℕ) → (x ≡ place t p k' → ⊥) → link (grow t p k') x ≡ link t x
    unfolding link
    link_old x ne = rw (ne_eqb x (place t p k') ne)

    pub hash_new : hash_at (grow t p k') (size t) ≡ hash_of (hashed hash k')
    hash_new = ap (λ k. hash_of (hashed hash k)) (key_new t p k')

    pub hash_old : (j : ℕ) → j < size t → hash_at (grow t p k') j ≡ hash_at t j
    hash_old j l = ap (λ k. hash_of (hashed hash k)) (key_old t p k' j l)

  pub link_less : (t : Trie K) (x : ℕ) → link t x < size t
  unfolding link size
  link_less root x = omega arith
  link_less (grow t p k) x =
      let ih = link_less t x in
      pick_ind (λ y. y < suc (size t)) (eqb x (place t p k)) (λ _. omega arith) (λ _. omega arith)

module _ {K : Type 0} (eq : K → K → Bool) where
  module _ (t : Trie K) (p : ℕ) (k' : Key K) where
    -- a child that the grown history has not, the history had not
    pub child_none : (i : ℕ) (k : Key K) → child eq (grow t p k') i k ≡ 0 → child eq t i k ≡ 0
    unfolding child
    child_none i k =
        pick_ind (λ x. x ≡ 0 → child eq t i k ≡ 0) (eqb p i)
        (λ _. pick_ind (λ x. x ≡ 0 → child eq t i k ≡ 0) (key_is eq k k') (λ _ z. let pos = size_pos t in absurd (omega arith)) (λ _ z. z))
        (λ _ z. z)

-- ---- the words that searches end in

module _ {K : Type 0} where
  -- word y is one where the search for key k from node i can end: its start, or a word of a literal child of i
  abbrev pub Sited : Trie K → ℕ → Key K → ℕ → Type 0
  Sited t i star y = y ≡ i * 16 + 3
  Sited t i (lit h) y = (y ≡ i * 16 + 2) ⊎ ((m b : ℕ) × (b < 4) × (m < size t) × (parent_of t m ≡ i) × (y ≡ m * 16 + 8 + b))

  -- no two nodes share such a word, and no `*` shares one with a literal
  abbrev pub Alike : Key K → Key K → Type 0
  Alike star star = Unit {0}
  Alike star (lit h) = ⊥
  Alike (lit h) star = ⊥
  Alike (lit h) (lit g) = Unit {0}

  module _ (t : Trie K) (p i : ℕ) where
    pub shared : (k' k : Key K) (x y : ℕ) → Sited t p k' x → Sited t i k y → x ≡ y → (p ≡ i) × Alike k' k
    shared star star x y s u e = (omega arith, tt)
    shared star (lit h) x y s (inl u) e = absurd (omega arith)
    shared star (lit h) x y s (inr u) e = let l = u.2 in let q = u.5 in absurd (omega arith)
    shared (lit g) star x y (inl s) u e = absurd (omega arith)
    shared (lit g) star x y (inr s) u e = let l = s.2 in let q = s.5 in absurd (omega arith)
    shared (lit g) (lit h) x y (inl s) (inl u) e = (omega arith, tt)
    shared (lit g) (lit h) x y (inl s) (inr u) e = let l = u.2 in let q = u.5 in absurd (omega arith)
    shared (lit g) (lit h) x y (inr s) (inl u) e = let l = s.2 in let q = s.5 in absurd (omega arith)
    shared (lit g) (lit h) x y (inr s) (inr u) e =
        let l = s.2 in
        let q = s.5 in
        let l' = u.2 in
        let q' = u.5 in
        let m : s.0 ≡ u.0 = omega arith in
        (sym s.4 ∙ ap (parent_of t) m ∙ u.4, tt)

  sited_kept : (t : Trie K) (p : ℕ) (k' : Key K) (i : ℕ) (k : Key K) (y : ℕ) → Sited t i k y → Sited (grow t p k') i k y
  unfolding size
  sited_kept t p k' i star y s = s
  sited_kept t p k' i (lit h) y (inl s) = inl s
  sited_kept t p k' i (lit h) y (inr s) =
      let l = s.3 in
      inr (s.0, s.1, s.2, omega arith, parent_old t p k' s.0 l ∙ s.4, s.5)

module _ {K : Type 0} (eq : K → K → Bool) (sound : (h g : K) → eq h g ≡ true → h ≡ g) (whole : (h : K) → eq h h ≡ true) (hash : K → ℕ) where
  pub sited : (t : Trie K) → Good eq t → (i : ℕ) (k : Key K) → child eq t i k ≡ 0 → Sited t i k (place hash t i k)
  unfolding Good spot size
  sited root g i star z = refl
  sited root g i (lit h) z = inl refl
  sited (grow t p k') g i k z =
      let free = child_none eq t p k' i k z in
      go (ℕ_discrete (place hash t p k') (place hash t i k)) (sited t g.2 p k' g.1) (sited t g.2 i k free)
    where
      passed : (k' k : Key K) → p ≡ i → Alike k' k → child eq (grow t p k') i k ≡ 0 → Sited (grow t p k') i k (size t * 16 + 8 + rest hash t i k % 4)
      passed star star e a z =
          let c = child-new eq sound whole t p star in
          let c' : child eq (grow t p star) p star ≡ 0 = ap (λ x. child eq (grow t p star) x star) e ∙ z in
          let pos = size_pos t in
          absurd (omega arith)
      passed star (lit h) e a z = absurd a
      passed (lit g) star e a z = absurd a
      passed (lit g) (lit h) e a z = inr (size t, rest hash t i (lit h) % 4, omega arith, omega arith, parent_new t p (lit g) ∙ e, refl)

      go : Dec (place hash t p k' ≡ place hash t i k) → Sited t p k' (place hash t p k') → Sited t i k (place hash t i k) → Sited (grow t p k') i k (place hash (grow t p k') i k)
      go (yes e) s u =
          let w = shared t p i k' k (place hash t p k') (place hash t i k) s u e in
          subst (Sited (grow t p k') i k) (sym (ap (λ v. v.0) (spot_on hash t p k' i k e))) (passed k' k w.0 w.1 z)
      go (no e) s u = subst (Sited (grow t p k') i k) (sym (ap (λ v. v.0) (spot_off hash t p k' i k e))) (sited_kept t p k' i k (place hash t i k) u)

  -- ---- the words that are free

  module _ (t : Trie K) (g : Good eq t) (i : ℕ) (k : Key K) (z : child eq t i k ≡ 0) where
    pub place_less : i < size t → place hash t i k < size t * 16
    place_less l = go k (place hash t i k) (sited t g i k z)
      where
        go : (k : Key K) (y : ℕ) → Sited t i k y → y < size t * 16
        go star y s = omega arith
        go (lit h) y (inl s) = omega arith
        go (lit h) y (inr s) = let b = s.2 in let m = s.3 in let e = s.5 in omega arith

    -- a word that links nothing
    pub place_else : (j f : ℕ) → f < 16 → NoLink f → j * 16 + f ≡ place hash t i k → ⊥
    place_else j f l w e = go k (place hash t i k) (sited t g i k z) w e
      where
        go : (k : Key K) (y : ℕ) → Sited t i k y → NoLink f → j * 16 + f ≡ y → ⊥
        go star y s (inl w) e = omega arith
        go star y s (inr (inl w)) e = omega arith
        go star y s (inr (inr w)) e = omega arith
        go (lit h) y (inl s) (inl w) e = omega arith
        go (lit h) y (inl s) (inr (inl w)) e = omega arith
        go (lit h) y (inl s) (inr (inr w)) e = omega arith
        go (lit h) y (inr s) (inl w) e = let b = s.2 in let q = s.5 in omega arith
        go (lit h) y (inr s) (inr (inl w)) e = let b = s.2 in let q = s.5 in omega arith
        go (lit h) y (inr s) (inr (inr w)) e = let b = s.2 in let q = s.5 in omega arith

  -- behind the nodes all is free
  pub link_out : (t : Trie K) → Good eq t → (x : ℕ) → size t * 16 ≤ x → link hash t x ≡ 0
  unfolding Good size
  link_out root g x l = link_root hash x
  link_out (grow t p k) g x l =
      let less = place_less t g.2 p k g.1 g.0 in
      link_old hash t p k x (omega arith) ∙ link_out t g.2 x (omega arith)

  -- and so is the word where a search that finds none ends
  pub place_free : (t : Trie K) → Good eq t → (i : ℕ) (k : Key K) → child eq t i k ≡ 0 → link hash t (place hash t i k) ≡ 0
  unfolding Good
  place_free root g i k z = link_root hash (place hash root i k)
  place_free (grow t p k') g i k z =
      go (ℕ_discrete (place hash t p k') (place hash t i k)) (place_free t g.2 i k (child_none eq t p k' i k z))
    where
      go : Dec (place hash t p k' ≡ place hash t i k) → link hash t (place hash t i k) ≡ 0 → link hash (grow t p k') (place hash (grow t p k') i k) ≡ 0
      go (yes e) ih =
          let y = size t * 16 + 8 + rest hash t i k % 4 in
          let less = place_less t g.2 p k' g.1 g.0 in
          ap (λ v. link hash (grow t p k') v.0) (spot_on hash t p k' i k e) ∙ link_old hash t p k' y (omega arith) ∙ link_out t g.2 y (omega arith)
      go (no e) ih =
          ap (λ v. link hash (grow t p k') v.0) (spot_off hash t p k' i k e) ∙ link_old hash t p k' (place hash t i k) (λ q. e (sym q)) ∙ ih

  -- the `*` child's number stands in its own word
  pub link_star : (t : Trie K) → Good eq t → (i : ℕ) → link hash t (i * 16 + 3) ≡ child eq t i star
  unfolding Good child
  link_star root g i = link_root hash (i * 16 + 3)
  link_star (grow t p star) g i = go (ℕ_discrete p i) (link_star t g.2 i) (sited t g.2 p star g.1)
    where
      go : Dec (p ≡ i) → link hash t (i * 16 + 3) ≡ child eq t i star → place hash t p star ≡ p * 16 + 3
          → link hash (grow t p star) (i * 16 + 3) ≡ pick (eqb p i) (size t) (child eq t i star)
      go (yes e) ih s = rw (eq-eqb p i e) (ap (link hash (grow t p star)) (sym (s ∙ ap (λ x. x * 16 + 3) e)) ∙ link_new hash t p star)
      go (no e) ih s = rw (ne_eqb p i e) (link_old hash t p star (i * 16 + 3) (omega arith) ∙ ih)
  link_star (grow t p (lit h)) g i =
      let e = link_old hash t p (lit h) (i * 16 + 3) (apart (sited t g.2 p (lit h) g.1)) ∙ link_star t g.2 i in
      pick_ind (λ x. link hash (grow t p (lit h)) (i * 16 + 3) ≡ x) (eqb p i) (λ _. e) (λ _. e)
    where
      apart : Sited t p (lit h) (place hash t p (lit h)) → i * 16 + 3 ≡ place hash t p (lit h) → ⊥
      apart (inl s) e = omega arith
      apart (inr s) e = let b = s.2 in let q = s.5 in omega arith
