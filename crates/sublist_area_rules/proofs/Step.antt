-- A new node in an area that holds a history gives an area that holds the grown history; the stores of the later passes keep what it holds.
use Prim.Native.Nat.{ℕ, suc, ◌+◌, ◌*◌, ◌/◌, ◌%◌, ◌≤◌, ◌<◌}
use native.Mathlib.Omega.{arith}
use native.Mathlib.Decide.{ℕ_discrete}
use mathlib.Core.Path.{◌≡◌, refl, sym, ◌∙◌, ap, subst}
use mathlib.Core.Logic.{inl, inr}
use mathlib.Core.Bool.{Bool}
use mathlib.Core.List.{List}
use lib.ListN.{length, get_or, set, length-set}
use lib.Seq.{get_or-set_other}
use Rattle.sublist_tree.specs.Tree.{Key, lit}
use Rattle.sublist_trie.proofs.Trie.{Trie, root, grow, size, parent_of, child, Good}
use Rattle.sublist_trie.proofs.Runs.{parent_new, parent_old}
use Rattle.sublist_area_rules.specs.Words.{Met, word}
use Rattle.sublist_area_rules.specs.Growing.{fresh, hash_of, added, planted}
use Rattle.sublist_area_rules.proofs.AnyKeys.{hashed}
use Rattle.sublist_area_rules.proofs.Places.{place, link, key_at, hash_at, NoLink, link_new, link_old, key_new, key_old, hash_new, hash_old, link_out, place_less, place_else}
use Rattle.sublist_area_rules.proofs.Stores.{fresh_zero, added_new, added_link, added_old, length-added, planted_zero, length-planted}
use Rattle.sublist_area_rules.proofs.Rep.{Keys, Written, RepBy}

-- two areas agree in word f of the first n nodes
abbrev pub Same : List ℕ → List ℕ → ℕ → ℕ → Type 0
Same a b n f = (i : ℕ) → i < n → word b i f ≡ word a i f

module _ {K : Type 0} (hash : K → ℕ) where
  -- the area with a new child of node p by key k, where the search for it ends
  abbrev pub with_child : List ℕ → Trie K → ℕ → Key K → List ℕ
  with_child a t p k = added a (size t) (place hash t p k) (hash_of (hashed hash k)) p

  pub length-child : (a : List ℕ) (t : Trie K) (p : ℕ) (k : Key K) → length (with_child a t p k) ≡ length a
  length-child a t p k = length-added a (size t) (place hash t p k) (hash_of (hashed hash k)) p

module _ {K : Type 0} {eq : K → K → Bool} {hash : K → ℕ} {test : List ℕ → K → ℕ → Met} {Named : List ℕ → ℕ → K → Type 0} (L : Keys eq hash test Named) where
  module _ (a : List ℕ) (t : Trie K) (p : ℕ) (k : Key K) (r : RepBy eq hash Named a t) (inside : p < size t) (free : child eq t p k ≡ 0) (written : Written hash Named) (room : size t * 16 + 16 ≤ length a) where
    less : place hash t p k < size t * 16
    less = place_less eq L.sound L.whole hash t r.good p k free inside

    new : (f : ℕ) → f < 16 → get_or (with_child hash a t p k) (size t * 16 + f) 0 ≡ get_or (fresh (hash_of (hashed hash k)) p) f 0
    new = added_new a (size t) (place hash t p k) (hash_of (hashed hash k)) p less room

    -- a word that links nothing: v is what the grown history says of it
    plain : (f : ℕ) → f < 16 → NoLink f → (v u : ℕ → ℕ) → get_or (fresh (hash_of (hashed hash k)) p) f 0 ≡ v (size t) → ((i : ℕ) → i < size t → word a i f ≡ u i)
        → ((i : ℕ) → i < size t → v i ≡ u i) → (i : ℕ) → i < suc (size t) → word (with_child hash a t p k) i f ≡ v i
    plain f l w v u e old same i h = go (ℕ_discrete i (size t))
      where
        go : Dec (i ≡ size t) → word (with_child hash a t p k) i f ≡ v i
        go (yes q) = ap (λ x. word (with_child hash a t p k) x f) q ∙ new f l ∙ e ∙ ap v (sym q)
        go (no q) =
            let m : i < size t = omega arith in
            added_old a (size t) (place hash t p k) (hash_of (hashed hash k)) p less room (i * 16 + f) (omega arith) (place_else eq L.sound L.whole hash t r.good p k free i f l w)
            ∙ old i m ∙ sym (same i m)

    -- a word x that links a node: word f of node i
    linked : (i f x : ℕ) → x ≡ i * 16 + f → f < 16 → 1 < f → (f ≡ 12 → ⊥) → i < suc (size t) → (i < size t → get_or a x 0 ≡ link hash t x) → get_or (with_child hash a t p k) x 0 ≡ link hash (grow t p k) x
    linked i f x e l m n h old = go (ℕ_discrete x (place hash t p k)) (ℕ_discrete i (size t))
      where
        go : Dec (x ≡ place hash t p k) → Dec (i ≡ size t) → get_or (with_child hash a t p k) x 0 ≡ link hash (grow t p k) x
        go (yes q) c = rw q (added_link a (size t) (place hash t p k) (hash_of (hashed hash k)) p less room ∙ sym (link_new hash t p k))
        go (no q) (yes c) =
            let y : x ≡ size t * 16 + f = omega arith in
            ap (λ z. get_or (with_child hash a t p k) z 0) y ∙ new f l ∙ fresh_zero (hash_of (hashed hash k)) p f m n ∙ sym (link_old hash t p k x q ∙ link_out eq L.sound L.whole hash t r.good x (omega arith))
        go (no q) (no c) =
            added_old a (size t) (place hash t p k) (hash_of (hashed hash k)) p less room x (omega arith) q ∙ old (omega arith) ∙ sym (link_old hash t p k x q)

    -- the key of a node stays where it was, and the new node has its own
    named : (i : ℕ) (y : K) → i < suc (size t) → key_at (grow t p k) i ≡ lit y → Named (with_child hash a t p k) i y
    named i y h e = go (ℕ_discrete i (size t))
      where
        new_name : (k : Key K) → k ≡ lit y → place hash t p k < size t * 16 → Named (with_child hash a t p k) (size t) y
        new_name k q l =
            subst (λ k. Named (with_child hash a t p k) (size t) y) (sym q)
            (written a (size t) (place hash t p (lit y)) p y (subst (λ k. place hash t p k < size t * 16) q l) room)

        go : Dec (i ≡ size t) → Named (with_child hash a t p k) i y
        go (yes q) =
            subst (λ x. Named (with_child hash a t p k) x y) (sym q)
            (new_name k (sym (key_new t p k) ∙ ap (key_at (grow t p k)) (sym q) ∙ e) less)
        go (no q) =
            let m : i < size t = omega arith in
            L.stays a (with_child hash a t p k) i y
            (λ f u v. added_old a (size t) (place hash t p k) (hash_of (hashed hash k)) p less room (i * 16 + f) (omega arith)
            (place_else eq L.sound L.whole hash t r.good p k free i f v (inr (inr (omega arith)))))
            (r.names i y m (sym (key_old t p k i m) ∙ e))

    pub added_rep : RepBy eq hash Named (with_child hash a t p k) (grow t p k)
    unfolding size Good
    added_rep = record {
      room = rw (length-child hash a t p k) (omega arith);
      good = (inside, free, r.good);
      lows =
          plain 0 (omega arith) (inl (omega arith)) (λ i. hash_at hash (grow t p k) i % 4294967296) (λ i. hash_at hash t i % 4294967296)
          (ap (λ x. x % 4294967296) (sym (hash_new hash t p k)))
          r.lows
          (λ i l. ap (λ x. x % 4294967296) (hash_old hash t p k i l));
      highs =
          plain 1 (omega arith) (inl (omega arith)) (λ i. hash_at hash (grow t p k) i / 4294967296) (λ i. hash_at hash t i / 4294967296)
          (ap (λ x. x / 4294967296) (sym (hash_new hash t p k)))
          r.highs
          (λ i l. ap (λ x. x / 4294967296) (hash_old hash t p k i l));
      names = named;
      heads = λ i f h l m. linked i f (i * 16 + f) refl (omega arith) l (omega arith) h (λ u. r.heads i f u l m);
      nexts = λ i f h l. linked i (8 + f) (i * 16 + 8 + f) (omega arith) (omega arith) (omega arith) (omega arith) h (λ u. r.nexts i f u l);
      parents = plain 12 (omega arith) (inr (inr (omega arith))) (parent_of (grow t p k)) (parent_of t) (sym (parent_new t p k)) r.parents (parent_old t p k);
    }

  -- an area that differs only in the words of the targets, 4 to 7, and in those of the token's place, 13 to 15, and that names each key as before, holds the same history
  pub rep_kept : (a b : List ℕ) (t : Trie K) → length b ≡ length a → ((f : ℕ) → f < 4 → Same a b (size t) f) → ((f : ℕ) → 7 < f → f < 13 → Same a b (size t) f)
      → ((i : ℕ) (y : K) → i < size t → Named a i y → Named b i y) → RepBy eq hash Named a t → RepBy eq hash Named b t
  rep_kept a b t e low high same r = record {
    room = rw e r.room;
    good = r.good;
    lows = λ i h. low 0 (omega arith) i h ∙ r.lows i h;
    highs = λ i h. low 1 (omega arith) i h ∙ r.highs i h;
    names = λ i y h k. same i y h (r.names i y h k);
    heads = λ i f h l m. low f m i h ∙ r.heads i f h l m;
    nexts = λ i f h l.
        let x : i * 16 + (8 + f) ≡ i * 16 + 8 + f = omega arith in
        (rw x at (high (8 + f) (omega arith) (omega arith) i h)) ∙ r.nexts i f h l;
    parents = λ i h. high 12 (omega arith) (omega arith) i h ∙ r.parents i h;
  }

  -- one such store
  pub rep_store : (a : List ℕ) (t : Trie K) (j f v : ℕ) → 3 < f → f < 8 → RepBy eq hash Named a t → RepBy eq hash Named (set a (j * 16 + f) v) t
  rep_store a t j f v h l r =
      rep_kept a (set a (j * 16 + f) v) t (length-set a (j * 16 + f) v)
      (λ g m i _. get_or-set_other a (j * 16 + f) (i * 16 + g) v 0 (omega arith))
      (λ g m n i _. get_or-set_other a (j * 16 + f) (i * 16 + g) v 0 (omega arith))
      (λ i y _. L.stays a (set a (j * 16 + f) v) i y (λ g m n. get_or-set_other a (j * 16 + f) (i * 16 + g) v 0 (omega arith)))
      r

  -- the root alone
  pub rep_root : (a : List ℕ) → 16 ≤ length a → RepBy eq hash Named (planted a) root
  unfolding size Good link key_at parent_of
  rep_root a room = record {
    room = rw length-planted room;
    good = tt;
    lows = λ i h. zero_word i 0 h (omega arith);
    highs = λ i h. zero_word i 1 h (omega arith);
    names = λ i y h e. absurd (cc);
    heads = λ i f h l m. zero_word i f h (omega arith);
    nexts = λ i f h l. planted_zero a room (i * 16 + 8 + f) (omega arith);
    parents = λ i h. zero_word i 12 h (omega arith);
  }
    where
      zero_word : (i f : ℕ) → i < 1 → f < 16 → word (planted a) i f ≡ 0
      zero_word i f h l = planted_zero a room (i * 16 + f) (omega arith)
