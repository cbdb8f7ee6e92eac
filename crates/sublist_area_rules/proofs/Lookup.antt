-- In an area that holds a history, a lookup finds the child that the history has, or says where its number would stand; it is never damaged.
use Prim.Native.Nat.{ℕ, suc, ◌+◌, ◌-◌, ◌*◌, ◌/◌, ◌%◌, ◌≤◌, ◌<◌}
use native.Mathlib.Nat.{sub-zero}
use native.Mathlib.Omega.{arith}
use native.Mathlib.Decide.{ℕ_discrete}
use mathlib.Core.Path.{◌≡◌, refl, sym, ◌∙◌, ap}
use mathlib.Core.Logic.{inl, inr}
use mathlib.Core.Bool.{Bool, true, false}
use mathlib.Core.List.{List}
use lib.ListN.{length, get_or}
use borrow.Author.Tests.{eq-eqb, ne_eqb}
use Rattle.sublist_tree.specs.Tree.{Key, star, lit}
use Rattle.sublist_trie.proofs.Trie.{Trie, size, child}
use Rattle.sublist_trie.proofs.Runs.{child_less}
use Rattle.sublist_area_rules.specs.declared.Child.TheVariants.{Node, Missing}
use Rattle.sublist_area_rules.specs.Words.{Met, told, word, seek, star_child}
use Rattle.sublist_area_rules.proofs.Turns.{seek_none, at_next, at-hit}
use Rattle.sublist_area_rules.proofs.Ways.{sought_in, star_none, star_there}
use Rattle.sublist_area_rules.proofs.Places.{place, link, key_at, link_less, link_star, sited, place_free}
use Rattle.sublist_area_rules.proofs.Paths.{Passes, here, past, Ends, Search, search}
use Rattle.sublist_area_rules.proofs.Rep.{Keys, RepBy, answer}
use Rattle.sublist_area_rules.specs.Growing.{hash_of}
use Rattle.sublist_area_rules.proofs.AnyKeys.{hashed, sought, child_by}

module _ {K : Type 0} {eq : K → K → Bool} {hash : K → ℕ} {test : List ℕ → K → ℕ → Met} {Named : List ℕ → ℕ → K → Type 0} (L : Keys eq hash test Named) where
  module _ (a : List ℕ) (t : Trie K) (r : RepBy eq hash Named a t) where
    -- the test of node v for the key x, where v has the key y
    met_by : (v : ℕ) → v < size t → (x y : K) → key_at t v ≡ lit y → test a x v ≡ told (eq y x)
    met_by v l x y k =
        L.tells a v x y (r.lows v l ∙ ap (λ k. hash_of (hashed hash k) % 4294967296) k) (r.highs v l ∙ ap (λ k. hash_of (hashed hash k) / 4294967296) k)
        (r.names v y l k)

    apart : (y x : K) → (y ≡ x → ⊥) → eq y x ≡ false
    apart y x ne = go (eq y x) refl
      where
        go : (b : Bool) → eq y x ≡ b → eq y x ≡ false
        go true e = absurd (ne (L.sound y x e))
        go false e = e

    -- the search in the area passes what the search in the history passes
    seek_passes : (h : K) {q x s q' y : ℕ} → Passes hash t h q x s q' y → get_or a x 0 ≡ link hash t x → (f : ℕ) → s ≤ f
        → (seek (test a h) a (size t) q f x ≡ seek (test a h) a (size t) q' (f - s) y) × (get_or a y 0 ≡ link hash t y)
    seek_passes h here e f l = (rw sub-zero, e)
    seek_passes h {q} (past {s = s} x v g u n k d w) e f l =
        let less : v < size t = rw u at (link_less hash t x) in
        let ih = seek_passes h w (r.nexts v (q % 4) less (omega arith)) (f - 1) (omega arith) in
        let miss = met_by v less h g k ∙ ap told (apart g h d) in
        let one = at_next (test a h) a (size t) (seek (test a h) a (size t) q f x) q f x v refl (sym u ∙ sym e) (f - 1) (omega arith) n less miss in
        let m : f - 1 - s ≡ f - suc s = omega arith in
        (one ∙ rw (← m) ih.0, ih.1)

    module _ (i : ℕ) (inside : i < size t) where
      fits : size t ≤ length a / 16
      fits = let room = r.room in omega arith

      -- a literal
      look_lit : (h : K) → sought (test a h) a (size t) i (hash h) ≡ answer eq hash t i (lit h)
      look_lit h = go (search eq L.sound L.whole hash t r.good i h)
        where
          go : Search eq hash t i h → sought (test a h) a (size t) i (hash h) ≡ answer eq hash t i (lit h)
          go s = sym (sought_in a (size t) i (test a h) (hash h) fits inside) ∙ u.0 ∙ by s.ends
            where
              u : (seek (test a h) a (size t) (hash h) (size t) (i * 16 + 2) ≡ seek (test a h) a (size t) s.left (size t - s.steps) s.word) × (get_or a s.word 0 ≡ link hash t s.word)
              u = let few = s.few in seek_passes h s.way (r.heads i 2 inside (omega arith) (omega arith)) (size t) (omega arith)

              by : Ends eq hash t i h s.left s.word → seek (test a h) a (size t) s.left (size t - s.steps) s.word ≡ answer eq hash t i (lit h)
              by (inl w) =
                  let y : place hash t i (lit h) ≡ s.word = ap (λ v. v.0) w.1 in
                  let free : get_or a s.word 0 ≡ 0 = u.1 ∙ ap (link hash t) (sym y) ∙ place_free eq L.sound L.whole hash t r.good i (lit h) w.0 in
                  rw (eq-eqb (child eq t i (lit h)) 0 w.0)
                  (seek_none (test a h) a (size t) s.left (size t - s.steps) s.word free ∙ ap Missing (sym y))
              by (inr w) =
                  let c = child eq t i (lit h) in
                  let less = child_less eq t i (lit h) in
                  let few = s.few in
                  rw (ne_eqb c 0 w.0)
                  (sym
                  (at-hit (test a h) a (size t) (seek (test a h) a (size t) s.left (size t - s.steps) s.word) s.left (size t - s.steps) s.word c refl
                  (sym w.1 ∙ sym u.1)
                  (size t - s.steps - 1) (omega arith)
                  w.0
                  less
                  (met_by c less h h w.2 ∙ ap told (L.whole h))))

      -- word 3 is the `*` child, 0 where there is none
      pub star-word : word a i 3 ≡ child eq t i star
      star-word = r.heads i 3 inside (omega arith) (omega arith) ∙ link_star eq L.sound L.whole hash t r.good i

      look_star : star_child a (size t) i ≡ answer eq hash t i star
      look_star = go (ℕ_discrete (child eq t i star) 0)
        where
          go : Dec (child eq t i star ≡ 0) → star_child a (size t) i ≡ answer eq hash t i star
          go (yes z) =
              rw (eq-eqb (child eq t i star) 0 z)
              (sym (star_none a (size t) i fits inside (child eq t i star) (sym star-word) z) ∙ ap Missing (sym (sited eq L.sound L.whole hash t r.good i star z)))
          go (no n) =
              rw (ne_eqb (child eq t i star) 0 n)
              (sym (star_there a (size t) i fits inside (child eq t i star) (sym star-word) n (child_less eq t i star)))

      -- the lookup
      pub lookup : (k : Key K) → child_by test hash a (size t) i k ≡ answer eq hash t i k
      lookup star = look_star
      lookup (lit h) = look_lit h

      pub lookup_there : (k : Key K) → (child eq t i k ≡ 0 → ⊥) → child_by test hash a (size t) i k ≡ Node (child eq t i k)
      lookup_there k n = lookup k ∙ rw (ne_eqb (child eq t i k) 0 n)

      pub lookup_none : (k : Key K) → child eq t i k ≡ 0 → child_by test hash a (size t) i k ≡ Missing (place hash t i k)
      lookup_none k z = lookup k ∙ rw (eq-eqb (child eq t i k) 0 z)
