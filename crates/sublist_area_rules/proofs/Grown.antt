-- A key, and a run of keys, put into an area that holds a history: the area holds the history with the run in it, or has no room for it.
use Prim.Native.Nat.{ℕ, suc, ◌+◌, ◌*◌, ◌≤◌, ◌<◌, ◌^◌}
use native.Mathlib.Omega.{arith}
use native.Mathlib.Decide.{ℕ_discrete, dec_lt}
use mathlib.Core.Path.{◌≡◌, refl, sym, ◌∙◌, ap, subst}
use mathlib.Core.Logic.{◌⊎◌, inl, inr}
use mathlib.Core.Bool.{Bool}
use mathlib.Core.List.{List, [], ◌∷◌}
use lib.Dec.{eqb}
use lib.ListN.{length, get_or}
use borrow.Author.Tests.{eq-eqb, ne_eqb}
use Rattle.std.specs.Prelude.{Result, Err}
use Rattle.sublist_tree.specs.Tree.{Key}
use Rattle.sublist_trie.proofs.Trie.{Trie, grow, size, child, ins_t}
use Rattle.sublist_trie.proofs.Runs.{pick_ind, child_less}
use Rattle.sublist_area_rules.specs.declared.Placed.{Placed}
use Rattle.sublist_area_rules.specs.declared.PlaceError.{PlaceError}
use Rattle.sublist_area_rules.specs.declared.PlaceError.TheVariants.{Full}
use Rattle.sublist_area_rules.specs.Words.{Met, word}
use Rattle.sublist_area_rules.specs.Growing.{hash_of, placed_at}
use Rattle.sublist_area_rules.proofs.AnyKeys.{hashed, child_or_new_by, onward_by, grown_by}
use Rattle.sublist_area_rules.proofs.Places.{place, NoLink, place_less, place_else}
use Rattle.sublist_area_rules.proofs.Rep.{Keys, Written, RepBy}
use Rattle.sublist_area_rules.proofs.Stores.{fresh_zero, added_new, added_old, added_behind}
use Rattle.sublist_area_rules.proofs.Step.{with_child, length-child, added_rep}
use Rattle.sublist_area_rules.proofs.OneKey.{step_there, step_full, step-new}

-- a word of the targets, 4 to 7, or of the token's place, 13 to 15
abbrev pub LeftWord : ℕ → Type 0
LeftWord f = ((3 < f) × (f < 8)) ⊎ ((12 < f) × (f < 16))

-- area a held the history t; area b holds u, which has grown out of t
pub record GrewBy {K : Type 0} (eq : K → K → Bool) (hash : K → ℕ) (Named : List ℕ → ℕ → K → Type 0) (a : List ℕ) (t : Trie K) (b : List ℕ) (u : Trie K) : Type 0 where
  pub rep : RepBy eq hash Named b u
  pub more : size t ≤ size u
  pub same : length b ≡ length a
  -- the words behind the nodes are left
  pub behind : (x : ℕ) → size u * 16 ≤ x → get_or b x 0 ≡ get_or a x 0
  -- the words of the targets are left, and are 0 in a new node
  pub old : (i f : ℕ) → i < size t → LeftWord f → word b i f ≡ word a i f
  pub new : (i f : ℕ) → size t ≤ i → i < size u → LeftWord f → word b i f ≡ 0

left_no_link : (f : ℕ) → LeftWord f → (f < 16) × NoLink f
left_no_link f (inl o) = (omega arith, inr (inl o))
left_no_link f (inr o) = (omega arith, inr (inr (omega arith)))

left_zero : (f : ℕ) → LeftWord f → (1 < f) × (f ≡ 12 → ⊥)
left_zero f (inl o) = (omega arith, λ e. omega arith)
left_zero f (inr o) = (omega arith, λ e. omega arith)

module _ {K : Type 0} where
  -- the history u fits the area
  abbrev pub Fits : List ℕ → Trie K → Type 0
  Fits a u = (size u * 16 ≤ length a) × (size u < 2 ^ 32)

-- there was no room
abbrev pub NoRoom : List ℕ → Result Placed PlaceError × List ℕ → Type 0
NoRoom a s = (b : List ℕ) × (s ≡ (Err Full, b)) × (length b ≡ length a)

module _ {K : Type 0} (eq : K → K → Bool) where
  pub ins_more : (ks : List (Key K)) (t : Trie K) (i : ℕ) → size t ≤ size (ins_t eq t i ks).0
  unfolding ins_t size
  ins_more [] t i = omega arith
  ins_more (k ∷ ks) t i =
      let old = ins_more ks t (child eq t i k) in
      let new = ins_more ks (grow t i k) (size t) in
      pick_ind (λ (v : Trie K × ℕ). size t ≤ size v.0) (eqb (child eq t i k) 0) (λ _. omega arith) (λ _. old)

module _ {K : Type 0} (eq : K → K → Bool) (hash : K → ℕ) (Named : List ℕ → ℕ → K → Type 0) where
  -- s is what a run that ends with the history and the node v made of the area a, which held t
  abbrev pub PutInBy : List ℕ → Trie K → Result Placed PlaceError × List ℕ → Trie K × ℕ → Type 0
  PutInBy a t s v = (b : List ℕ) × (s ≡ (placed_at v.1 (size v.0), b)) × GrewBy eq hash Named a t b v.0

  -- what a run comes to
  abbrev pub RunEndsBy : List ℕ → Trie K → Result Placed PlaceError × List ℕ → Trie K × ℕ → Type 0
  RunEndsBy a t s v = (Fits a v.0 × PutInBy a t s v) ⊎ ((Fits a v.0 → ⊥) × NoRoom a s)

module _ {K : Type 0} {eq : K → K → Bool} {hash : K → ℕ} {test : List ℕ → K → ℕ → Met} {Named : List ℕ → ℕ → K → Type 0} (L : Keys eq hash test Named) (written : Written hash Named) where
  pub grew_none : (a : List ℕ) (t : Trie K) → RepBy eq hash Named a t → GrewBy eq hash Named a t a t
  grew_none a t r = record {
    rep = r;
    more = omega arith;
    same = refl;
    behind = λ x l. refl;
    old = λ i f l o. refl;
    new = λ i f l m o. absurd (omega arith);
  }

  pub grew_then : (a : List ℕ) (t : Trie K) (b : List ℕ) (u : Trie K) (c : List ℕ) (v : Trie K) → GrewBy eq hash Named a t b u → GrewBy eq hash Named b u c v → GrewBy eq hash Named a t c v
  grew_then a t b u c v p q =
      let m = p.more in
      let n = q.more in
      record {
        rep = q.rep;
        more = omega arith;
        same = q.same ∙ p.same;
        behind = λ x l. q.behind x l ∙ p.behind x (omega arith);
        old = λ i f l o. q.old i f (omega arith) o ∙ p.old i f l o;
        new = λ i f l h o. made i f l h o (dec_lt i (size u));
      }
    where
      made : (i f : ℕ) → size t ≤ i → i < size v → LeftWord f → Dec (i < size u) → word c i f ≡ 0
      made i f l h o (yes d) = q.old i f d o ∙ p.new i f l d o
      made i f l h o (no d) = q.new i f (omega arith) h o

  -- ---- one key

  module _ (a : List ℕ) (t : Trie K) (i : ℕ) (k : Key K) (r : RepBy eq hash Named a t) (inside : i < size t) where
    module _ (z : child eq t i k ≡ 0) where
      module _ (room : size t * 16 + 16 ≤ length a) where
        pub step_grew : GrewBy eq hash Named a t (with_child hash a t i k) (grow t i k)
        unfolding size
        step_grew =
            let less = place_less eq L.sound L.whole hash t r.good i k z inside in
            record {
              rep = added_rep L a t i k r inside z written room;
              more = omega arith;
              same = length-child hash a t i k;
              behind = λ x l. added_behind a (size t) (place hash t i k) (hash_of (hashed hash k)) i less room x (omega arith);
              old = λ j f l o.
                  let w = left_no_link f o in
                  let m = w.0 in
                  added_old a (size t) (place hash t i k) (hash_of (hashed hash k)) i less room (j * 16 + f) (omega arith) (place_else eq L.sound L.whole hash t r.good i k z j f m w.1);
              new = λ j f l h o.
                  let m = (left_no_link f o).0 in
                  let w = left_zero f o in
                  let e : j ≡ size t = omega arith in
                  ap (λ x. word (with_child hash a t i k) x f) e ∙ added_new a (size t) (place hash t i k) (hash_of (hashed hash k)) i less room f m
                  ∙ fresh_zero (hash_of (hashed hash k)) i f w.0 w.1;
            }

  -- ---- a run of keys

  full_stays : (a : List ℕ) (ks : List (Key K)) → grown_by test hash (Err Full, a) ks ≡ (Err Full, a)
  unfolding grown_by onward_by
  full_stays a [] = refl
  full_stays a (k ∷ ks) = full_stays a ks

  -- one key of a run
  module _ (a : List ℕ) (t : Trie K) (i : ℕ) (k : Key K) (ks : List (Key K)) where
    on_area : (s : Result Placed PlaceError × List ℕ) → child_or_new_by test hash a (size t) i k ≡ s → grown_by test hash (placed_at i (size t), a) (k ∷ ks) ≡ grown_by test hash s ks
    unfolding grown_by onward_by
    on_area s e = ap (λ x. grown_by test hash x ks) e

    on_there : (child eq t i k ≡ 0 → ⊥) → ins_t eq t i (k ∷ ks) ≡ ins_t eq t (child eq t i k) ks
    unfolding ins_t
    on_there n = rw (ne_eqb (child eq t i k) 0 n)

    on_new : child eq t i k ≡ 0 → ins_t eq t i (k ∷ ks) ≡ ins_t eq (grow t i k) (size t) ks
    unfolding ins_t
    on_new z = rw (eq-eqb (child eq t i k) 0 z)

  module _ (a : List ℕ) (t : Trie K) (i : ℕ) (k : Key K) (ks : List (Key K)) (r : RepBy eq hash Named a t) (h : i < size t) where
    -- by way of the first key's outcome s, the history and the node v
    via : (s : Result Placed PlaceError × List ℕ) (v : Trie K × ℕ) → child_or_new_by test hash a (size t) i k ≡ s → ins_t eq t i (k ∷ ks) ≡ v → RunEndsBy eq hash Named a t (grown_by test hash s ks) v
        → RunEndsBy eq hash Named a t (grown_by test hash (placed_at i (size t), a) (k ∷ ks)) (ins_t eq t i (k ∷ ks))
    via s v e q o =
        subst (λ s. RunEndsBy eq hash Named a t s (ins_t eq t i (k ∷ ks))) (sym (on_area a t i k ks s e)) (subst (RunEndsBy eq hash Named a t (grown_by test hash s ks)) (sym q) o)

    module _ (z : child eq t i k ≡ 0) where
      -- there is no room for the child
      full : length a < size t * 16 + 16 ⊎ (4294967295 ≤ size t) → RunEndsBy eq hash Named a t (grown_by test hash (Err Full, a) ks) (ins_t eq (grow t i k) (size t) ks)
      unfolding size
      full l = inr (clash l, (a, full_stays a ks, refl))
        where
          clash : length a < size t * 16 + 16 ⊎ (4294967295 ≤ size t) → Fits a (ins_t eq (grow t i k) (size t) ks).0 → ⊥
          clash (inl l) w = let more = ins_more eq ks (grow t i k) (size t) in omega arith
          clash (inr l) w = let more = ins_more eq ks (grow t i k) (size t) in omega arith

      -- it is made
      made : (room : size t * 16 + 16 ≤ length a) (v : Trie K × ℕ) (s : Result Placed PlaceError × List ℕ)
          → RunEndsBy eq hash Named (with_child hash a t i k) (grow t i k) s v → RunEndsBy eq hash Named a t s v
      made room v s (inl w) =
          let grew = step_grew a t i k r h z room in
          let m = w.1 in
          inl (rw (length-child hash a t i k) at w.0, (m.0, m.1, grew_then a t (with_child hash a t i k) (grow t i k) m.0 v.0 grew m.2))
      made room v s (inr w) =
          let e = length-child hash a t i k in
          let m = w.1 in
          inr (rw e at w.0, (m.0, m.1, m.2 ∙ e))

  -- the run fits and is put in, or it does not and there is no room: nothing else
  pub grown_all : (ks : List (Key K)) (a : List ℕ) (t : Trie K) (i : ℕ) → RepBy eq hash Named a t → i < size t → size t < 2 ^ 32
      → RunEndsBy eq hash Named a t (grown_by test hash (placed_at i (size t), a) ks) (ins_t eq t i ks)
  unfolding ins_t grown_by size
  grown_all [] a t i r h w = inl ((r.room, w), (a, refl, grew_none a t r))
  grown_all (k ∷ ks) a t i r h w =
      go (ℕ_discrete (child eq t i k) 0) (dec_lt (length a) (size t * 16 + 16)) (dec_lt (size t) 4294967295)
      (grown_all ks a t (child eq t i k) r (child_less eq t i k) w)
      (λ rep l. grown_all ks (with_child hash a t i k) (grow t i k) (size t) rep (omega arith) l)
    where
      go : Dec (child eq t i k ≡ 0) → Dec (length a < size t * 16 + 16) → Dec (size t < 4294967295)
          → RunEndsBy eq hash Named a t (grown_by test hash (placed_at (child eq t i k) (size t), a) ks) (ins_t eq t (child eq t i k) ks)
          → (RepBy eq hash Named (with_child hash a t i k) (grow t i k) → suc (size t) < 2 ^ 32
          → RunEndsBy eq hash Named (with_child hash a t i k) (grow t i k) (grown_by test hash (placed_at (size t) (suc (size t)), with_child hash a t i k) ks) (ins_t eq (grow t i k) (size t) ks))
          → RunEndsBy eq hash Named a t (grown_by test hash (placed_at i (size t), a) (k ∷ ks)) (ins_t eq t i (k ∷ ks))
      go (no n) p q old new = via a t i k ks r h _ _ (step_there L a t i k r h n) (on_there a t i k ks n) old
      go (yes z) (yes p) q old new = via a t i k ks r h _ _ (step_full L a t i k r h z (inl p)) (on_new a t i k ks z) (full a t i k ks r h z (inl p))
      go (yes z) (no p) (no q) old new =
          let l : 4294967295 ≤ size t = omega arith in
          via a t i k ks r h _ _ (step_full L a t i k r h z (inr l)) (on_new a t i k ks z) (full a t i k ks r h z (inr l))
      go (yes z) (no p) (yes q) old new =
          let room : size t * 16 + 16 ≤ length a = omega arith in
          let v = ins_t eq (grow t i k) (size t) ks in
          let s = grown_by test hash (placed_at (size t) (suc (size t)), with_child hash a t i k) ks in
          via a t i k ks r h _ _ (step-new L a t i k r h z room q) (on_new a t i k ks z)
          (made a t i k ks r h z room v s (new (step_grew a t i k r h z room).rep (omega arith)))

  -- a run that fits is put in
  pub grown_rep : (ks : List (Key K)) (a : List ℕ) (t : Trie K) (i : ℕ) → RepBy eq hash Named a t → i < size t → Fits a (ins_t eq t i ks).0
      → PutInBy eq hash Named a t (grown_by test hash (placed_at i (size t), a) ks) (ins_t eq t i ks)
  grown_rep ks a t i r h w = let more = ins_more eq ks t i in go (grown_all ks a t i r h (omega arith))
    where
      go : RunEndsBy eq hash Named a t (grown_by test hash (placed_at i (size t), a) ks) (ins_t eq t i ks) → PutInBy eq hash Named a t (grown_by test hash (placed_at i (size t), a) ks) (ins_t eq t i ks)
      go (inl o) = o.1
      go (inr o) = absurd (o.0 w)

  -- and one that does not is turned back
  pub grown_full : (ks : List (Key K)) (a : List ℕ) (t : Trie K) (i : ℕ) → RepBy eq hash Named a t → i < size t → size t < 2 ^ 32 → (Fits a (ins_t eq t i ks).0 → ⊥)
      → NoRoom a (grown_by test hash (placed_at i (size t), a) ks)
  grown_full ks a t i r h l w = go (grown_all ks a t i r h l)
    where
      go : RunEndsBy eq hash Named a t (grown_by test hash (placed_at i (size t), a) ks) (ins_t eq t i ks) → NoRoom a (grown_by test hash (placed_at i (size t), a) ks)
      go (inl o) = absurd (w o.0)
      go (inr o) = o.1
