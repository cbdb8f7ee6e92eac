-- The keys of today: a key is its hash, and the test of a node is that of the hash alone.
use Prim.Native.Nat.{ℕ, ◌+◌, ◌*◌, ◌/◌, ◌%◌, ◌≤◌, ◌<◌, ◌^◌}
use native.Mathlib.Decide.{ℕ_discrete}
use mathlib.Core.Path.{◌≡◌, refl, sym, ◌∙◌, ap, subst}
use mathlib.Core.List.{List, [], ◌∷◌}
use lib.Dec.{eqb}
use lib.ListN.{length, set}
use borrow.Author.Tests.{eqb-true, eq-eqb, ne_eqb}
use Rattle.std.specs.Prelude.{Result, Ok, Err}
use Rattle.sublist_tree.specs.Tree.{Key, star, lit}
use Rattle.sublist_trie.proofs.Trie.{Trie, root, size, child, ins_t}
use Rattle.sublist_area_rules.specs.declared.Child.TheVariants.{Node, Missing}
use Rattle.sublist_area_rules.specs.declared.Placed.{Placed}
use Rattle.sublist_area_rules.specs.declared.PlaceError.{PlaceError}
use Rattle.sublist_area_rules.specs.Words.{told, word, by_hash, literal_child, child_of}
use Rattle.sublist_area_rules.specs.Growing.{planted, placed_at, child_or_new, onward, grown}
use Rattle.sublist_area_rules.proofs.AnyKeys.{sought, child_by, child_or_new_by, onward_by, grown_by}
use Rattle.sublist_tree.proofs.Bytes.{eqb_whole}
use Rattle.sublist_area_rules.proofs.Places.{place}
use Rattle.sublist_area_rules.proofs.Rep.{Keys, Written, RepBy}
use Rattle.sublist_area_rules.proofs.Grown.{GrewBy, PutInBy, RunEndsBy}
use Rattle.sublist_area_rules.proofs.Lookup as lookup
use Rattle.sublist_area_rules.proofs.Step as step
use Rattle.sublist_area_rules.proofs.Grown as run
use Rattle.sublist_area_rules.proofs.Halves.{hash_hit, hash_miss}

-- the hash of a key
abbrev pub itself : ℕ → ℕ
itself h = h

-- no word of a node says more of its key than its hash
abbrev pub Unnamed : List ℕ → ℕ → ℕ → Type 0
Unnamed a i y = Unit {0}

hash_tells : (a : List ℕ) (i x y : ℕ) → word a i 0 ≡ y % 4294967296 → word a i 1 ≡ y / 4294967296 → by_hash a x i ≡ told (eqb y x)
hash_tells a i x y lo hi = go (ℕ_discrete y x)
  where
    go : Dec (y ≡ x) → by_hash a x i ≡ told (eqb y x)
    go (yes e) = ap told (hash_hit a i y x lo hi e ∙ sym (eq-eqb y x e))
    go (no e) = ap told (hash_miss a i y x lo hi e ∙ sym (ne_eqb y x e))

pub hashes : Keys eqb itself by_hash Unnamed
hashes = record {
  sound = eqb-true;
  whole = eqb_whole;
  tells = λ a i x y lo hi u. hash_tells a i x y lo hi;
  stays = λ a b i y e u. tt;
}

hash_written : Written itself Unnamed
hash_written a n at p y l m = tt

abbrev pub Rep : List ℕ → Trie ℕ → Type 0
Rep a t = RepBy eqb itself Unnamed a t

-- ---- the definitions for keys of any kind, at hashes

module _ (a : List ℕ) (n i : ℕ) where
  same-child : (k : Key ℕ) → child_by by_hash itself a n i k ≡ child_of a n i k
  unfolding sought literal_child
  same-child star = refl
  same-child (lit h) = refl

  same_new : (k : Key ℕ) → child_or_new_by by_hash itself a n i k ≡ child_or_new a n i k
  unfolding child_or_new_by child_or_new sought literal_child
  same_new star = refl
  same_new (lit h) = refl

same-onward : (p : Result Placed PlaceError) (a : List ℕ) (k : Key ℕ) → onward_by by_hash itself p a k ≡ onward p a k
unfolding onward_by onward
same-onward (Ok p) a k = same_new a p.count p.node k
same-onward (Err e) a k = refl

pub same-grown : (ks : List (Key ℕ)) (s : Result Placed PlaceError × List ℕ) → grown_by by_hash itself s ks ≡ grown s ks
unfolding grown_by grown
same-grown [] s = refl
same-grown (k ∷ ks) s = same-grown ks (onward_by by_hash itself s.0 s.1 k) ∙ ap (λ x. grown x ks) (same-onward s.0 s.1 k)

-- ---- the laws, at hashes

module _ (a : List ℕ) (t : Trie ℕ) (r : Rep a t) (i : ℕ) (inside : i < size t) where
  pub star-word : word a i 3 ≡ child eqb t i star
  star-word = lookup.star-word hashes a t r i inside

  pub lookup_there : (k : Key ℕ) → (child eqb t i k ≡ 0 → ⊥) → child_of a (size t) i k ≡ Node (child eqb t i k)
  lookup_there k n = sym (same-child a (size t) i k) ∙ lookup.lookup_there hashes a t r i inside k n

  pub lookup_none : (k : Key ℕ) → child eqb t i k ≡ 0 → child_of a (size t) i k ≡ Missing (place itself t i k)
  lookup_none k z = sym (same-child a (size t) i k) ∙ lookup.lookup_none hashes a t r i inside k z

pub rep_kept : (a b : List ℕ) (t : Trie ℕ) → length b ≡ length a → ((f : ℕ) → f < 4 → step.Same a b (size t) f) → ((f : ℕ) → 7 < f → f < 13 → step.Same a b (size t) f) → Rep a t → Rep b t
rep_kept a b t e low high r = step.rep_kept hashes a b t e low high (λ i y l u. u) r

pub rep_store : (a : List ℕ) (t : Trie ℕ) (j f v : ℕ) → 3 < f → f < 8 → Rep a t → Rep (set a (j * 16 + f) v) t
rep_store = step.rep_store hashes

pub rep_root : (a : List ℕ) → 16 ≤ length a → Rep (planted a) root
rep_root = step.rep_root hashes

abbrev pub Grew : List ℕ → Trie ℕ → List ℕ → Trie ℕ → Type 0
Grew a t b u = GrewBy eqb itself Unnamed a t b u

abbrev pub PutIn : List ℕ → Trie ℕ → Result Placed PlaceError × List ℕ → Trie ℕ × ℕ → Type 0
PutIn a t s v = PutInBy eqb itself Unnamed a t s v

abbrev pub RunEnds : List ℕ → Trie ℕ → Result Placed PlaceError × List ℕ → Trie ℕ × ℕ → Type 0
RunEnds a t s v = RunEndsBy eqb itself Unnamed a t s v

pub ins_more : (ks : List (Key ℕ)) (t : Trie ℕ) (i : ℕ) → size t ≤ size (ins_t eqb t i ks).0
ins_more = run.ins_more eqb

pub grown_all : (ks : List (Key ℕ)) (a : List ℕ) (t : Trie ℕ) (i : ℕ) → Rep a t → i < size t → size t < 2 ^ 32
    → RunEnds a t (grown (placed_at i (size t), a) ks) (ins_t eqb t i ks)
grown_all ks a t i r h w =
    subst (λ s. RunEnds a t s (ins_t eqb t i ks)) (same-grown ks (placed_at i (size t), a)) (run.grown_all hashes hash_written ks a t i r h w)
