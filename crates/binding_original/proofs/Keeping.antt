-- The original's cache: what a resolve hands on and leaves; and that its entries stay what a walk of a table gives, where it is on that table's generation.
--
--   resolve-gives      a resolve hands on the entry's list, or what a walk gives, and leaves what left_of says
--   trusty_list        Trusty → that list is what a walk gives
--   left_trusty        Trusty → and what is left is Trusty again
--   left_on            what is left is on the table's generation
use Prim.Native.Nat.{ℕ}
use mathlib.Core.Path.{◌≡◌, refl, sym, ◌∙◌, ap}
use mathlib.Core.Bool.{Bool, true, false}
use mathlib.Core.List.{List, [], ◌∷◌, ◌++◌}
use mathlib.Core.Option.{Option, none, some}
use lib.Dec.{eqb, ltb}
use lib.ListN.{length}
use borrow.Author.Tests.{eqb-true, eqb-false}
use Rattle.subject_rules.specs.Original.{when◌then◌else◌, equal}
use Rattle.sublist_tree.specs.Table.{TableEntry}
use Rattle.sublist_original.specs.Original.{Ok, Std}
use Rattle.binding_original.specs.Original.{SublistSnapshot, CacheEntry, HashMap, Iter, ResolveCache, Each, get, refresh, remove, guarded, without, evict_if_full, hit, miss, looked_up, resolve_with, wrapping_add}
use Rattle.binding_original.proofs.Maps.{Pair, each_at, each_of, get_some, remove_from}
use Rattle.binding_original.proofs.Stamping.{walked_by, Walks}

-- the entries under a key are what a function gives for it
module _ (due : List ℕ → List ℕ) where
  abbrev pub Kept : Pair → Type 0
  Kept x = x.1.targets ≡ due x.0

  get-kept : (entries : HashMap ℕ) (key : List ℕ) (e : CacheEntry ℕ) → Each Kept entries → get entries key ≡ some e → e.targets ≡ due key
  get-kept entries key e a q = each_at Kept entries (key, e) a (get_some entries key e q)

  refresh-kept : (entries : HashMap ℕ) (key : List ℕ) (t : ℕ) → Each Kept entries → Each Kept (refresh entries key t)
  refresh-kept [] key t a = tt
  refresh-kept ((k, d) ∷ rest) key t a = go (equal k key) (refresh-kept rest key t a.1)
    where
      go : (b : Bool) → Each Kept (refresh rest key t) → Each Kept (when b then (k, record { targets = d.targets; last_used = t }) ∷ refresh rest key t else (k, d) ∷ refresh rest key t)
      go true ih = (a.0, ih)
      go false ih = (a.0, ih)

  remove-kept : (entries : HashMap ℕ) (key : List ℕ) → Each Kept entries → Each Kept (remove entries key)
  remove-kept entries key a = each_of Kept (remove entries key) (λ x m. each_at Kept entries x a (remove_from entries key x m).0)

  push_kept : (entries : HashMap ℕ) (x : Pair) → Each Kept entries → Kept x → Each Kept (entries ++ (x ∷ []))
  push_kept [] x a k = (k, tt)
  push_kept (y ∷ rest) x a k = (a.0, push_kept rest x a.1 k)

  evict_kept : (iter : Iter ℕ) (cache : ResolveCache ℕ) → Each Kept cache.entries → Each Kept (evict_if_full iter cache)
  evict_kept iter cache a = go (ltb (length cache.entries) cache.capacity) (iter.min_by_last_used cache.entries)
    where
      go : (b : Bool) (o : Option Pair) → Each Kept (when b then cache.entries else without o cache.entries)
      go true o = a
      go false none = a
      go false (some victim) = remove-kept cache.entries victim.0 a

-- ---- a resolve

-- the entry's list, or the list that a walk gives
abbrev pub list_of : List ℕ → Option (CacheEntry ℕ) → List ℕ
list_of list (some e) = e.targets
list_of list none = list

-- what is left of a cache that is on the table's generation
abbrev pub left_of : Iter ℕ → ResolveCache ℕ → List ℕ → List ℕ → Option (CacheEntry ℕ) → ResolveCache ℕ
left_of iter on text list (some e) = hit on text
left_of iter on text list none = miss iter on text list

pub resolve-gives : (std : Std) (iter : Iter ℕ) {R : Type 0} (f : List ℕ → R) (es : List TableEntry) (snapshot : SublistSnapshot ℕ) (cache : ResolveCache ℕ) (g : ℕ) (text : List ℕ)
    → Walks std es snapshot.current → snapshot.current.generation ≡ g
    → resolve_with std iter f cache snapshot text
    ≡ Ok (f (list_of (walked_by es text) (get (guarded g cache).entries text)), left_of iter (guarded g cache) text (walked_by es text) (get (guarded g cache).entries text))
resolve-gives std iter f es snapshot cache g text walks gen =
    ap (λ h. looked_up std iter f (guarded h cache) snapshot.current text (get (guarded h cache).entries text)) gen ∙ go (guarded g cache) (get (guarded g cache).entries text)
  where
    go : (on : ResolveCache ℕ) (r : Option (CacheEntry ℕ))
        → looked_up std iter f on snapshot.current text r ≡ Ok (f (list_of (walked_by es text) r), left_of iter on text (walked_by es text) r)
    go on (some e) = refl
    go on none = rw (walks text [])

-- ---- what holds between calls

-- if the cache is on a table's generation g, its entries are what a walk of the table gives
abbrev pub Trusty : (List ℕ → List ℕ) → ℕ → ResolveCache ℕ → Type 0
Trusty due g cache = cache.generation ≡ g → Each (Kept due) cache.entries

-- by whether the cache is on the table's generation
pub guarded_by : (g : ℕ) (cache : ResolveCache ℕ) (P : ResolveCache ℕ → Type 0) → (g ≡ cache.generation → P cache)
    → ((g ≡ cache.generation → ⊥) → P (record { entries = []; generation = g; capacity = cache.capacity; tick = 0; walks = cache.walks })) → P (guarded g cache)
guarded_by g cache P on other = go (eqb g cache.generation) refl
  where
    go : (b : Bool) → eqb g cache.generation ≡ b → P (when b then cache else record { entries = []; generation = g; capacity = cache.capacity; tick = 0; walks = cache.walks })
    go true q = on (eqb-true g cache.generation q)
    go false q = other (eqb-false g cache.generation q)

pub guarded_on : (g : ℕ) (cache : ResolveCache ℕ) → (guarded g cache).generation ≡ g
guarded_on g cache = guarded_by g cache (λ c. c.generation ≡ g) (λ q. sym q) (λ q. refl)

pub left_on : (iter : Iter ℕ) (g : ℕ) (cache : ResolveCache ℕ) (text list : List ℕ) (r : Option (CacheEntry ℕ)) → (left_of iter (guarded g cache) text list r).generation ≡ g
left_on iter g cache text list (some e) = guarded_on g cache
left_on iter g cache text list none = guarded_on g cache

module _ (due : List ℕ → List ℕ) (g : ℕ) (cache : ResolveCache ℕ) (t : Trusty due g cache) where
  abbrev on : ResolveCache ℕ
  on = guarded g cache

  guarded-kept : Each (Kept due) (guarded g cache).entries
  guarded-kept = guarded_by g cache (λ c. Each (Kept due) c.entries) (λ q. t (sym q)) (λ q. tt)

  module _ (text : List ℕ) where
    pub trusty_list : list_of (due text) (get on.entries text) ≡ due text
    trusty_list = go (get on.entries text) refl
      where
        go : (r : Option (CacheEntry ℕ)) → get on.entries text ≡ r → list_of (due text) r ≡ due text
        go (some e) q = get-kept due on.entries text e guarded-kept q
        go none q = refl

    pub left_trusty : (iter : Iter ℕ) → Each (Kept due) (left_of iter on text (due text) (get on.entries text)).entries
    left_trusty iter = go (get on.entries text)
      where
        go : (r : Option (CacheEntry ℕ)) → Each (Kept due) (left_of iter on text (due text) r).entries
        go (some e) = refresh-kept due on.entries text (wrapping_add on.tick 1) guarded-kept
        go none =
            push_kept due (remove (evict_if_full iter on) text) (text, record { targets = due text; last_used = wrapping_add on.tick 1 })
            (remove-kept due (evict_if_full iter on) text (evict_kept due iter on guarded-kept)) refl
