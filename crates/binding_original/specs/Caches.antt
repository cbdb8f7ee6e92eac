-- Demand 2 for lists of calls. A cache of the original's beside one of ours: the same numbers, and the same subjects
-- kept, each with the same list and stamp.
use Rattle.std.specs.Prelude.{ℕ, ◌<◌, ◌≡◌, Bool, true, false, not, eqb, ltb, length}
use mathlib.Core.List.{List, [], ◌∷◌, Memᴰ}
use Rattle.subject_rules.specs.Choice.{pick, and, or}
use Rattle.sublist_walk_rules.specs.Walk.{among}
use Rattle.subject_rules.specs.Original.{Str}
use Rattle.sublist_original.specs.Original.{Std}
use Rattle.resolve_cache_rules.specs.Area.{Area, stamp_at, key_at, targets_at}
use Rattle.binding.specs.Calls as ours
use Rattle.binding.specs.Calls.{Call, store, clearing, asking, resolving, asking_home, resolving_home}
use Rattle.binding_original.specs.Original.{CacheEntry, Iter, ResolveCache, len, walk_count}
use Rattle.binding_original.specs.Calls.{Yard, NamedCall, reply_on, after_on, World, Asked, call}
use Rattle.binding_original.specs.Calls.{Compared}

-- what slot i of ours keeps, of c: the subject, and its list and stamp
abbrev pub row : ℕ → Area → ℕ → Str × CacheEntry ℕ
row c a i = (
  key_at c a.keys i,
  record { targets = targets_at c a.keys a.kept i; last_used = stamp_at a.stamps i },
)

pub record SameKept (k : ours.Kept) (o : ResolveCache ℕ) : Type 0 where
  pub capacity : o.capacity ≡ k.cache.capacity
  pub generation : o.generation ≡ k.cache.generation.0
  pub tick : o.tick ≡ k.cache.tick.0
  pub walks : walk_count o ≡ k.cache.walks
  pub used : len o ≡ k.cache.used
  -- every used slot is an entry, and every entry a used slot
  pub kept : (i : ℕ) → i < k.cache.used → Memᴰ (row k.cache.capacity k.area i) o.entries
  pub only :
      (x : Str × CacheEntry ℕ) → Memᴰ x o.entries
      → (i : ℕ) × (i < k.cache.used) × (x ≡ row k.cache.capacity k.area i)

-- what is known so far: which caches had a resolve of a subject over 256 bytes or with a list over 16 targets, which
-- snapshots calls were made on, the generations of the tables that stood
-- there, and whether two of them had one
pub record Seen : Type 0 where
  pub spoiled : ℕ → Bool
  pub named : List ℕ
  pub stood : List ℕ
  pub mixed : Bool

-- before any call
abbrev pub unseen : Seen
unseen = record { spoiled = λ i. false; named = []; stood = []; mixed = false }

-- a table of generation g stood in snapshot j
abbrev pub standing : Seen → ℕ → ℕ → Seen
standing k j g = record {
  spoiled = k.spoiled;
  named = j ∷ k.named;
  stood = g ∷ k.stood;
  mixed = or k.mixed (among g k.stood);
}

-- the first call on snapshot j meets its first table, of generation g
abbrev pub meeting : Seen → ℕ → ℕ → Seen
meeting k j g = pick (among j k.named) k (standing k j g)

-- a call on a snapshot meets its table; a clear works on a cache alone
abbrev pub met_by : Seen → Yard → NamedCall → Seen
met_by k y (j, store t es) = meeting k j (y.snapshots j).snapshot.generation.0
met_by k y (j, clearing i) = k
met_by k y (j, asking subject out) = meeting k j (y.snapshots j).snapshot.generation.0
met_by k y (j, resolving i subject out) = meeting k j (y.snapshots j).snapshot.generation.0
met_by k y (j, asking_home subject out) = meeting k j (y.snapshots j).snapshot.generation.0
met_by k y (j, resolving_home i subject out) = meeting k j (y.snapshots j).snapshot.generation.0

-- the two that feed `single_home` count as a match and a resolve
abbrev pub counted : Call → Call
counted (store t es) = store t es
counted (clearing i) = clearing i
counted (asking subject out) = asking subject out
counted (resolving i subject out) = resolving i subject out
counted (asking_home subject out) = asking subject out
counted (resolving_home i subject out) = resolving i subject out

-- "a subject over 256 bytes or a list over 16 targets"
abbrev pub uncacheable : List ℕ → List ℕ → Bool
uncacheable subject list = or (ltb 256 (length subject)) (ltb 16 (length list))

-- a resolve of such a subject or with such a list, on cache j
abbrev pub spoils : Call → ours.Reply → ℕ → Bool
spoils (resolving i subject out) (ours.resolved list verdict) j = and (eqb i j) (uncacheable subject list)
spoils (resolving i subject out) (ours.refused a) j = false
spoils (resolving i subject out) (ours.storing g) j = false
spoils (resolving i subject out) ours.cleared j = false
spoils (resolving i subject out) (ours.matched list verdict peak g) j = false
spoils (resolving i subject out) (ours.home verdict values) j = false
spoils (store t es) r j = false
spoils (clearing i) r j = false
spoils (asking subject out) r j = false
spoils (asking_home subject out) r j = false
spoils (resolving_home i subject out) r j = false

-- the generation that a call stamped a table with, which then stands in snapshot j
abbrev pub stamps : Seen → ℕ → ours.Reply → Seen
stamps k j (ours.storing g) = standing k j g
stamps k j (ours.refused a) = k
stamps k j ours.cleared = k
stamps k j (ours.matched list verdict peak g) = k
stamps k j (ours.resolved list verdict) = k
stamps k j (ours.home verdict values) = k

abbrev pub seen_after : Seen → Yard → NamedCall → Seen
seen_after k y (j, c) =
    let t = stamps (met_by k y (j, c)) j (reply_on y (j, c)) in
    record {
      spoiled = λ i. or (t.spoiled i) (spoils (counted c) (reply_on y (j, counted c)) i);
      named = t.named;
      stood = t.stood;
      mixed = t.mixed;
    }

-- "from a cache's first such resolve on, only lists and verdicts are compared with `resolve_with`, and only while no
-- two tables that stood had one generation"
abbrev pub compares : Seen → Call → Bool
compares k (store t es) = true
compares k (clearing i) = true
compares k (asking subject out) = true
compares k (resolving i subject out) = not (and (k.spoiled i) k.mixed)
compares k (asking_home subject out) = true
compares k (resolving_home i subject out) = not (and (k.spoiled i) k.mixed)

-- the caches without such a resolve are the same
abbrev pub CachesSame : Seen → Yard → World → Type 0
CachesSame k y w = (i : ℕ) → k.spoiled i ≡ false → SameKept (y.caches i) (w.caches i)

-- the caches before every call and behind the last, and every answer
module _ (std : Std) (iter : Iter ℕ) where
  abbrev pub EachSame : Seen → Yard → World → List (NamedCall × Asked) → Type 0
  EachSame k y w [] = CachesSame k y w
  EachSame k y w ((n, d) ∷ rest) =
      CachesSame k y w
      × Compared (compares (met_by k y n) n.1) (reply_on y n) w (call std iter w d)
      (λ v. EachSame (seen_after k y n) (after_on y n) v rest)
