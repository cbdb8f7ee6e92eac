-- The original, IronBus's snapshot (sublist.rs 653-743), resolve_cache.rs and binding.rs, over values, to be read
-- beside them. `sublist.rs N-M` names the lines that a definition stands for.
-- Names are the Rust's, with `-` for `_`. The `ArcSwap` is the table that it holds, an atomic its number: there is one
-- thread. What is changed through `&self` or `&mut self` is an argument, and comes back changed.
-- A u64 is a number. `wrapping_add` and `fetch_add` go modulo 2^64, and so does `+=`, as in a release build; a debug
-- build panics there instead.
-- The table, its `build` and its `match_into` are those of the crate `sublist_original`.
use Rattle.std.specs.Prelude.{ℕ, ◌+◌, ◌%◌, ◌^◌, ◌≤◌, max, ◌≡◌, Bool, true, false, eqb, ltb, length}
use mathlib.Core.List.{List, [], ◌∷◌, Memᴰ}
use Rattle.std.proofs.Math.Option.{Option, none, some}
use Rattle.subject_rules.specs.Original.{when◌then◌else◌, Str, equal}
use Rattle.sublist_original.specs.Original as sublist
use Rattle.sublist_original.specs.Original.{Outcome, Ok, Err, Panic, ◌>>=◌, push, Std, Sublist, build, match_into}
use Rattle.sublist_original.specs.Original.{match_subject}

abbrev pub wrapping_add : ℕ → ℕ → ℕ
wrapping_add a b = (a + b) % 2 ^ 64

-- `expect`
abbrev pub expect : {A : Type 0} → Outcome A → Outcome A
expect (Ok a) = Ok a
expect (Err e) = Panic
expect Panic = Panic

-- THE SNAPSHOT

-- sublist.rs 663-667
pub record SublistSnapshot (T : Type 0) : Type 0 where
  pub current : Sublist T
  pub next_generation : ℕ

module _ {T : Type 0} where
  -- sublist.rs 672-677
  abbrev pub new : Sublist T → SublistSnapshot T
  new initial = record { current = initial; next_generation = 1 }

  -- sublist.rs 689-697
  abbrev pub empty : Std → Outcome (SublistSnapshot T)
  empty std = do
    initial ← expect (build std sublist.new 0)
    Ok (new initial)

  -- sublist.rs 703-705
  abbrev pub load : SublistSnapshot T → Sublist T
  load snapshot = snapshot.current

  -- sublist.rs 709-711
  abbrev pub generation : SublistSnapshot T → ℕ
  generation snapshot = (load snapshot).generation

  -- sublist.rs 723: `next.generation = gen`
  abbrev pub stamp : Sublist T → ℕ → Sublist T
  stamp next gen = record { nodes = next.nodes; targets = next.targets; generation = gen }

  -- sublist.rs 721-726: the generation, and the snapshot then
  abbrev pub store : SublistSnapshot T → Sublist T → ℕ × SublistSnapshot T
  store snapshot next = (
    snapshot.next_generation,
    record { current = stamp next snapshot.next_generation; next_generation = wrapping_add snapshot.next_generation 1 },
  )

  -- sublist.rs 731-735: the generation, and `out` then
  abbrev pub snapshot_match_into : Std → SublistSnapshot T → Str → List T → Outcome (ℕ × List T)
  snapshot_match_into std snapshot subject out = do
    out' ← match_into std (load snapshot) subject out
    Ok (generation snapshot, out')

  -- sublist.rs 740-742
  abbrev pub snapshot_match_subject : Std → SublistSnapshot T → Str → Outcome (List T)
  snapshot_match_subject std snapshot subject = match_subject std (load snapshot) subject

-- THE CACHE

-- resolve_cache.rs 86
abbrev pub DEFAULT_CAPACITY : ℕ
DEFAULT_CAPACITY = 1024

-- resolve_cache.rs 95-102
pub record CacheEntry (T : Type 0) : Type 0 where
  pub targets : List T
  pub last_used : ℕ

-- `HashMap<String, CacheEntry<T>>`: the keys with their entries, each key once
abbrev pub HashMap : Type 0 → Type 0
HashMap T = List (Str × CacheEntry T)

module _ {T : Type 0} where
  -- `get_mut`: the entry of a key
  abbrev pub get : HashMap T → Str → Option (CacheEntry T)
  get [] key = none
  get ((k, e) ∷ rest) key = when equal k key then some e else get rest key

  -- resolve_cache.rs 245: `entry.last_used = next_tick`, through what `get_mut` gave
  abbrev pub refresh : HashMap T → Str → ℕ → HashMap T
  refresh [] key next-tick = []
  refresh ((k, e) ∷ rest) key next-tick =
      when equal k key then (k, record { targets = e.targets; last_used = next-tick }) ∷ refresh rest key next-tick
      else (k, e) ∷ refresh rest key next-tick

  -- `remove`
  abbrev pub remove : HashMap T → Str → HashMap T
  remove [] key = []
  remove ((k, e) ∷ rest) key = when equal k key then remove rest key else (k, e) ∷ remove rest key

  -- `insert`: what stood under the key goes
  abbrev pub insert : HashMap T → Str → CacheEntry T → HashMap T
  insert entries key entry = push (remove entries key) (key, entry)

  abbrev pub Each : (Str × CacheEntry T → Type 0) → HashMap T → Type 0
  Each P [] = Unit {0}
  Each P (x ∷ rest) = P x × Each P rest

-- `iter().min_by_key(|(_, e)| e.last_used)`: Rust leaves the order of a HashMap's `iter` open, and with it which of
-- several entries of smallest `last_used` is given. Any one may be.
pub record Iter (T : Type 0) : Type 0 where
  pub min_by_last_used : HashMap T → Option (Str × CacheEntry T)
  pub given : (entries : HashMap T) (x : Str × CacheEntry T) → min_by_last_used entries ≡ some x → Memᴰ x entries
  pub smallest :
      (entries : HashMap T) (x : Str × CacheEntry T) → min_by_last_used entries ≡ some x
      → Each (λ y. x.1.last_used ≤ y.1.last_used) entries
  pub none_if_empty : (entries : HashMap T) → min_by_last_used entries ≡ none → entries ≡ []

-- resolve_cache.rs 114-129
pub record ResolveCache (T : Type 0) : Type 0 where
  pub entries : HashMap T
  pub generation : ℕ
  pub capacity : ℕ
  pub tick : ℕ
  pub walks : ℕ

module _ {T : Type 0} where
  -- resolve_cache.rs 147-155
  abbrev pub with-capacity : ℕ → ResolveCache T
  with-capacity capacity = record { entries = []; generation = 0; capacity = max capacity 1; tick = 0; walks = 0 }

  -- resolve_cache.rs 137-139; `new` is the snapshot's
  abbrev pub new_cache : ResolveCache T
  new_cache = with-capacity DEFAULT_CAPACITY

  -- resolve_cache.rs 165-167
  abbrev pub len : ResolveCache T → ℕ
  len cache = length cache.entries

  -- resolve_cache.rs 171-173
  abbrev pub is_empty : ResolveCache T → Bool
  is_empty cache = eqb (len cache) 0

  -- resolve_cache.rs 179-181
  abbrev pub walk_count : ResolveCache T → ℕ
  walk_count cache = cache.walks

  -- resolve_cache.rs 292-295
  abbrev pub clear : ResolveCache T → ResolveCache T
  clear cache = record { entries = []; generation = cache.generation; capacity = cache.capacity; tick = 0; walks = cache.walks }

  -- resolve_cache.rs 234-238: (2)
  abbrev pub guarded : ℕ → ResolveCache T → ResolveCache T
  guarded current_gen cache =
      when eqb current_gen cache.generation then cache
      else record { entries = []; generation = current_gen; capacity = cache.capacity; tick = 0; walks = cache.walks }

  -- resolve_cache.rs 280-287
  abbrev pub without : Option (Str × CacheEntry T) → HashMap T → HashMap T
  without none entries = entries
  without (some victim) entries = remove entries victim.0

  -- resolve_cache.rs 274-288: the entries then
  abbrev pub evict_if_full : Iter T → ResolveCache T → HashMap T
  evict_if_full iter cache =
      when ltb (length cache.entries) cache.capacity then cache.entries
      else without (iter.min_by_last_used cache.entries) cache.entries

  -- resolve_cache.rs 244-245: the cache behind a hit
  abbrev pub hit : ResolveCache T → Str → ResolveCache T
  hit cache subject = record {
    entries = refresh cache.entries subject (wrapping_add cache.tick 1);
    generation = cache.generation;
    capacity = cache.capacity;
    tick = wrapping_add cache.tick 1;
    walks = cache.walks;
  }

  -- resolve_cache.rs 250 and 256-265: the cache behind a miss
  abbrev pub miss : Iter T → ResolveCache T → Str → List T → ResolveCache T
  miss iter cache subject targets = record {
    entries = insert (evict_if_full iter cache) subject (record { targets = targets; last_used = wrapping_add cache.tick 1 });
    generation = cache.generation;
    capacity = cache.capacity;
    tick = wrapping_add cache.tick 1;
    walks = wrapping_add cache.walks 1;
  }

  module _ (std : Std) (iter : Iter T) {R : Type 0} (f : List T → R) where
    -- resolve_cache.rs 243-266: (3) and (4), by what `get_mut` gives
    abbrev pub looked_up : ResolveCache T → Sublist T → Str → Option (CacheEntry T) → Outcome (R × ResolveCache T)
    looked_up cache guard subject (some entry) = Ok (f entry.targets, hit cache subject)
    looked_up cache guard subject none = do
      targets ← match_into std guard subject []
      Ok (f targets, miss iter cache subject targets)

    -- resolve_cache.rs 221-267: what `f` gives, and the cache then
    abbrev pub resolve_with : ResolveCache T → SublistSnapshot T → Str → Outcome (R × ResolveCache T)
    resolve_with cache snapshot subject =
        let guard = load snapshot in
        let on = guarded guard.generation cache in
        looked_up on guard subject (get on.entries subject)

  -- resolve_cache.rs 210-212
  abbrev pub resolve : Std → Iter T → ResolveCache T → SublistSnapshot T → Str → Outcome (List T × ResolveCache T)
  resolve std iter = resolve_with std iter (λ targets. targets)

-- THE VERDICT

-- binding.rs 58-74
pub data Resolution (T : Type 0) : Type 0 where
  Routed : T → Resolution T
  NoStream : Resolution T
  Ambiguous : (matched : ℕ) → Resolution T

module _ {T : Type 0} where
  -- binding.rs 80-85
  abbrev pub routed : Resolution T → Option T
  routed (Routed t) = some t
  routed NoStream = none
  routed (Ambiguous matched) = none

  -- binding.rs 89-91
  abbrev pub is_routed : Resolution T → Bool
  is_routed (Routed t) = true
  is_routed NoStream = false
  is_routed (Ambiguous matched) = false

  -- binding.rs 108-116
  abbrev pub single-home : List T → Resolution T
  single-home [] = NoStream
  single-home (one ∷ []) = Routed one
  single-home (one ∷ (two ∷ rest)) = Ambiguous (length (one ∷ (two ∷ rest)))

  -- binding.rs 125-132
  abbrev pub resolve-single-home : Std → SublistSnapshot T → Str → Outcome (Resolution T)
  resolve-single-home std snapshot subject = do
    matched ← snapshot_match_into std snapshot subject []
    Ok (single-home matched.1)

  -- binding.rs 150-156
  abbrev pub resolve_single_home_cached : Std → Iter T → ResolveCache T → SublistSnapshot T → Str → Outcome (Resolution T × ResolveCache T)
  resolve_single_home_cached std iter = resolve_with std iter single-home
