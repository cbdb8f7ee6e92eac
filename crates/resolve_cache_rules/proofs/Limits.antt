-- 01's numbers of a cache, written out: what a definition that was changed together with the code would not meet.
--
--   capacity-over, capacity-fits, stamps-short, keys-short, kept-short
--                                   17 exactly over 1,024 slots, or where the area has less than a stamp, 260 bytes and 16 targets a slot
--   new_is                          DEFAULT_CAPACITY is 1,024
--   lent-over                       17 of a lent state
--   slot_size                       a slot takes at most 400 words or bytes in all
use Prim.Native.Nat.{ℕ, ◌+◌, ◌*◌, ◌≤◌, ◌<◌, max}
use native.Mathlib.Omega.{arith}
use mathlib.Core.Path.{◌≡◌, refl}
use mathlib.Core.Bool.{false}
use mathlib.Core.List.{List, [], ◌∷◌}
use lib.Dec.{ltb}
use lib.ListN.{length}
use borrow.Author.Tests.{lt-ltb, le-ltb}
use Rattle.subject_rules.specs.Answers.{answer}
use Rattle.subject_rules.specs.Grammar.{grammar}
use Rattle.subject_rules.proofs.Booleans.{or_true}
use Rattle.sublist_snapshot.specs.declared.Snapshot.{Snapshot}
use Rattle.resolve_cache_rules.specs.declared.ResolveCache.{ResolveCache}
use Rattle.resolve_cache_rules.specs.Area.{Area}
use Rattle.resolve_cache_rules.specs.Cache.{with_capacity, new_cache, resolve}

module _ (n : ℕ) (a : Area) where
  pub capacity-over : 1024 < n → with_capacity n a ≡ answer 17 []
  unfolding with_capacity
  capacity-over h = rw (lt-ltb 1024 (max 1 n) (omega arith))

  pub capacity-fits : 1 ≤ n → n ≤ 1024 → n ≤ length a.stamps → 260 * n ≤ length a.keys → 16 * n ≤ length a.kept → with_capacity n a ≡ answer 0 (n ∷ 0 ∷ 0 ∷ 0 ∷ 0 ∷ [])
  unfolding with_capacity
  capacity-fits some few stamps keys kept =
      let same : max 1 n ≡ n = omega arith in
      rw (same, le-ltb 1024 n few, le-ltb (length a.stamps) n stamps, le-ltb (length a.keys) (260 * n) keys, le-ltb (length a.kept) (16 * n) kept)

  -- one of the three lists is shorter than n slots
  module _ (some : 1 ≤ n) where
    same : max 1 n ≡ n
    same = omega arith

    pub stamps-short : length a.stamps < n → with_capacity n a ≡ answer 17 []
    unfolding with_capacity
    stamps-short h = rw (same, lt-ltb (length a.stamps) n h, or_true (ltb 1024 n))

    pub keys-short : length a.keys < 260 * n → with_capacity n a ≡ answer 17 []
    unfolding with_capacity
    keys-short h = rw (same, lt-ltb (length a.keys) (260 * n) h, or_true (ltb (length a.stamps) n), or_true (ltb 1024 n))

    pub kept-short : length a.kept < 16 * n → with_capacity n a ≡ answer 17 []
    unfolding with_capacity
    kept-short h =
        rw (same, lt-ltb (length a.kept) (16 * n) h, or_true (ltb (length a.keys) (260 * n)), or_true (ltb (length a.stamps) n), or_true (ltb 1024 n))

pub new_is : (a : Area) → new_cache a ≡ with_capacity 1024 a
new_is a = refl

pub lent-over : (c : ResolveCache) (a : Area) (s : Snapshot) (area subject out values : List ℕ) → grammar false subject ≡ answer 0 values → 1024 < c.capacity
    → (resolve c a s area subject out).says ≡ answer 17 []
unfolding resolve
lent-over c a s area subject out values g h = rw (g, lt-ltb 1024 c.capacity h)

-- "a slot taking at most 400 words or bytes in all": a stamp of eight bytes, four bytes of lists and 256 of a key, 16 targets of four
pub slot_size : (1 + 260 + 16 ≤ 400) × (8 + 260 + 16 * 4 ≤ 400)
slot_size = (omega arith, omega arith)
