-- A cache never leaves a slot whose mark is not its key's: from its making on, whatever table, subject and output a resolve is given, and on any lent state and area that has none.
--
--   fresh-marked, cleared-marked    a cache that is made or cleared has no slot in use
--   resolve-marked                  Marked c a → Marked of what a resolve leaves
use Prim.Native.Nat.{ℕ, zero, suc, ◌*◌, ◌≤◌, ◌<◌}
use native.Mathlib.Omega.{arith}
use mathlib.Core.Path.{◌≡◌, refl}
use mathlib.Core.Bool.{Bool, true, false}
use mathlib.Core.List.{List, [], ◌∷◌}
use mathlib.Core.Option.{Option, none, some}
use lib.Dec.{ltb}
use lib.ListN.{length}
use Rattle.subject_rules.specs.Choice.{pick}
use Rattle.subject_rules.specs.Answers.{Answer, answer}
use Rattle.subject_rules.specs.Grammar.{grammar}
use Rattle.sublist_walk_rules.specs.Walk.{Walked, found, failed}
use Rattle.sublist_snapshot.specs.declared.Snapshot.{Snapshot}
use Rattle.sublist_snapshot.specs.Snapshot.{stands_in, walk_of}
use Rattle.resolve_cache_rules.specs.declared.ResolveCache.{ResolveCache}
use Rattle.resolve_cache_rules.specs.Mark.{mark}
use Rattle.resolve_cache_rules.specs.Area.{Area, target_count, mark_at, key_at, touch}
use Rattle.resolve_cache_rules.specs.Cache.{short, bad, find_from, cache_numbers, with_capacity, clear, adopt}
use Rattle.resolve_cache_rules.specs.Cache.{ticked, hit, in_kept, Resolved, unchanged, missed, work_by, if_accepted, resolve}
use Rattle.resolve_cache_rules.proofs.Slots.{not_bad, short-wide, small_from}
use Rattle.resolve_cache_rules.proofs.Keeps.{Keeps, Anything, fresh_keeps, adopted_keeps, grown_keeps, missed_either}
use Rattle.resolve_cache_rules.proofs.Faithful.{accepted_some}

-- the mark of each slot in use is its key's
abbrev pub Marked : ResolveCache → Area → Type 0
Marked c a = (i : ℕ) → i < c.used → mark_at c.capacity a.keys i ≡ mark (key_at c.capacity a.keys i)

pub fresh-marked : (n : ℕ) (c : ResolveCache) (a : Area) → with_capacity n a ≡ answer 0 (cache_numbers c) → Marked c a
fresh-marked n c a e i h = ((fresh_keeps Anything n c a e).small i h).mark

pub cleared-marked : (c : ResolveCache) (a : Area) → Marked (clear c) a
unfolding clear
cleared-marked c a i h = absurd (omega arith)

-- neither 17 nor 18 applies
sorted : (c : ResolveCache) (a : Area) → short c.capacity a ≡ false → bad c a ≡ false → Marked c a → Keeps Anything c a
sorted c a s b m =
    let q = not_bad c a b in
    record {
      wide = short-wide c.capacity a s;
      any = q.0;
      fits = q.1;
      small = λ i h. let k = small_from c.capacity a.keys 0 c.used q.2 i (omega arith) (omega arith) in record { length = k.0; count = k.1; mark = m i h };
      each = λ i h. tt;
    }

module _ (c : ResolveCache) (a : Area) (subject out : List ℕ) (m : Marked c a) where
  abbrev Leaves : Resolved → Type 0
  Leaves r = Marked r.cache r.area

  module _ (filled : 1 ≤ length subject) (e : ResolveCache) (f : Keeps Anything e a) where
    missed-marked : (list : List ℕ) → Leaves (missed c a subject out e list)
    missed-marked list =
        missed_either c a subject out e list Leaves (λ s t i h. ((grown_keeps Anything e a f subject list tt filled s t).small i h).mark) (λ i h. (f.small i h).mark)

    work-marked : (o : Option ℕ) (w : Walked) → Leaves (work_by c a subject out o e w)
    work-marked (some i) w = go (ltb (length out) (target_count e.capacity a.keys i))
      where
        go : (b : Bool) → Leaves (pick b (unchanged c a subject out (answer 21 (target_count e.capacity a.keys i ∷ [])))
            (record { says = in_kept (16 * i) (target_count e.capacity a.keys i); cache = hit e; area = touch a i (ticked e).0; out = out }))
        go true = m
        go false = λ i h. (f.small i h).mark
    work-marked none (failed x) = m
    work-marked none (found list peak) = go (ltb (length out) (length list)) (missed-marked list)
      where
        go : (b : Bool) → Leaves (missed c a subject out e list) → Leaves (pick b (unchanged c a subject out (answer 21 (length list ∷ []))) (missed c a subject out e list))
        go true l = m
        go false l = l

  pub resolve-marked : (s : Snapshot) (area : List ℕ) → Marked (resolve c a s area subject out).cache (resolve c a s area subject out).area
  unfolding resolve
  resolve-marked s area = go (grammar false subject) refl (short c.capacity a) refl (bad c a) refl (stands_in s area)
    where
      go : (o : Answer) → grammar false subject ≡ o → (b : Bool) → short c.capacity a ≡ b → (d : Bool) → bad c a ≡ d → (stands : Bool)
          → Leaves (if_accepted c a subject out o
          (pick b (unchanged c a subject out (answer 17 []))
          (pick d (unchanged c a subject out (answer 18 []))
          (pick stands (work_by c a subject out (find_from (adopt s.generation c).capacity a.keys subject 0 (adopt s.generation c).used) (adopt s.generation c) (walk_of s area subject))
          (unchanged c a subject out (answer 19 []))))))
      go (answer (suc k) values) q b p d r stands = m
      go (answer zero values) q true p d r stands = m
      go (answer zero values) q false p true r stands = m
      go (answer zero values) q false p false r false = m
      go (answer zero values) q false p false r true =
          let k = sorted c a p r m in
          work-marked (accepted_some subject values q) (adopt s.generation c) (adopted_keeps Anything s.generation c a k.wide k.any (λ z. k))
          (find_from (adopt s.generation c).capacity a.keys subject 0 (adopt s.generation c).used) (walk_of s area subject)
