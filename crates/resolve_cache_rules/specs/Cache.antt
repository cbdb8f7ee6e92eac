-- The resolve cache: its state, and what each call answers and leaves.
use Rattle.std.specs.Prelude.{ℕ, zero, suc, ◌+◌, ◌*◌, ◌-◌, max, Bool, false, not, List, [], ◌∷◌, eqb, ltb, length, get_or}
use Rattle.std.proofs.Math.Option.{Option, none, some}
use Rattle.subject_rules.specs.Choice.{pick, and, or}
use Rattle.subject_rules.specs.Text.{same}
use Rattle.subject_rules.specs.Answers.{Answer, answer}
use Rattle.subject_rules.specs.Grammar.{grammar}
use Rattle.sublist_walk_rules.specs.Walk.{part, Walked, found, failed}
use Rattle.subject_rules.specs.Outputs.{over}
use Rattle.sublist_snapshot.specs.declared.Generation.{Generation}
use Rattle.sublist_snapshot.specs.declared.Snapshot.{Snapshot}
use Rattle.sublist_snapshot.specs.Snapshot.{wrap, stands_in, walk_of}
use Rattle.resolve_cache_rules.specs.declared.Tick.{Tick}
use Rattle.resolve_cache_rules.specs.declared.ResolveCache.{ResolveCache}
use Rattle.resolve_cache_rules.specs.Mark.{mark}
use Rattle.resolve_cache_rules.specs.Area.{Area, key_length, target_count, mark_at, stamp_at, key_at, keep, touch}

-- 17: capacity over 1,024, or the lent store is smaller than capacity slots
abbrev pub short : ℕ → Area → Bool
short capacity a =
    or (ltb 1024 capacity)
    (or (ltb (length a.stamps) capacity)
    (or (ltb (length a.keys) (260 * capacity))
    (ltb (length a.kept) (16 * capacity))))

-- a slot has a key over 256 bytes or over 16 targets
abbrev pub bad_slot : ℕ → List ℕ → ℕ → Bool
bad_slot c keys i = or (ltb 256 (key_length c keys i)) (ltb 16 (target_count c keys i))

-- one of n slots from i on does
abbrev pub bad_from : ℕ → List ℕ → ℕ → ℕ → Bool
bad_from c keys i zero = false
bad_from c keys i (suc n) = or (bad_slot c keys i) (bad_from c keys (suc i) n)

-- 18: capacity is 0, more slots are used than capacity, or a used slot is bad
abbrev pub bad : ResolveCache → Area → Bool
bad c a =
    or (eqb c.capacity 0) (or (ltb c.capacity c.used) (bad_from c.capacity a.keys 0 c.used))

-- a slot keeps a subject if its mark and its bytes are the subject's
abbrev pub keeps_at : ℕ → List ℕ → List ℕ → ℕ → Bool
keeps_at c keys subject i = and (eqb (mark_at c keys i) (mark subject)) (same (key_at c keys i) subject)

-- the first of n slots from i on that does
abbrev pub find_from : ℕ → List ℕ → List ℕ → ℕ → ℕ → Option ℕ
find_from c keys subject i zero = none
find_from c keys subject i (suc n) =
    pick (keeps_at c keys subject i) (some i) (find_from c keys subject (suc i) n)

-- the slot of smallest stamp among best and n slots from i on, the lowest on a tie
abbrev pub oldest_from : List ℕ → ℕ → ℕ → ℕ → ℕ
oldest_from stamps best i zero = best
oldest_from stamps best i (suc n) =
    oldest_from stamps (pick (ltb (stamp_at stamps i) (stamp_at stamps best)) i best) (suc i) n

-- the slot that a new list goes to: the first unused one, or the one of smallest stamp
abbrev pub place : ResolveCache → Area → ℕ
place c a = pick (ltb c.used c.capacity) c.used (oldest_from a.stamps 0 1 (c.used - 1))

-- generation, tick and walks 0
abbrev pub fresh : ℕ → ResolveCache
fresh capacity =
    record { capacity = capacity; used = 0; generation = record { 0 = 0 }; tick = record { 0 = 0 }; walks = 0 }

-- a state as the values of an answer
abbrev pub cache_numbers : ResolveCache → List ℕ
cache_numbers c = c.capacity ∷ c.used ∷ c.generation.0 ∷ c.tick.0 ∷ c.walks ∷ []

-- `with_capacity`: 0 with the new state, or 17. It turns 0 into 1, and writes nothing
unfoldable pub with_capacity : ℕ → Area → Answer
with_capacity n a = pick (short (max 1 n) a) (answer 17 []) (answer 0 (cache_numbers (fresh (max 1 n))))

-- `new`: of DEFAULT_CAPACITY
abbrev pub new_cache : Area → Answer
new_cache a = with_capacity 1024 a

-- emptied, on a generation
abbrev pub emptied : Generation → ResolveCache → ResolveCache
emptied g c = record { capacity = c.capacity; used = 0; generation = g; tick = record { 0 = 0 }; walks = c.walks }

-- `clear`: generation and walks remain
unfoldable pub clear : ResolveCache → ResolveCache
clear c = emptied c.generation c

-- on another generation: emptied, with that generation
abbrev pub adopt : Generation → ResolveCache → ResolveCache
adopt g c = pick (eqb c.generation.0 g.0) c (emptied g c)

-- the next tick
abbrev pub ticked : ResolveCache → Tick
ticked c = record { 0 = wrap (c.tick.0 + 1) }

-- the state after a hit, after a walk that keeps nothing, and after one that keeps its list
abbrev pub hit : ResolveCache → ResolveCache
hit c = record { capacity = c.capacity; used = c.used; generation = c.generation; tick = ticked c; walks = c.walks }

abbrev pub walked : ResolveCache → ResolveCache
walked c = record { capacity = c.capacity; used = c.used; generation = c.generation; tick = ticked c; walks = wrap (c.walks + 1) }

abbrev pub grown : ResolveCache → ResolveCache
grown c = record {
  capacity = c.capacity;
  used = pick (ltb c.used c.capacity) (suc c.used) c.used;
  generation = c.generation;
  tick = ticked c;
  walks = wrap (c.walks + 1);
}

-- a subject over 256 bytes or a list over 16 targets is not kept
abbrev pub qualifies : List ℕ → List ℕ → Bool
qualifies subject list = not (or (ltb 256 (length subject)) (ltb 16 (length list)))

-- an accepted resolve says where its list lies: 0 for the cache's targets or 1 for the output,
-- the place where it starts, and its length
abbrev pub in_kept : ℕ → ℕ → Answer
in_kept from count = answer 0 (0 ∷ from ∷ count ∷ [])

abbrev pub in_out : ℕ → Answer
in_out count = answer 0 (1 ∷ 0 ∷ count ∷ [])

-- the list that those values say: a part of the cache's targets or of the output
abbrev pub list_at : List ℕ → List ℕ → List ℕ → List ℕ
list_at values kept out = part (pick (eqb (get_or values 0 0) 0) kept out) (get_or values 1 0) (get_or values 2 0)

-- what an answer hands back, read with the cache's targets and the output as the resolve left them:
-- a refusal, or the list
pub data Handed : Type 0 where
  turned_back : Answer → Handed
  gives : List ℕ → Handed

abbrev pub handed : Answer → List ℕ → List ℕ → Handed
handed (answer zero values) kept out = gives (list_at values kept out)
handed (answer (suc k) values) kept out = turned_back (answer (suc k) values)

-- a resolve: its answer, and the state and areas afterwards
pub record Resolved : Type 0 where
  pub says : Answer
  pub cache : ResolveCache
  pub area : Area
  pub out : List ℕ

module _ (c : ResolveCache) (a : Area) (subject out : List ℕ) where
  -- a refusal changes nothing
  abbrev pub unchanged : Answer → Resolved
  unchanged r = record { says = r; cache = c; area = a; out = out }

  -- what an accepted miss leaves; e is the cache on the table's generation
  abbrev pub missed : ResolveCache → List ℕ → Resolved
  missed e list =
      pick (qualifies subject list)
      (record {
        says = in_out (length list);
        cache = grown e;
        area = keep e.capacity a (place e a) subject list (ticked e).0;
        out = over list out;
      })
      (record { says = in_out (length list); cache = walked e; area = a; out = over list out })

  -- 21, then a hit: it stamps the slot and leaves the output
  abbrev pub hit_at : ResolveCache → ℕ → Resolved
  hit_at e i =
      let count = target_count e.capacity a.keys i in
      pick (ltb (length out) count) (unchanged (answer 21 (count ∷ [])))
      (record {
        says = in_kept (16 * i) count;
        cache = hit e;
        area = touch a i (ticked e).0;
        out = out;
      })

  -- 19 in the walk, then 21
  abbrev pub miss : ResolveCache → Walked → Resolved
  miss e (failed w) = unchanged (answer 19 [])
  miss e (found list peak) =
      pick (ltb (length out) (length list)) (unchanged (answer 21 (length list ∷ []))) (missed e list)

  abbrev pub work_by : Option ℕ → ResolveCache → Walked → Resolved
  work_by (some i) e w = hit_at e i
  work_by none e w = miss e w

  abbrev pub work : ResolveCache → Walked → Resolved
  work e w = work_by (find_from e.capacity a.keys subject 0 e.used) e w

  -- 1 to 9 come first
  abbrev pub if_accepted : Answer → Resolved → Resolved
  if_accepted (answer zero values) after = after
  if_accepted (answer (suc k) values) after = unchanged (answer (suc k) values)

  -- the table stands under a generation; stands says that its counts do; w is what a walk of it ends with
  abbrev pub resolve_by : Generation → Bool → Walked → Resolved
  resolve_by g stands w =
      if_accepted (grammar false subject)
      (pick (short c.capacity a) (unchanged (answer 17 []))
      (pick (bad c a) (unchanged (answer 18 []))
      (pick stands (work (adopt g c) w) (unchanged (answer 19 [])))))

-- `resolve`: a cache and its area, a snapshot and its area, the subject and the lent output
unfoldable pub resolve : ResolveCache → Area → Snapshot → List ℕ → List ℕ → List ℕ → Resolved
resolve c a s area subject out = resolve_by c a subject out s.generation (stands_in s area) (walk_of s area subject)
