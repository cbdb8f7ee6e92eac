-- A cache of ours, whatever the generations: what a resolve hands back and leaves.
--
--   resolve-ends     a walk gives list → the resolve hands back what is listed, and leaves the cache as it was if it turns back, else as left_by says
--   left_keeps       Keeps P e a → P subject list → the subject is not empty → Keeps P of what left_by says
use Prim.Native.Nat.{ℕ, zero, suc, ◌*◌, ◌≤◌, ◌<◌}
use native.Mathlib.Omega.{arith}
use mathlib.Core.Path.{◌≡◌, refl, sym, ap, subst}
use mathlib.Core.Bool.{Bool, true, false}
use mathlib.Core.List.{List, [], ◌∷◌}
use mathlib.Core.Option.{Option, none, some}
use lib.Dec.{ltb}
use lib.ListN.{length, take, drop}
use lib.Seq.{take-append_seam}
use Rattle.subject_rules.specs.Choice.{pick}
use Rattle.subject_rules.specs.Answers.{Answer, answer}
use Rattle.subject_rules.specs.Grammar.{grammar}
use Rattle.sublist_walk_rules.specs.Walk.{found}
use Rattle.subject_rules.specs.Outputs.{over}
use Rattle.sublist_snapshot.specs.declared.Generation.{Generation}
use Rattle.sublist_snapshot.specs.declared.Snapshot.{Snapshot}
use Rattle.sublist_snapshot.specs.Snapshot.{stands_in, walk_of}
use Rattle.resolve_cache_rules.specs.declared.ResolveCache.{ResolveCache}
use Rattle.resolve_cache_rules.specs.Area.{Area, target_count, targets_at, keep, touch}
use Rattle.resolve_cache_rules.specs.Cache.{short, bad, find_from, place, adopt, ticked, hit, walked, grown, qualifies, in_kept, Handed, turned_back, gives, handed, Resolved, unchanged, hit_at, miss, work_by, work, if_accepted, resolve}
use Rattle.resolve_cache_rules.proofs.Slots.{wide_short, targets-length, find-sound}
use Rattle.resolve_cache_rules.proofs.Keeps.{Keeps, Anything, adopted_by, adopted_keeps, good, hit_keeps, walked_keeps, grown_keeps, qualified, missed_if}
use Rattle.resolve_cache_rules.proofs.Faithful.{unless_text, fitting}
use Rattle.binding.specs.Calls.{Kept}

pub adopted_generation : (g : Generation) (c : ResolveCache) → (adopt g c).generation.0 ≡ g.0
adopted_generation g c = adopted_by g c (λ d. d.generation.0 ≡ g.0) (λ q. q) (λ q. refl)

-- ---- what a resolve hands back and leaves

-- the slot that keeps the subject, on a cache e that is on the table's generation
abbrev pub slot_of : ResolveCache → Area → List ℕ → Option ℕ
slot_of e a subject = find_from e.capacity a.keys subject 0 e.used

-- the list of that slot, or the list that a walk gives
abbrev pub listed : ResolveCache → Area → List ℕ → Option ℕ → List ℕ
listed e a list (some i) = targets_at e.capacity a.keys a.kept i
listed e a list none = list

-- behind a walk, by whether its list is kept
abbrev pub left_if_kept : ResolveCache → Area → List ℕ → List ℕ → Bool → Kept
left_if_kept e a subject list b = pick b (record { cache = grown e; area = keep e.capacity a (place e a) subject list (ticked e).0 }) (record { cache = walked e; area = a })

abbrev pub left_by : ResolveCache → Area → List ℕ → List ℕ → Option ℕ → Kept
left_by e a subject list (some i) = record { cache = hit e; area = touch a i (ticked e).0 }
left_by e a subject list none = left_if_kept e a subject list (qualifies subject list)

-- a resolve that turns back leaves everything
abbrev pub left_if : Handed → Kept → Kept → Kept
left_if (turned_back r) old new = old
left_if (gives list) old new = new

module _ (c : ResolveCache) (a : Area) (subject out list : List ℕ) (f : Keeps Anything c a) where
  -- a resolve hands h back, and leaves what it leaves then; r is the slot that keeps the subject
  abbrev Ended : ResolveCache → Option ℕ → Handed → Resolved → Type 0
  Ended e r h x =
      (handed x.says x.area.kept x.out ≡ h)
      × (record { cache = x.cache; area = x.area } ≡ left_if h (record { cache = c; area = a }) (left_by e a subject list r))

  module _ (e : ResolveCache) (fe : Keeps Anything e a) where
    hit-ends : (i : ℕ) → i < e.used → Ended e (some i) (fitting (length out) (targets_at e.capacity a.keys a.kept i)) (hit_at c a subject out e i)
    hit-ends i h =
        subst (λ n. Ended e (some i) (pick (ltb (length out) n) (turned_back (answer 21 (n ∷ []))) (gives (targets_at e.capacity a.keys a.kept i))) (hit_at c a subject out e i))
        (sym (targets-length e.capacity a fe.wide i (omega (arith, fe.fits)) (fe.small i h).count)) (go (ltb (length out) (target_count e.capacity a.keys i)))
      where
        go : (b : Bool) → Ended e (some i) (pick b (turned_back (answer 21 (target_count e.capacity a.keys i ∷ []))) (gives (targets_at e.capacity a.keys a.kept i)))
            (pick b (unchanged c a subject out (answer 21 (target_count e.capacity a.keys i ∷ [])))
            (record { says = in_kept (16 * i) (target_count e.capacity a.keys i); cache = hit e; area = touch a i (ticked e).0; out = out }))
        go true = (refl, refl)
        go false = (refl, refl)

    miss-ends : (peak : ℕ) → Ended e none (fitting (length out) list) (miss c a subject out e (found list peak))
    miss-ends peak = go (ltb (length out) (length list)) (qualifies subject list) refl
      where
        whole : gives (take (length list) (over list out)) ≡ gives list
        whole = ap gives (take-append_seam list (drop (length list) out))

        go : (b d : Bool) → qualifies subject list ≡ d → Ended e none (pick b (turned_back (answer 21 (length list ∷ []))) (gives list))
            (pick b (unchanged c a subject out (answer 21 (length list ∷ []))) (missed_if c a subject out e list d))
        go true true q = (refl, refl)
        go true false q = (refl, refl)
        go false true q = (whole, rw q)
        go false false q = (whole, rw q)

    work-ends : (peak : ℕ) → Ended e (slot_of e a subject) (fitting (length out) (listed e a list (slot_of e a subject))) (work c a subject out e (found list peak))
    work-ends peak = go (slot_of e a subject) refl
      where
        go : (r : Option ℕ) → slot_of e a subject ≡ r → Ended e r (fitting (length out) (listed e a list r)) (work_by c a subject out r e (found list peak))
        go (some i) q = let s = find-sound e.capacity a.keys subject 0 e.used i q in hit-ends i (omega (arith, s.below))
        go none q = miss-ends peak

  -- through a snapshot on which a table stands
  pub resolve-ends : (s : Snapshot) (area : List ℕ) (peak : ℕ) → stands_in s area ≡ true → walk_of s area subject ≡ found list peak
      → Ended (adopt s.generation c) (slot_of (adopt s.generation c) a subject)
      (unless_text (grammar false subject) (fitting (length out) (listed (adopt s.generation c) a list (slot_of (adopt s.generation c) a subject)))) (resolve c a s area subject out)
  unfolding resolve
  resolve-ends s area peak p q = rw (p, q) (go (grammar false subject))
    where
      go : (o : Answer) → Ended (adopt s.generation c) (slot_of (adopt s.generation c) a subject)
          (unless_text o (fitting (length out) (listed (adopt s.generation c) a list (slot_of (adopt s.generation c) a subject))))
          (if_accepted c a subject out o
          (pick (short c.capacity a) (unchanged c a subject out (answer 17 []))
          (pick (bad c a) (unchanged c a subject out (answer 18 []))
          (work c a subject out (adopt s.generation c) (found list peak)))))
      go (answer (suc k) values) = (refl, refl)
      go (answer zero values) =
          rw (wide_short c.capacity a f.wide, good Anything c a f) (work-ends (adopt s.generation c) (adopted_keeps Anything s.generation c a f.wide f.any (λ z. f)) peak)

-- ---- of what is left, the same holds

pub left_keeps : (P : List ℕ → List ℕ → Type 0) (e : ResolveCache) (a : Area) → Keeps P e a → (subject list : List ℕ) → P subject list → 1 ≤ length subject
    → Keeps P (left_by e a subject list (slot_of e a subject)).cache (left_by e a subject list (slot_of e a subject)).area
left_keeps P e a f subject list p filled = go (slot_of e a subject) refl
  where
    go : (r : Option ℕ) → slot_of e a subject ≡ r → Keeps P (left_by e a subject list r).cache (left_by e a subject list r).area
    go (some i) q = let s = find-sound e.capacity a.keys subject 0 e.used i q in hit_keeps P e a f i (omega (arith, s.below)) (ticked e).0
    go none q =
        qualified subject list
        (λ b. Keeps P (left_if_kept e a subject list b).cache (left_if_kept e a subject list b).area)
        (grown_keeps P e a f subject list p filled) (walked_keeps P e a f)

-- it stays on its generation
pub left-generation : (e : ResolveCache) (a : Area) (subject list : List ℕ) (r : Option ℕ) → (left_by e a subject list r).cache.generation ≡ e.generation
left-generation e a subject list (some i) = refl
left-generation e a subject list none = go (qualifies subject list)
  where
    go : (b : Bool) → (left_if_kept e a subject list b).cache.generation ≡ e.generation
    go true = refl
    go false = refl
