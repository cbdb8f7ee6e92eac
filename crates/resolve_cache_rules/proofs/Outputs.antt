-- What a resolve leaves, by its answer, of any cache and any table: a refusal changes nothing; a hit leaves the output; a walk writes its list over the first places.
use Prim.Native.Nat.{ℕ, zero, suc, ◌*◌}
use mathlib.Core.Path.{◌≡◌, refl, sym, ap}
use mathlib.Core.Logic.{◌⊎◌, inl, inr}
use mathlib.Core.Bool.{Bool, true, false}
use mathlib.Core.List.{List, [], ◌∷◌}
use mathlib.Core.Option.{Option, none, some}
use lib.Dec.{ltb}
use lib.ListN.{length, drop}
use lib.Seq.{take-append_seam}
use Rattle.subject_rules.specs.Choice.{pick}
use Rattle.subject_rules.specs.Answers.{Answer, answer}
use Rattle.subject_rules.specs.Grammar.{grammar}
use Rattle.sublist_walk_rules.specs.Walk.{Walked, found, failed}
use Rattle.subject_rules.specs.Outputs.{over}
use Rattle.sublist_snapshot.specs.declared.Snapshot.{Snapshot}
use Rattle.sublist_snapshot.specs.Snapshot.{stands_in, walk_of}
use Rattle.resolve_cache_rules.specs.declared.ResolveCache.{ResolveCache}
use Rattle.resolve_cache_rules.specs.Area.{Area, target_count, touch}
use Rattle.resolve_cache_rules.specs.Cache.{short, bad, find_from, adopt, ticked, hit, qualifies}
use Rattle.resolve_cache_rules.specs.Cache.{in_kept, list_at, Resolved, unchanged, hit_at, miss, work_by}
use Rattle.resolve_cache_rules.specs.Cache.{if_accepted, resolve}
use Rattle.resolve_cache_rules.proofs.Keeps.{missed_if}

-- by the answer's number
abbrev pub Leaves : ResolveCache → Area → List ℕ → Resolved → Answer → Type 0
Leaves c a out r (answer zero values) = (r.out ≡ out) ⊎ (r.out ≡ over (list_at values r.area.kept r.out) out)
Leaves c a out r (answer (suc n) values) = (r.cache ≡ c) × (r.area ≡ a) × (r.out ≡ out)

module _ (c : ResolveCache) (a : Area) (subject out : List ℕ) where
  hit_leaves : (e : ResolveCache) (i : ℕ) → Leaves c a out (hit_at c a subject out e i) (hit_at c a subject out e i).says
  hit_leaves e i = go (ltb (length out) (target_count e.capacity a.keys i))
    where
      go : (b : Bool)
          → let r : Resolved = pick b (unchanged c a subject out (answer 21 (target_count e.capacity a.keys i ∷ [])))
          (record { says = in_kept (16 * i) (target_count e.capacity a.keys i); cache = hit e; area = touch a i (ticked e).0; out = out }) in
          Leaves c a out r r.says
      go true = (refl, refl, refl)
      go false = inl refl

  miss_leaves : (e : ResolveCache) (w : Walked) → Leaves c a out (miss c a subject out e w) (miss c a subject out e w).says
  miss_leaves e (failed f) = (refl, refl, refl)
  miss_leaves e (found list peak) = go (ltb (length out) (length list)) (qualifies subject list)
    where
      go : (b d : Bool)
          → let r : Resolved = pick b (unchanged c a subject out (answer 21 (length list ∷ []))) (missed_if c a subject out e list d) in
          Leaves c a out r r.says
      go true d = (refl, refl, refl)
      go false true = inr (ap (λ (l : List ℕ). over l out) (sym (take-append_seam list (drop (length list) out))))
      go false false = inr (ap (λ (l : List ℕ). over l out) (sym (take-append_seam list (drop (length list) out))))

  work_leaves : (o : Option ℕ) (e : ResolveCache) (w : Walked) → Leaves c a out (work_by c a subject out o e w) (work_by c a subject out o e w).says
  work_leaves (some i) e w = hit_leaves e i
  work_leaves none e w = miss_leaves e w

  pub resolve_leaves : (s : Snapshot) (area : List ℕ) → Leaves c a out (resolve c a s area subject out) (resolve c a s area subject out).says
  unfolding resolve
  resolve_leaves s area = go (grammar false subject) (short c.capacity a) (bad c a) (stands_in s area)
    where
      e : ResolveCache
      e = adopt s.generation c

      go : (g : Answer) (b d f : Bool)
          → let r : Resolved = if_accepted c a subject out g
          (pick b (unchanged c a subject out (answer 17 []))
          (pick d (unchanged c a subject out (answer 18 []))
          (pick f (work_by c a subject out (find_from e.capacity a.keys subject 0 e.used) e (walk_of s area subject)) (unchanged c a subject out (answer 19 []))))) in
          Leaves c a out r r.says
      go (answer (suc n) values) b d f = (refl, refl, refl)
      go (answer zero values) true d f = (refl, refl, refl)
      go (answer zero values) false true f = (refl, refl, refl)
      go (answer zero values) false false false = (refl, refl, refl)
      go (answer zero values) false false true = work_leaves (find_from e.capacity a.keys subject 0 e.used) e (walk_of s area subject)
