-- What holds of a cache between calls, and that each call keeps it and hands back what is due. `due` is the list that the standing table gives a subject, g its generation.
use Prim.Native.Nat.{ℕ, zero, suc, ◌*◌, ◌≤◌, ◌<◌}
use native.Mathlib.Omega.{arith}
use mathlib.Core.Path.{◌≡◌, refl, sym, ◌∙◌, ap, subst}
use mathlib.Core.Bool.{Bool, true, false}
use mathlib.Core.List.{List, [], ◌∷◌}
use mathlib.Core.Option.{Option, none, some}
use lib.Dec.{ltb}
use lib.ListN.{length, take, drop}
use lib.Seq.{take-append_seam}
use Rattle.subject_rules.specs.Choice.{pick}
use Rattle.subject_rules.specs.Answers.{Answer, answer}
use Rattle.subject_rules.specs.Utf8.{sequence, first_bad}
use Rattle.subject_rules.specs.Grammar.{grammar}
use Rattle.sublist_walk_rules.specs.Walk.{Walked, found}
use Rattle.subject_rules.specs.Outputs.{over}
use Rattle.sublist_snapshot.specs.declared.Snapshot.{Snapshot}
use Rattle.sublist_snapshot.specs.Snapshot.{stands_in, walk_of}
use Rattle.resolve_cache_rules.specs.declared.ResolveCache.{ResolveCache}
use Rattle.resolve_cache_rules.specs.Area.{Area, target_count, key_at, targets_at, touch}
use Rattle.resolve_cache_rules.specs.Cache.{short, bad, find_from, cache_numbers}
use Rattle.resolve_cache_rules.specs.Cache.{with_capacity, clear, emptied, adopt, ticked, hit, in_kept}
use Rattle.resolve_cache_rules.specs.Cache.{Handed, turned_back, gives, handed, Resolved, unchanged, missed}
use Rattle.resolve_cache_rules.specs.Cache.{hit_at, miss, work_by, work, if_accepted, resolve_by, resolve}
use Rattle.resolve_cache_rules.proofs.Slots.{wide_short, targets-length, find-sound}
use Rattle.resolve_cache_rules.proofs.Keeps.{Keeps, made_is, fresh_keeps, empty_keeps, adopted_by, good, hit_keeps, walked_keeps, grown_keeps, missed_either}

-- where the cache is on the standing table's generation, it keeps what is due
abbrev pub DueOn : (List ℕ → List ℕ) → ℕ → ResolveCache → List ℕ → List ℕ → Type 0
DueOn due g c key list = c.generation.0 ≡ g → list ≡ due key

pub record Faithful (due : List ℕ → List ℕ) (g : ℕ) (c : ResolveCache) (a : Area) : Type 0 where
  pub holds : Keeps (DueOn due g c) c a
  pub past : c.generation.0 ≤ g

-- 1 to 9 come first
abbrev pub unless_text : Answer → Handed → Handed
unless_text (answer zero values) x = x
unless_text (answer (suc k) values) x = turned_back (answer (suc k) values)

-- 21, or the list due
abbrev pub fitting : ℕ → List ℕ → Handed
fitting room dues = pick (ltb room (length dues)) (turned_back (answer 21 (length dues ∷ []))) (gives dues)

-- a resolve hands this back, and leaves a cache that is faithful again
abbrev pub Good : (List ℕ → List ℕ) → ℕ → Handed → Resolved → Type 0
Good due g x r = (handed r.says r.area.kept r.out ≡ x) × Faithful due g r.cache r.area

-- a subject that is accepted is not empty
pub accepted_some : (subject values : List ℕ) → grammar false subject ≡ answer 0 values → 1 ≤ length subject
unfolding grammar sequence first_bad
accepted_some [] values e = absurd (cc)
accepted_some (b ∷ bs) values e = omega arith

-- a fresh cache
pub fresh_faithful : (due : List ℕ → List ℕ) (n : ℕ) (c : ResolveCache) (a : Area) → with_capacity n a ≡ answer 0 (cache_numbers c) → Faithful due 0 c a
fresh_faithful due n c a e = record {
  holds = fresh_keeps (DueOn due 0 c) n c a e;
  past = let z = ap (λ (d : ResolveCache). d.generation.0) (made_is n c a e).1 in omega (arith, z);
}

-- after a store nothing is asked of what it keeps
pub stored_faithful : (due then : List ℕ → List ℕ) (g : ℕ) (c : ResolveCache) (a : Area) → Faithful due g c a → Faithful then (suc g) c a
stored_faithful due then g c a f = record {
  holds = record { wide = f.holds.wide; any = f.holds.any; fits = f.holds.fits; small = f.holds.small; each = λ i h p. absurd (omega (arith, f.past, p)) };
  past = omega (arith, f.past);
}

module _ (due : List ℕ → List ℕ) (g : ℕ) where
  pub clear_faithful : (c : ResolveCache) (a : Area) → Faithful due g c a → Faithful due g (clear c) a
  unfolding clear
  clear_faithful c a f = record { holds = empty_keeps (DueOn due g c) (emptied c.generation c) a f.holds.wide f.holds.any refl; past = f.past }

  adopt_faithful : (c : ResolveCache) (a : Area) → Faithful due g c a
      → Faithful due g (adopt (record { 0 = g }) c) a × ((adopt (record { 0 = g }) c).generation.0 ≡ g)
  adopt_faithful c a f =
      adopted_by (record { 0 = g }) c (λ d. Faithful due g d a × (d.generation.0 ≡ g)) (λ q. (f, q))
      (λ q. (record { holds = empty_keeps (DueOn due g (emptied (record { 0 = g }) c)) (emptied (record { 0 = g }) c) a f.holds.wide f.holds.any refl; past = omega arith }, refl))

  module _ (c : ResolveCache) (a : Area) (subject out : List ℕ) (f : Faithful due g c a) where
    abbrev list : List ℕ
    list = due subject

    module _ (filled : 1 ≤ length subject) (e : ResolveCache) (fe : Faithful due g e a) (on : e.generation.0 ≡ g) where
      hit_good : (i : ℕ) → i < e.used → key_at e.capacity a.keys i ≡ subject → Good due g (fitting (length out) list) (hit_at c a subject out e i)
      hit_good i h k =
          subst (λ n. Good due g (pick (ltb (length out) n) (turned_back (answer 21 (n ∷ []))) (gives list)) (hit_at c a subject out e i)) size
          (go (ltb (length out) (target_count e.capacity a.keys i)))
        where
          due_here : targets_at e.capacity a.keys a.kept i ≡ list
          due_here = fe.holds.each i h on ∙ ap due k

          size : target_count e.capacity a.keys i ≡ length list
          size = sym (targets-length e.capacity a fe.holds.wide i (omega (arith, h, fe.holds.fits)) (fe.holds.small i h).count) ∙ ap length due_here

          go : (b : Bool) → Good due g (pick b (turned_back (answer 21 (target_count e.capacity a.keys i ∷ []))) (gives list))
              (pick b (unchanged c a subject out (answer 21 (target_count e.capacity a.keys i ∷ [])))
              (record { says = in_kept (16 * i) (target_count e.capacity a.keys i); cache = hit e; area = touch a i (ticked e).0; out = out }))
          go true = (refl, f)
          go false = (ap gives due_here, record { holds = hit_keeps (DueOn due g e) e a fe.holds i h (ticked e).0; past = fe.past })

      missed_good : Good due g (gives list) (missed c a subject out e list)
      missed_good =
          missed_either c a subject out e list (Good due g (gives list))
          (λ s t. (handed_out, record { holds = grown_keeps (DueOn due g e) e a fe.holds subject list (λ p. refl) filled s t; past = fe.past }))
          (handed_out, record { holds = walked_keeps (DueOn due g e) e a fe.holds; past = fe.past })
        where
          handed_out : gives (take (length list) (over list out)) ≡ gives list
          handed_out = ap gives (take-append_seam list (drop (length list) out))

      miss_good : (peak : ℕ) → Good due g (fitting (length out) list) (miss c a subject out e (found list peak))
      miss_good peak = go (ltb (length out) (length list))
        where
          go : (b : Bool) → Good due g (pick b (turned_back (answer 21 (length list ∷ []))) (gives list))
              (pick b (unchanged c a subject out (answer 21 (length list ∷ []))) (missed c a subject out e list))
          go true = (refl, f)
          go false = missed_good

      work_good : (peak : ℕ) → Good due g (fitting (length out) list) (work c a subject out e (found list peak))
      work_good peak = go (find_from e.capacity a.keys subject 0 e.used) refl
        where
          go : (o : Option ℕ) → find_from e.capacity a.keys subject 0 e.used ≡ o → Good due g (fitting (length out) list) (work_by c a subject out o e (found list peak))
          go (some i) q = let s = find-sound e.capacity a.keys subject 0 e.used i q in hit_good i (omega (arith, s.below)) s.key
          go none q = miss_good peak

    resolve_good : (w : Walked) → ((values : List ℕ) → grammar false subject ≡ answer 0 values → (peak : ℕ) × (w ≡ found list peak))
        → Good due g (unless_text (grammar false subject) (fitting (length out) list)) (resolve_by c a subject out (record { 0 = g }) true w)
    resolve_good w walks = go (grammar false subject) refl
      where
        go : (o : Answer) → grammar false subject ≡ o
            → Good due g (unless_text o (fitting (length out) list))
            (if_accepted c a subject out o
            (pick (short c.capacity a) (unchanged c a subject out (answer 17 []))
            (pick (bad c a) (unchanged c a subject out (answer 18 []))
            (work c a subject out (adopt (record { 0 = g }) c) w))))
        go (answer (suc k) values) q = (refl, f)
        go (answer zero values) q =
            let x = walks values q in
            let d = adopt_faithful c a f in
            rw (wide_short c.capacity a f.holds.wide, good (DueOn due g c) c a f.holds, x.1) (work_good (accepted_some subject values q) (adopt (record { 0 = g }) c) d.0 d.1 x.0)

  -- a resolve through a snapshot on which the table stands, and whose walk ends with what is due
  pub resolve_right : (c : ResolveCache) (a : Area) (s : Snapshot) (area subject out : List ℕ) → Faithful due g c a → s.generation.0 ≡ g → stands_in s area ≡ true
      → ((values : List ℕ) → grammar false subject ≡ answer 0 values → (peak : ℕ) × (walk_of s area subject ≡ found (due subject) peak))
      → Good due g (unless_text (grammar false subject) (fitting (length out) (due subject))) (resolve c a s area subject out)
  unfolding resolve
  resolve_right c a s area subject out f p q walks =
      subst (λ h. Good due g (unless_text (grammar false subject) (fitting (length out) (due subject))) (resolve_by c a subject out h (stands_in s area) (walk_of s area subject)))
      (ap (λ (n : ℕ). record { 0 = n }) (sym p))
      (rw q (resolve_good c a subject out f (walk_of s area subject) walks))
