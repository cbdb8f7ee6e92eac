-- A cache whose slots can be read: neither 17 nor 18 applies, each slot in use has its key's mark, and of each kept list P holds; and what keeps a cache so.
--
--   made_is, fresh_keeps                       a cache that is made is the fresh one, and Keeps P
--   empty_keeps                                one with no slot in use does
--   adopted_by, adopted_keeps                  by whether a cache is on the generation that it adopts
--   hit_keeps, walked_keeps, grown_keeps       Keeps P e a → so does what a hit leaves, a walk, and a walk whose list is kept, if P holds of it
--   qualified, missed_either                   by whether a list is kept, and what a walk leaves then
use Prim.Native.Nat.{ℕ, ◌≤◌, ◌<◌, max}
use native.Mathlib.Omega.{arith}
use mathlib.Core.Path.{◌≡◌, refl, ap, subst}
use mathlib.Core.Bool.{Bool, true, false, not}
use mathlib.Core.List.{List, []}
use lib.Dec.{eqb, ltb}
use lib.ListN.{length, get_or}
use borrow.Author.Tests.{ltb-false, le-ltb, eqb-true, eqb-false, ne_eqb}
use Rattle.subject_rules.specs.Choice.{pick, or}
use Rattle.subject_rules.specs.Answers.{answer}
use Rattle.subject_rules.specs.Outputs.{over}
use Rattle.sublist_snapshot.specs.declared.Generation.{Generation}
use Rattle.resolve_cache_rules.specs.declared.ResolveCache.{ResolveCache}
use Rattle.resolve_cache_rules.specs.Area.{Area, key_at, targets_at, keep, touch}
use Rattle.resolve_cache_rules.specs.Cache.{short, bad, place, fresh, cache_numbers, with_capacity, emptied, adopt, ticked, hit, walked, grown, qualifies, in_out, Resolved, missed}
use Rattle.resolve_cache_rules.specs.Ready.{Wide}
use Rattle.resolve_cache_rules.proofs.Slots.{short-wide, Fit, alike_fit, keep-wide, keep_key_lem, keep-targets, keep_fit, keep_other, touch-wide, small_good, Grows, place_grows}

pub record Keeps (P : List ℕ → List ℕ → Type 0) (c : ResolveCache) (a : Area) : Type 0 where
  pub wide : Wide c.capacity a
  pub any : 1 ≤ c.capacity
  pub fits : c.used ≤ c.capacity
  pub small : (i : ℕ) → i < c.used → Fit c.capacity a.keys i
  pub each : (i : ℕ) → i < c.used → P (key_at c.capacity a.keys i) (targets_at c.capacity a.keys a.kept i)

-- nothing is asked of the lists
abbrev pub Anything : List ℕ → List ℕ → Type 0
Anything key list = Unit {0}

-- a state is known by its numbers
same_numbers : (c d : ResolveCache) → cache_numbers c ≡ cache_numbers d → c ≡ d
same_numbers c d e =
    ap (λ (l : List ℕ). record { capacity = get_or l 0 0; used = get_or l 1 0; generation = record { 0 = get_or l 2 0 }; tick = record { 0 = get_or l 3 0 }; walks = get_or l 4 0 }) e

pub made_is : (n : ℕ) (c : ResolveCache) (a : Area) → with_capacity n a ≡ answer 0 (cache_numbers c) → (short (max 1 n) a ≡ false) × (fresh (max 1 n) ≡ c)
unfolding with_capacity
made_is n c a e = go (short (max 1 n) a) refl e
  where
    go : (b : Bool) → short (max 1 n) a ≡ b → pick b (answer 17 []) (answer 0 (cache_numbers (fresh (max 1 n)))) ≡ answer 0 (cache_numbers c)
        → (short (max 1 n) a ≡ false) × (fresh (max 1 n) ≡ c)
    go true q e = absurd (cc)
    go false q e = (q, same_numbers (fresh (max 1 n)) c (cc))

-- by whether the cache is on the generation that it adopts
pub adopted_by : (g : Generation) (c : ResolveCache) (P : ResolveCache → Type 0) → (c.generation.0 ≡ g.0 → P c) → ((c.generation.0 ≡ g.0 → ⊥) → P (emptied g c)) → P (adopt g c)
adopted_by g c P on other = go (eqb c.generation.0 g.0) refl
  where
    go : (b : Bool) → eqb c.generation.0 g.0 ≡ b → P (pick b c (emptied g c))
    go true q = on (eqb-true c.generation.0 g.0 q)
    go false q = other (eqb-false c.generation.0 g.0 q)

module _ (P : List ℕ → List ℕ → Type 0) where
  pub empty_keeps : (c : ResolveCache) (a : Area) → Wide c.capacity a → 1 ≤ c.capacity → 0 ≡ c.used → Keeps P c a
  empty_keeps c a w any none = record {
    wide = w;
    any = any;
    fits = omega (arith, none);
    small = λ i h. absurd (omega (arith, none, h));
    each = λ i h. absurd (omega (arith, none, h));
  }

  pub fresh_keeps : (n : ℕ) (c : ResolveCache) (a : Area) → with_capacity n a ≡ answer 0 (cache_numbers c) → Keeps P c a
  fresh_keeps n c a e = let m = made_is n c a e in subst (λ d. Keeps P d a) m.1 (empty_keeps (fresh (max 1 n)) a (short-wide (max 1 n) a m.0) (omega arith) refl)

  pub adopted_keeps : (g : Generation) (c : ResolveCache) (a : Area) → Wide c.capacity a → 1 ≤ c.capacity → (c.generation.0 ≡ g.0 → Keeps P c a) → Keeps P (adopt g c) a
  adopted_keeps g c a w any on = adopted_by g c (λ d. Keeps P d a) on (λ q. empty_keeps (emptied g c) a w any refl)

  module _ (e : ResolveCache) (a : Area) (f : Keeps P e a) where
    -- 18 does not apply
    pub good : bad e a ≡ false
    good =
        rw (ne_eqb e.capacity 0 (λ z. omega (arith, f.any)), le-ltb e.capacity e.used f.fits)
        (small_good e.capacity a.keys 0 e.used (λ j h k. f.small j (omega (arith, k))))

    pub hit_keeps : (i : ℕ) → i < e.used → (stamp : ℕ) → Keeps P (hit e) (touch a i stamp)
    hit_keeps i h stamp = record {
      wide = touch-wide e.capacity a f.wide i (omega (arith, h, f.fits)) stamp;
      any = f.any;
      fits = f.fits;
      small = f.small;
      each = f.each;
    }

    pub walked_keeps : Keeps P (walked e) a
    walked_keeps = record { wide = f.wide; any = f.any; fits = f.fits; small = f.small; each = f.each }

    pub grown_keeps : (subject list : List ℕ) → P subject list → 1 ≤ length subject → length subject ≤ 256 → length list ≤ 16
        → Keeps P (grown e) (keep e.capacity a (place e a) subject list (ticked e).0)
    grown_keeps subject list p filled short few =
        record {
          wide = keep-wide e.capacity a f.wide i k.inside subject list (ticked e).0 filled short few;
          any = f.any;
          fits = k.fits;
          small = λ j h. (slot j h (eqb j i) refl).0;
          each = λ j h. (slot j h (eqb j i) refl).1;
        }
      where
        k : Grows e a
        k = place_grows e a f.any f.fits

        i : ℕ
        i = place e a

        then' : Area
        then' = keep e.capacity a i subject list (ticked e).0

        slot : (j : ℕ) → j < (grown e).used → (b : Bool) → eqb j i ≡ b
            → Fit e.capacity then'.keys j × P (key_at e.capacity then'.keys j) (targets_at e.capacity then'.keys then'.kept j)
        slot j h true z =
            let x = keep_key_lem e.capacity a f.wide i k.inside subject list (ticked e).0 filled short few in
            let y = keep-targets e.capacity a f.wide i k.inside subject list (ticked e).0 filled short few in
            rw (eqb-true j i z) (keep_fit e.capacity a f.wide i k.inside subject list (ticked e).0 filled short few, rw (x, y) p)
        slot j h false z =
            let m = k.others j (eqb-false j i z) h in
            let o = keep_other e.capacity a f.wide i k.inside subject list (ticked e).0 filled short few j (eqb-false j i z) (omega (arith, m, f.fits)) (f.small j m) in
            (alike_fit e.capacity a then' j o (f.small j m), rw (o.key, o.targets) (f.each j m))

-- a subject over 256 bytes or a list over 16 targets is not kept
pub qualified : (subject list : List ℕ) (Q : Bool → Type 0) → (length subject ≤ 256 → length list ≤ 16 → Q true) → Q false → Q (qualifies subject list)
qualified subject list Q kept unkept = go (ltb 256 (length subject)) (ltb 16 (length list)) refl refl
  where
    go : (b d : Bool) → ltb 256 (length subject) ≡ b → ltb 16 (length list) ≡ d → Q (not (or b d))
    go true d p q = unkept
    go false true p q = unkept
    go false false p q = kept (ltb-false 256 (length subject) p) (ltb-false 16 (length list) q)

-- what a walk leaves, by whether its list is kept
module _ (c : ResolveCache) (a : Area) (subject out : List ℕ) (e : ResolveCache) (list : List ℕ) where
  abbrev pub missed_if : Bool → Resolved
  missed_if b =
      pick b
      (record { says = in_out (length list); cache = grown e; area = keep e.capacity a (place e a) subject list (ticked e).0; out = over list out })
      (record { says = in_out (length list); cache = walked e; area = a; out = over list out })

  pub missed_either : (P : Resolved → Type 0) → (length subject ≤ 256 → length list ≤ 16 → P (missed_if true)) → P (missed_if false) → P (missed c a subject out e list)
  missed_either P = qualified subject list (λ b. P (missed_if b))
