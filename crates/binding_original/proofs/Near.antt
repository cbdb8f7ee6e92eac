-- A cache of ours and one of the original's are the same: numbers, subjects, lists and stamps; with what keeps them so.
--
--   near_later      Near m → Near (suc m)
--   emptied_near    Near → Near of both emptied, on a generation
--   cleared_near    Near → Near of both cleared
--   fresh_near      fresh caches of one capacity are Near
use Prim.Native.Nat.{ℕ, suc, ◌≤◌, ◌<◌, max}
use native.Mathlib.Omega.{arith}
use mathlib.Core.Path.{◌≡◌, refl, ap}
use mathlib.Core.List.{[]}
use Rattle.subject_rules.specs.Answers.{answer}
use Rattle.sublist_snapshot.specs.declared.Generation.{Generation}
use Rattle.resolve_cache_rules.specs.declared.ResolveCache.{ResolveCache}
use Rattle.resolve_cache_rules.specs.Area.{Area, stamp_at, key_at}
use Rattle.resolve_cache_rules.specs.Cache.{cache_numbers, with_capacity, clear, emptied}
use Rattle.resolve_cache_rules.proofs.Keeps.{made_is}
use Rattle.binding_original.specs.Original as original
use Rattle.binding_original.specs.Caches.{SameKept}
use Rattle.binding_original.proofs.Maps.{Once}

-- the same, with what keeps them so: no subject twice, no stamp twice, and none above the tick, which is at most m
pub record Near (m : ℕ) (c : ResolveCache) (a : Area) (o : original.ResolveCache ℕ) : Type 0 where
  pub same : SameKept (record { cache = c; area = a }) o
  pub once : Once o.entries
  pub apart : (i j : ℕ) → i < c.used → j < c.used → key_at c.capacity a.keys i ≡ key_at c.capacity a.keys j → i ≡ j
  pub stamps : (i j : ℕ) → i < c.used → j < c.used → stamp_at a.stamps i ≡ stamp_at a.stamps j → i ≡ j
  pub under : (i : ℕ) → i < c.used → stamp_at a.stamps i ≤ c.tick.0
  pub low : c.tick.0 ≤ m

pub near_later : (m : ℕ) (c : ResolveCache) (a : Area) (o : original.ResolveCache ℕ) → Near m c a o → Near (suc m) c a o
near_later m c a o n = record { same = n.same; once = n.once; apart = n.apart; stamps = n.stamps; under = n.under; low = omega (arith, n.low) }

-- empty on both sides
empty_near : (m : ℕ) (c : ResolveCache) (a : Area) (capacity generation walks : ℕ) → capacity ≡ c.capacity → generation ≡ c.generation.0 → walks ≡ c.walks → 0 ≡ c.used → 0 ≡ c.tick.0
    → Near m c a (record { entries = []; generation = generation; capacity = capacity; tick = 0; walks = walks })
empty_near m c a capacity generation walks p q r none zero = record {
  same = record {
    capacity = p;
    generation = q;
    tick = zero;
    walks = r;
    used = none;
    kept = λ i h. absurd (omega (arith, none, h));
    only = λ x m. elim m [ ];
  };
  once = tt;
  apart = λ i j h k e. absurd (omega (arith, none, h));
  stamps = λ i j h k e. absurd (omega (arith, none, h));
  under = λ i h. absurd (omega (arith, none, h));
  low = omega (arith, zero);
}

pub emptied_near : (m : ℕ) (g : Generation) (c : ResolveCache) (a : Area) (o : original.ResolveCache ℕ) → Near m c a o
    → Near m (emptied g c) a (record { entries = []; generation = g.0; capacity = o.capacity; tick = 0; walks = o.walks })
emptied_near m g c a o n = empty_near m (emptied g c) a o.capacity g.0 o.walks n.same.capacity refl n.same.walks refl refl

pub cleared_near : (m : ℕ) (c : ResolveCache) (a : Area) (o : original.ResolveCache ℕ) → Near m c a o → Near m (clear c) a (original.clear o)
unfolding clear
cleared_near m c a o n = empty_near m (emptied c.generation c) a o.capacity o.generation o.walks n.same.capacity n.same.generation n.same.walks refl refl

-- fresh on both sides
pub fresh_near : (c : ResolveCache) (a : Area) (k n : ℕ) → with_capacity n a ≡ answer 0 (cache_numbers c) → max k 1 ≡ c.capacity → Near 0 c a (original.with-capacity k)
fresh_near c a k n e same =
    let made = (made_is n c a e).1 in
    empty_near 0 c a (max k 1) 0 0 same (ap (λ (d : ResolveCache). d.generation.0) made) (ap (λ (d : ResolveCache). d.walks) made) (ap (λ (d : ResolveCache). d.used) made)
    (ap (λ (d : ResolveCache). d.tick.0) made)
