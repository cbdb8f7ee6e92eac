-- A cache of the original's and one of ours stay the same in a hit and in a miss that is kept, while the tick does not wrap.
-- Where it wraps, two entries may have one stamp, and the original's choice between them is open.
--
--   hit_near     Near m e a o → a slot keeps the subject → Near (suc m) of the two caches behind a hit
--   miss_near    Near m e a o → no slot keeps the subject, which is not empty, and its list can be kept → Near (suc m) of the two caches behind a miss
use Prim.Native.Nat.{ℕ, zero, suc, ◌+◌, ◌-◌, ◌≤◌, ◌<◌, ◌^◌}
use native.Mathlib.Omega.{arith}
use native.Mathlib.Nat.{mod-eq_of_lt}
use mathlib.Core.Path.{◌≡◌, refl, sym, ◌∙◌, ap, subst}
use mathlib.Core.Logic.{◌⊎◌, inl, inr, ◌≢◌}
use mathlib.Core.Bool.{Bool, true, false}
use mathlib.Core.List.{List, [], ◌∷◌, ◌++◌, Memᴰ}
use mathlib.Core.Option.{Option, none, some}
use lib.Dec.{eqb, ltb}
use lib.ListN.{length}
use borrow.Author.Tests.{eqb-true, eqb-false, ltb-true, ltb-false}
use Rattle.std.proofs.lemmas.List.{length_push}
use Rattle.subject_rules.specs.Choice.{pick}
use Rattle.subject_rules.specs.Original.{when◌then◌else◌, equal}
use Rattle.sublist_snapshot.specs.Snapshot.{wrap}
use Rattle.resolve_cache_rules.specs.declared.ResolveCache.{ResolveCache}
use Rattle.resolve_cache_rules.specs.Area.{Area, stamp_at, key_at, targets_at, keep, touch}
use Rattle.resolve_cache_rules.specs.Cache.{ticked, hit, grown, place, oldest_from}
use Rattle.resolve_cache_rules.proofs.Slots.{touch-stamp, touch-stamp_other, keep_key_lem, keep-targets, keep-stamp, keep_other, keep-stamp_other, oldest_least, oldest_below}
use Rattle.resolve_cache_rules.proofs.Keeps.{Keeps, Anything}
use Rattle.binding_original.specs.Original as original
use Rattle.binding_original.specs.Original.{CacheEntry, HashMap, Iter, wrapping_add, without, miss}
use Rattle.binding_original.specs.Caches.{row}
use Rattle.binding_original.proofs.Near.{Near}
use Rattle.binding_original.proofs.Maps.{Pair, equal_whole, equal_other, each_at, Once, absent_of, upd, refresh-length, refresh_to, refresh_from, refresh_once, remove_absent, remove_from, remove_to, remove_once, remove-length, push_old, push-new, push_from, push_once}

pair_is : (k l : List ℕ) (xs ys : List ℕ) (s t : ℕ) → k ≡ l → xs ≡ ys → s ≡ t
    → ◌≡◌ {A = Pair} (k, record { targets = xs; last_used = s }) (l, record { targets = ys; last_used = t })
pair_is k l xs ys s t p q r = rw (p, q, r)

module _ (m : ℕ) (e : ResolveCache) (a : Area) (o : original.ResolveCache ℕ) (fe : Keeps Anything e a) (n : Near m e a o) (few : suc m < 2 ^ 64) where
  abbrev t : ℕ
  t = (ticked e).0

  later : t ≡ e.tick.0 + 1
  later = mod-eq_of_lt (omega (arith, n.low))

  theirs : wrapping_add o.tick 1 ≡ t
  theirs = ap (λ k. wrapping_add k 1) n.same.tick

  -- what a slot of e keeps
  abbrev row_in : Area → ℕ → Pair
  row_in b j = row e.capacity b j

  -- a hit
  module _ (subject : List ℕ) (i : ℕ) (h : i < e.used) (key : key_at e.capacity a.keys i ≡ subject) where
    inside : i < e.capacity
    inside = omega (arith, fe.fits)

    -- key and list stay
    stamped : (j s : ℕ) → stamp_at (touch a i t).stamps j ≡ s
        → row_in (touch a i t) j ≡ (key_at e.capacity a.keys j, record { targets = targets_at e.capacity a.keys a.kept j; last_used = s })
    stamped j s z = rw z

    row-touch : (j : ℕ) → j < e.used → row_in (touch a i t) j ≡ upd subject (wrapping_add o.tick 1) (row_in a j)
    row-touch j k = go (eqb j i) refl
      where
        go : (b : Bool) → eqb j i ≡ b → row_in (touch a i t) j ≡ upd subject (wrapping_add o.tick 1) (row_in a j)
        go true q =
            let s = eqb-true j i q in
            let hit_key : key_at e.capacity a.keys j ≡ subject = ap (key_at e.capacity a.keys) s ∙ key in
            rw (ap (λ k. equal k subject) hit_key ∙ equal_whole subject)
            (stamped j (wrapping_add o.tick 1) (ap (stamp_at (touch a i t).stamps) s ∙ touch-stamp e.capacity a fe.wide i inside t ∙ sym theirs))
        go false q =
            let s = eqb-false j i q in
            rw (equal_other (key_at e.capacity a.keys j) subject (λ z. s (n.apart j i k h (z ∙ sym key))))
            (stamped j (stamp_at a.stamps j) (touch-stamp_other e.capacity a fe.wide i inside t j s))

    stamp-touch : (j : ℕ) → j < e.used → ((j ≡ i) × (stamp_at (touch a i t).stamps j ≡ t)) ⊎ ((j ≢ i) × (stamp_at (touch a i t).stamps j ≡ stamp_at a.stamps j))
    stamp-touch j k = go (eqb j i) refl
      where
        go : (b : Bool) → eqb j i ≡ b → ((j ≡ i) × (stamp_at (touch a i t).stamps j ≡ t)) ⊎ ((j ≢ i) × (stamp_at (touch a i t).stamps j ≡ stamp_at a.stamps j))
        go true q = let s = eqb-true j i q in inl (s, ap (stamp_at (touch a i t).stamps) s ∙ touch-stamp e.capacity a fe.wide i inside t)
        go false q = let s = eqb-false j i q in inr (s, touch-stamp_other e.capacity a fe.wide i inside t j s)

    pub hit_near : Near (suc m) (hit e) (touch a i t) (original.hit o subject)
    hit_near = record {
      same = record {
        capacity = n.same.capacity;
        generation = n.same.generation;
        tick = theirs;
        walks = n.same.walks;
        used = refresh-length o.entries subject (wrapping_add o.tick 1) ∙ n.same.used;
        kept = λ j k. subst (λ x. Memᴰ x (original.refresh o.entries subject (wrapping_add o.tick 1))) (sym (row-touch j k))
            (refresh_to o.entries subject (wrapping_add o.tick 1) (row_in a j) (n.same.kept j k));
        only = λ y p.
            let x = refresh_from o.entries subject (wrapping_add o.tick 1) y p in
            let r = n.same.only x.0 x.1 in
            (r.0, r.1, x.2 ∙ ap (upd subject (wrapping_add o.tick 1)) r.2 ∙ sym (row-touch r.0 r.1));
      };
      once = refresh_once o.entries subject (wrapping_add o.tick 1) n.once;
      apart = n.apart;
      stamps = λ j k p q z. two j k p q z (stamp-touch j p) (stamp-touch k q);
      under = λ j p. one j p (stamp-touch j p);
      low = omega (arith, later, n.low);
    }
      where
        one : (j : ℕ) → j < e.used → ((j ≡ i) × (stamp_at (touch a i t).stamps j ≡ t)) ⊎ ((j ≢ i) × (stamp_at (touch a i t).stamps j ≡ stamp_at a.stamps j))
            → stamp_at (touch a i t).stamps j ≤ t
        one j p (inl x) = omega (arith, x.1)
        one j p (inr x) = omega (arith, x.1, n.under j p, later)

        two : (j k : ℕ) → j < e.used → k < e.used → stamp_at (touch a i t).stamps j ≡ stamp_at (touch a i t).stamps k
            → ((j ≡ i) × (stamp_at (touch a i t).stamps j ≡ t)) ⊎ ((j ≢ i) × (stamp_at (touch a i t).stamps j ≡ stamp_at a.stamps j))
            → ((k ≡ i) × (stamp_at (touch a i t).stamps k ≡ t)) ⊎ ((k ≢ i) × (stamp_at (touch a i t).stamps k ≡ stamp_at a.stamps k)) → j ≡ k
        two j k p q z (inl x) (inl y) = x.0 ∙ sym y.0
        two j k p q z (inl x) (inr y) = absurd (omega (arith, x.1, y.1, n.under k q, later, z))
        two j k p q z (inr x) (inl y) = absurd (omega (arith, x.1, y.1, n.under j p, later, z))
        two j k p q z (inr x) (inr y) = n.stamps j k p q (sym x.1 ∙ z ∙ y.1)

  -- a miss: a list goes to slot p, the entries left are those of the other slots
  module _ (subject list : List ℕ) (filled : 1 ≤ length subject) (short : length subject ≤ 256) (small : length list ≤ 16) (new : (j : ℕ) → j < e.used → key_at e.capacity a.keys j ≡ subject → ⊥) where
    abbrev entry : CacheEntry ℕ
    entry = record { targets = list; last_used = wrapping_add o.tick 1 }

    module _ (p : ℕ) (inside : p < e.capacity) where
      abbrev then' : Area
      then' = keep e.capacity a p subject list t

      row_new : row_in then' p ≡ (subject, entry)
      row_new =
          pair_is (key_at e.capacity then'.keys p) subject (targets_at e.capacity then'.keys then'.kept p) list (stamp_at then'.stamps p) (wrapping_add o.tick 1)
          (keep_key_lem e.capacity a fe.wide p inside subject list t filled short small) (keep-targets e.capacity a fe.wide p inside subject list t filled short small)
          (keep-stamp e.capacity a fe.wide p inside subject list t filled short small ∙ sym theirs)

      row_old : (j : ℕ) → j < e.used → j ≢ p → row_in then' j ≡ row_in a j
      row_old j k s =
          let same = keep_other e.capacity a fe.wide p inside subject list t filled short small j s (omega (arith, k, fe.fits)) (fe.small j k) in
          pair_is (key_at e.capacity then'.keys j) (key_at e.capacity a.keys j) (targets_at e.capacity then'.keys then'.kept j) (targets_at e.capacity a.keys a.kept j)
          (stamp_at then'.stamps j) (stamp_at a.stamps j) same.key same.targets (keep-stamp_other e.capacity a fe.wide p inside subject list t filled short small j s)

      -- how many slots are used then, and the entries left
      module _ (used : ℕ) (es : HashMap ℕ) (at : p < used) (others : (j : ℕ) → j < used → j ≢ p → j < e.used)
          (into : (j : ℕ) → j < used → j ≢ p → Memᴰ (row_in a j) es) (from : (x : Pair) → Memᴰ x es → (j : ℕ) × (j < used) × (j ≢ p) × (x ≡ row_in a j))
          (many : suc (length es) ≡ used) (each : Once es) where
        abbrev Slot : ℕ → Type 0
        Slot j = ((j ≡ p) × (row_in then' j ≡ (subject, entry))) ⊎ ((j ≢ p) × (j < e.used) × (row_in then' j ≡ row_in a j))

        slot : (j : ℕ) → j < used → Slot j
        slot j k = go (eqb j p) refl
          where
            go : (b : Bool) → eqb j p ≡ b → Slot j
            go true q = let s = eqb-true j p q in inl (s, ap (row_in then') s ∙ row_new)
            go false q = let s = eqb-false j p q in inr (s, others j k s, row_old j (others j k s) s)

        absent : original.Each (λ (x : Pair). x.0 ≡ subject → ⊥) es
        absent = absent_of es subject (λ x m q. let r = from x m in new r.0 (others r.0 r.1 r.2) (ap (λ (y : Pair). y.0) (sym r.3) ∙ q))

        plain : original.insert es subject entry ≡ es ++ ((subject, entry) ∷ [])
        plain = ap (λ xs. xs ++ ((subject, entry) ∷ [])) (remove_absent es subject absent)

        abbrev left : original.ResolveCache ℕ
        left = record {
          entries = es ++ ((subject, entry) ∷ []);
          generation = o.generation;
          capacity = o.capacity;
          tick = wrapping_add o.tick 1;
          walks = wrapping_add o.walks 1;
        }

        abbrev ours : ResolveCache
        ours = record { capacity = e.capacity; used = used; generation = e.generation; tick = ticked e; walks = wrap (e.walks + 1) }

        key_of : (x y : Pair) → x ≡ y → x.0 ≡ y.0
        key_of x y q = ap (λ (z : Pair). z.0) q

        stamp_of : (x y : Pair) → x ≡ y → x.1.last_used ≡ y.1.last_used
        stamp_of x y q = ap (λ (z : Pair). z.1.last_used) q

        left_near : Near (suc m) ours then' left
        left_near = record {
          same = record {
            capacity = n.same.capacity;
            generation = n.same.generation;
            tick = theirs;
            walks = ap (λ k. wrapping_add k 1) n.same.walks;
            used = omega (arith, length_push es (subject, entry), many);
            kept = λ j k. in_left j k (slot j k);
            only = λ x q. out-left x (push_from es (subject, entry) x q);
          };
          once = push_once es (subject, entry) each absent;
          apart = λ j k q r z. keys j k z (slot j q) (slot k r);
          stamps = λ j k q r z. marks j k z (slot j q) (slot k r);
          under = λ j q. mark j (slot j q);
          low = omega (arith, later, n.low);
        }
          where
            in_left : (j : ℕ) → j < used → Slot j → Memᴰ (row_in then' j) (es ++ ((subject, entry) ∷ []))
            in_left j k (inl x) = subst (λ y. Memᴰ y (es ++ ((subject, entry) ∷ []))) (sym x.1) (push-new es (subject, entry))
            in_left j k (inr x) = subst (λ y. Memᴰ y (es ++ ((subject, entry) ∷ []))) (sym x.2) (push_old es (subject, entry) (row_in a j) (into j k x.0))

            out-left : (x : Pair) → Memᴰ x es ⊎ (x ≡ (subject, entry)) → (j : ℕ) × (j < used) × (x ≡ row_in then' j)
            out-left x (inl q) = let r = from x q in (r.0, r.1, r.3 ∙ sym (row_old r.0 (others r.0 r.1 r.2) r.2))
            out-left x (inr q) = (p, at, q ∙ sym row_new)

            keys : (j k : ℕ) → key_at e.capacity then'.keys j ≡ key_at e.capacity then'.keys k → Slot j → Slot k → j ≡ k
            keys j k z (inl x) (inl y) = x.0 ∙ sym y.0
            keys j k z (inl x) (inr y) = absurd (new k y.1 (sym (key_of (row_in then' k) (row_in a k) y.2) ∙ sym z ∙ key_of (row_in then' j) (subject, entry) x.1))
            keys j k z (inr x) (inl y) = absurd (new j x.1 (sym (key_of (row_in then' j) (row_in a j) x.2) ∙ z ∙ key_of (row_in then' k) (subject, entry) y.1))
            keys j k z (inr x) (inr y) = n.apart j k x.1 y.1 (sym (key_of (row_in then' j) (row_in a j) x.2) ∙ z ∙ key_of (row_in then' k) (row_in a k) y.2)

            mark : (j : ℕ) → Slot j → stamp_at then'.stamps j ≤ t
            mark j (inl x) = omega (arith, stamp_of (row_in then' j) (subject, entry) x.1, theirs)
            mark j (inr x) = omega (arith, stamp_of (row_in then' j) (row_in a j) x.2, n.under j x.1, later)

            marks : (j k : ℕ) → stamp_at then'.stamps j ≡ stamp_at then'.stamps k → Slot j → Slot k → j ≡ k
            marks j k z (inl x) (inl y) = x.0 ∙ sym y.0
            marks j k z (inl x) (inr y) =
                absurd (omega (arith, stamp_of (row_in then' j) (subject, entry) x.1, theirs, later, stamp_of (row_in then' k) (row_in a k) y.2, n.under k y.1, z))
            marks j k z (inr x) (inl y) =
                absurd (omega (arith, stamp_of (row_in then' k) (subject, entry) y.1, theirs, later, stamp_of (row_in then' j) (row_in a j) x.2, n.under j x.1, z))
            marks j k z (inr x) (inr y) = n.stamps j k x.1 y.1 (sym (stamp_of (row_in then' j) (row_in a j) x.2) ∙ z ∙ stamp_of (row_in then' k) (row_in a k) y.2)

        inserted_near : Near (suc m) ours then' (record {
          entries = original.insert es subject entry;
          generation = o.generation;
          capacity = o.capacity;
          tick = wrapping_add o.tick 1;
          walks = wrapping_add o.walks 1;
        })
        inserted_near = rw plain left_near

    -- room is left on both sides, or on neither
    full_same : ltb (length o.entries) o.capacity ≡ ltb e.used e.capacity
    full_same = rw (n.same.used, n.same.capacity)

    abbrev Left : HashMap ℕ → Bool → Type 0
    Left es b =
        Near (suc m) (record { capacity = e.capacity; used = pick b (suc e.used) e.used; generation = e.generation; tick = ticked e; walks = wrap (e.walks + 1) })
        (keep e.capacity a (pick b e.used (oldest_from a.stamps 0 1 (e.used - 1))) subject list t)
        (record { entries = original.insert es subject entry; generation = o.generation; capacity = o.capacity; tick = wrapping_add o.tick 1; walks = wrapping_add o.walks 1 })

    room-left : e.used < e.capacity → Left o.entries true
    room-left r =
        inserted_near e.used r (suc e.used) o.entries (omega arith) (λ j k s. omega (arith, k, s)) (λ j k s. n.same.kept j (omega (arith, k, s)))
        (λ x q. let y = n.same.only x q in (y.0, omega (arith, y.1), (λ z. omega (arith, y.1, z)), y.2)) (ap suc n.same.used) n.once

    none_left : (iter : Iter ℕ) → e.capacity ≤ e.used → Left (without (iter.min_by_last_used o.entries) o.entries) false
    none_left iter full = go (iter.min_by_last_used o.entries) refl
      where
        p : ℕ
        p = oldest_from a.stamps 0 1 (e.used - 1)

        below : p < e.used
        below = oldest_below a.stamps 0 1 (e.used - 1) e.used (omega (arith, fe.any, full)) (omega (arith, fe.any, full))

        least : (i : ℕ) → i < e.used → stamp_at a.stamps p ≤ stamp_at a.stamps i
        least zero k = (oldest_least a.stamps 0 1 (e.used - 1)).0
        least (suc i) k = (oldest_least a.stamps 0 1 (e.used - 1)).1 (suc i) (omega arith) (omega arith)

        go : (v : Option Pair) → iter.min_by_last_used o.entries ≡ v → Left (without v o.entries) false
        go none q = absurd (omega (arith, n.same.used, ap (λ (xs : HashMap ℕ). length xs) (iter.none_if_empty o.entries q), fe.any, full))
        go (some v) q =
            let r = n.same.only v (iter.given o.entries v q) in
            let mark : v.1.last_used ≡ stamp_at a.stamps r.0 = ap (λ (x : Pair). x.1.last_used) r.2 in
            let name : v.0 ≡ key_at e.capacity a.keys r.0 = ap (λ (x : Pair). x.0) r.2 in
            let most : v.1.last_used ≤ stamp_at a.stamps p =
            each_at (λ y. v.1.last_used ≤ y.1.last_used) o.entries (row_in a p) (iter.smallest o.entries v q) (n.same.kept p below) in
            let here : r.0 ≡ p = n.stamps r.0 p r.1 below (omega (arith, mark, most, least r.0 r.1)) in
            inserted_near p (omega (arith, below, fe.fits)) e.used (original.remove o.entries v.0) below (λ j k s. k)
            (λ j k s. remove_to o.entries v.0 (row_in a j) (n.same.kept j k) (λ z. s (n.apart j r.0 k r.1 (z ∙ name) ∙ here)))
            (λ x m.
            let y = remove_from o.entries v.0 x m in
            let w = n.same.only x y.0 in
            (w.0, w.1, (λ z. y.1 (ap (λ (u : Pair). u.0) w.2 ∙ ap (key_at e.capacity a.keys) (z ∙ sym here) ∙ sym name)), w.2))
            (remove-length o.entries v n.once (iter.given o.entries v q) ∙ n.same.used) (remove_once o.entries v.0 n.once)

    pub miss_near : (iter : Iter ℕ) → Near (suc m) (grown e) (keep e.capacity a (place e a) subject list t) (miss iter o subject list)
    miss_near iter = go (ltb e.used e.capacity) refl (ltb (length o.entries) o.capacity) full_same
      where
        go : (b : Bool) → ltb e.used e.capacity ≡ b → (d : Bool) → d ≡ ltb e.used e.capacity
            → Left (when d then o.entries else without (iter.min_by_last_used o.entries) o.entries) b
        go true q true z = room-left (ltb-true e.used e.capacity q)
        go true q false z = absurd (cc)
        go false q true z = absurd (cc)
        go false q false z = none_left iter (ltb-false e.used e.capacity q)
