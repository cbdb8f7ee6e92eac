-- What holds of a cache of ours and one of the original's between calls, and that each call keeps it; and a resolve gives the same list on both sides where lists are compared.
--
--   Sound          what holds whatever the tables; fresh-sound, later_sound, cleared-sound, stood-sound
--   Right          what holds beside a table that stands, while no two that stood had one generation; new-right, cleared-right
--   same-list      Sound, Right → not (and spoiled mixed) ≡ true → the list that ours hands back is the one that theirs hands on
--   left-sound     Sound, the subject is not empty → Sound of what a resolve leaves on both sides
--   left-right     Right, the subject is not empty → what a resolve leaves is Right beside every table that stands, if none of the others has the generation of the one resolved through
use Prim.Native.Nat.{ℕ, suc, ◌≤◌, ◌<◌, ◌^◌, max}
use native.Mathlib.Omega.{arith}
use mathlib.Core.Path.{◌≡◌, refl, sym, ◌∙◌, ap, subst}
use mathlib.Core.Bool.{Bool, true, false, not}
use mathlib.Core.List.{List, [], ◌∷◌}
use mathlib.Core.Option.{Option, none, some}
use lib.Dec.{eqb}
use lib.ListN.{length}
use Rattle.subject_rules.specs.Choice.{and, or}
use Rattle.subject_rules.specs.Answers.{answer}
use Rattle.sublist_walk_rules.specs.Walk.{among}
use Rattle.sublist_snapshot.specs.declared.Generation.{Generation}
use Rattle.resolve_cache_rules.specs.declared.ResolveCache.{ResolveCache}
use Rattle.resolve_cache_rules.specs.Area.{Area}
use Rattle.resolve_cache_rules.specs.Cache.{cache_numbers, with_capacity, emptied, clear, adopt, qualifies}
use Rattle.resolve_cache_rules.proofs.Slots.{or_false, find-sound, find_none}
use Rattle.resolve_cache_rules.proofs.Keeps.{Keeps, Anything, made_is, fresh_keeps, empty_keeps, adopted_by, adopted_keeps, qualified}
use Rattle.binding.specs.Calls.{Kept}
use Rattle.binding_original.specs.Original as original
use Rattle.binding_original.specs.Original.{CacheEntry, Iter, guarded, get, miss}
use Rattle.binding_original.specs.Caches.{row, uncacheable}
use Rattle.binding_original.proofs.Keeping.{Kept as Trusted, list_of, left_of, guarded_by, Trusty, trusty_list, left_trusty, left_on}
use Rattle.binding_original.proofs.Maps.{Pair, each_at, get_none, get_some}
use Rattle.binding_original.proofs.OurCache.{adopted_generation, slot_of, listed, left_if_kept, left_by, left_keeps, left-generation}
use Rattle.binding_original.proofs.Near.{Near, near_later, emptied_near, cleared_near, fresh_near}
use Rattle.binding_original.proofs.SameCache.{hit_near, miss_near}

-- the lists are what a function gives for their subjects
abbrev Dues : (List ℕ → List ℕ) → List ℕ → List ℕ → Type 0
Dues due key list = list ≡ due key

-- `stood` are the generations of the tables that stood, `mixed` says that two had one, `spoiled` that ours did not keep a list
pub record Sound (spoiled mixed : Bool) (stood : List ℕ) (m : ℕ) (k : Kept) (o : original.ResolveCache ℕ) : Type 0 where
  pub fit : Keeps Anything k.cache k.area
  pub near : spoiled ≡ false → Near m k.cache k.area o
  -- while no two had one, a cache that is on none of them is empty
  pub past : mixed ≡ false → among k.cache.generation.0 stood ≡ false → 0 ≡ k.cache.used
  pub their_past : mixed ≡ false → among o.generation stood ≡ false → o.entries ≡ []

-- `due` is what a walk of a table gives, g is its generation: a cache that is on it keeps the table's lists
pub record Right (due : List ℕ → List ℕ) (g : ℕ) (k : Kept) (o : original.ResolveCache ℕ) : Type 0 where
  pub ours : k.cache.generation.0 ≡ g → Keeps (Dues due) k.cache k.area
  pub theirs : Trusty due g o

pub fresh-sound : (stood : List ℕ) (k : Kept) (n p : ℕ) → with_capacity n k.area ≡ answer 0 (cache_numbers k.cache) → max p 1 ≡ k.cache.capacity
    → Sound false false stood 0 k (original.with-capacity p)
fresh-sound stood k n p e same = record {
  fit = fresh_keeps Anything n k.cache k.area e;
  near = λ q. fresh_near k.cache k.area p n e same;
  past = λ q r. ap (λ (d : ResolveCache). d.used) (made_is n k.cache k.area e).1;
  their_past = λ q r. refl;
}

module _ (spoiled mixed : Bool) (stood : List ℕ) (m : ℕ) (k : Kept) (o : original.ResolveCache ℕ) (s : Sound spoiled mixed stood m k o) where
  -- one call later
  pub later_sound : (then' : Bool) → (then' ≡ false → spoiled ≡ false) → Sound then' mixed stood (suc m) k o
  later_sound then' less = record { fit = s.fit; near = λ e. near_later m k.cache k.area o (s.near (less e)); past = s.past; their_past = s.their_past }

  -- a table of generation h stands
  pub stood-sound : (h : ℕ) → Sound spoiled (or mixed (among h stood)) (h ∷ stood) m k o
  stood-sound h = record {
    fit = s.fit;
    near = s.near;
    past = λ q e. s.past (or_false mixed (among h stood) q).0 (or_false (eqb k.cache.generation.0 h) (among k.cache.generation.0 stood) e).1;
    their_past = λ q e. s.their_past (or_false mixed (among h stood) q).0 (or_false (eqb o.generation h) (among o.generation stood) e).1;
  }

  -- if none that stood had its generation, there is no list on it
  pub new-right : (due : List ℕ → List ℕ) (h : ℕ) → mixed ≡ false → among h stood ≡ false → Right due h k o
  new-right due h q new = record {
    ours = λ e. empty_keeps (Dues due) k.cache k.area s.fit.wide s.fit.any (s.past q (ap (λ n. among n stood) e ∙ new));
    theirs = λ e. subst (original.Each (Trusted due)) (sym (s.their_past q (ap (λ n. among n stood) e ∙ new))) tt;
  }

-- a clear
module _ (spoiled mixed : Bool) (stood : List ℕ) (m : ℕ) (c : ResolveCache) (a : Area) (o : original.ResolveCache ℕ) (s : Sound spoiled mixed stood m (record { cache = c; area = a }) o) where
  pub cleared-sound : (then' : Bool) → (then' ≡ false → spoiled ≡ false) → Sound then' mixed stood (suc m) (record { cache = clear c; area = a }) (original.clear o)
  unfolding clear
  cleared-sound then' less = record {
    fit = empty_keeps Anything (emptied c.generation c) a s.fit.wide s.fit.any refl;
    near = λ e. near_later m (clear c) a (original.clear o) (cleared_near m c a o (s.near (less e)));
    past = λ q e. refl;
    their_past = λ q e. refl;
  }

  pub cleared-right : (due : List ℕ → List ℕ) (h : ℕ) → Right due h (record { cache = clear c; area = a }) (original.clear o)
  unfolding clear
  cleared-right due h = record { ours = λ e. empty_keeps (Dues due) (emptied c.generation c) a s.fit.wide s.fit.any refl; theirs = λ e. tt }

-- through a snapshot with a table of generation g
module _ (spoiled mixed : Bool) (stood : List ℕ) (due : List ℕ → List ℕ) (g : Generation) (m : ℕ) (c : ResolveCache) (a : Area) (o : original.ResolveCache ℕ)
    (s : Sound spoiled mixed stood m (record { cache = c; area = a }) o) (right : mixed ≡ false → Right due g.0 (record { cache = c; area = a }) o) where
  -- ---- a resolve

  abbrev e : ResolveCache
  e = adopt g c

  abbrev on : original.ResolveCache ℕ
  on = guarded g.0 o

  fit_on : Keeps Anything e a
  fit_on = adopted_keeps Anything g c a s.fit.wide s.fit.any (λ z. s.fit)

  near_on : spoiled ≡ false → Near m e a on
  near_on clean =
      adopted_by g c (λ d. Near m d a on)
      (λ p. guarded_by g.0 o (λ d. Near m c a d) (λ q. n) (λ q. absurd (q (sym p ∙ sym n.same.generation))))
      (λ p. guarded_by g.0 o (λ d. Near m (emptied g c) a d) (λ q. absurd (p (sym n.same.generation ∙ sym q))) (λ q. emptied_near m g c a o n))
    where
      n : Near m c a o
      n = s.near clean

  right_on : mixed ≡ false → Keeps (Dues due) e a
  right_on apart = adopted_keeps (Dues due) g c a s.fit.wide s.fit.any (right apart).ours

  module _ (subject : List ℕ) where
    abbrev list : List ℕ
    list = due subject

    -- the subject is found on both sides with one list, or on neither
    abbrev Both : Option ℕ → Option (CacheEntry ℕ) → Type 0
    Both (some i) (some x) = (listed e a list (some i) ≡ list_of list (some x)) × ((i < e.used) × ((row e.capacity a i).0 ≡ subject))
    Both (some i) none = ⊥
    Both none (some x) = ⊥
    Both none none = (j : ℕ) → j < e.used → (row e.capacity a j).0 ≡ subject → ⊥

    both : spoiled ≡ false → Both (slot_of e a subject) (get on.entries subject)
    both clean = go (slot_of e a subject) refl (get on.entries subject) refl
      where
        n : Near m e a on
        n = near_on clean

        go : (r : Option ℕ) → slot_of e a subject ≡ r → (t : Option (CacheEntry ℕ)) → get on.entries subject ≡ t → Both r t
        go (some i) q (some x) p =
            let f = find-sound e.capacity a.keys subject 0 e.used i q in
            let w = n.same.only (subject, x) (get_some on.entries subject x p) in
            let below : i < e.used = omega (arith, f.below) in
            let same : w.0 ≡ i = n.apart w.0 i w.1 below (ap (λ (z : Pair). z.0) (sym w.2) ∙ sym f.key) in
            (ap (λ j. (row e.capacity a j).1.targets) (sym same) ∙ ap (λ (z : Pair). z.1.targets) (sym w.2), (below, f.key))
        go (some i) q none p =
            let f = find-sound e.capacity a.keys subject 0 e.used i q in
            each_at (λ x. x.0 ≡ subject → ⊥) on.entries (row e.capacity a i) (get_none on.entries subject p) (n.same.kept i (omega (arith, f.below))) f.key
        go none q (some x) p =
            let w = n.same.only (subject, x) (get_some on.entries subject x p) in
            find_none e.capacity a.keys subject 0 e.used q w.0 (omega arith) (omega (arith, w.1)) (fit_on.small w.0 w.1) (ap (λ (z : Pair). z.0) (sym w.2))
        go none q none p = λ j h r. find_none e.capacity a.keys subject 0 e.used q j (omega arith) (omega (arith, h)) (fit_on.small j h) r

    right-list : mixed ≡ false → listed e a list (slot_of e a subject) ≡ list
    right-list apart = go (slot_of e a subject) refl
      where
        go : (r : Option ℕ) → slot_of e a subject ≡ r → listed e a list r ≡ list
        go (some i) q = let f = find-sound e.capacity a.keys subject 0 e.used i q in (right_on apart).each i (omega (arith, f.below)) ∙ ap due f.key
        go none q = refl

    pub same-list : not (and spoiled mixed) ≡ true → listed e a list (slot_of e a subject) ≡ list_of list (get on.entries subject)
    same-list q = go spoiled refl mixed refl q
      where
        near_list : (r : Option ℕ) (t : Option (CacheEntry ℕ)) → Both r t → listed e a list r ≡ list_of list t
        near_list (some i) (some x) k = k.0
        near_list (some i) none k = absurd k
        near_list none (some x) k = absurd k
        near_list none none k = refl

        go : (b : Bool) → spoiled ≡ b → (d : Bool) → mixed ≡ d → not (and b d) ≡ true → listed e a list (slot_of e a subject) ≡ list_of list (get on.entries subject)
        go false p d z q = near_list (slot_of e a subject) (get on.entries subject) (both p)
        go true p false z q = right-list z ∙ sym (trusty_list due g.0 o (right z).theirs subject)
        go true p true y q = absurd (cc)

    -- what a resolve leaves on both sides
    module _ (filled : 1 ≤ length subject) (iter : Iter ℕ) (few : suc m < 2 ^ 64) where
      abbrev left : Kept
      left = left_by e a subject list (slot_of e a subject)

      abbrev their_left : original.ResolveCache ℕ
      their_left = left_of iter on subject list (get on.entries subject)

      left_near : spoiled ≡ false → uncacheable subject (listed e a list (slot_of e a subject)) ≡ false → Near (suc m) left.cache left.area their_left
      left_near clean = go (slot_of e a subject) (get on.entries subject) (both clean)
        where
          missed : ((j : ℕ) → j < e.used → (row e.capacity a j).0 ≡ subject → ⊥) → qualifies subject list ≡ true
              → Near (suc m) (left_by e a subject list none).cache (left_by e a subject list none).area (miss iter on subject list)
          missed new =
              qualified subject list
              (λ b. b ≡ true → Near (suc m) (left_if_kept e a subject list b).cache (left_if_kept e a subject list b).area (miss iter on subject list))
              (λ short small q. miss_near m e a on fit_on (near_on clean) few subject list filled short small new iter) (λ q. absurd (cc))

          go : (r : Option ℕ) (t : Option (CacheEntry ℕ)) → Both r t → uncacheable subject (listed e a list r) ≡ false
              → Near (suc m) (left_by e a subject list r).cache (left_by e a subject list r).area (left_of iter on subject list t)
          go (some i) (some x) k q = hit_near m e a on fit_on (near_on clean) few subject i k.1.0 k.1.1
          go (some i) none k q = absurd k
          go none (some x) k q = absurd k
          go none none k q = missed k (ap not q)

      left_adopts : left.cache.generation.0 ≡ g.0
      left_adopts = ap (λ (h : Generation). h.0) (left-generation e a subject list (slot_of e a subject)) ∙ adopted_generation g c

      -- the table's generation is among those that stood
      pub left-sound : among g.0 stood ≡ true → (then' : Bool) → (then' ≡ false → (spoiled ≡ false) × (uncacheable subject (listed e a list (slot_of e a subject)) ≡ false))
          → Sound then' mixed stood (suc m) left their_left
      left-sound stands then' less = record {
        fit = left_keeps Anything e a fit_on subject list tt filled;
        near = λ q. left_near (less q).0 (less q).1;
        past = λ q f. absurd (among_both left.cache.generation.0 left_adopts f);
        their_past = λ q f. absurd (among_both their_left.generation (left_on iter g.0 o subject list (get on.entries subject)) f);
      }
        where
          among_both : (h : ℕ) → h ≡ g.0 → among h stood ≡ false → ⊥
          among_both h q f = let same : among h stood ≡ true = ap (λ n. among n stood) q ∙ stands in cc

      -- `also` and h are of any table that stands
      pub left-right : (also : List ℕ → List ℕ) (h : ℕ) → mixed ≡ false → (h ≡ g.0 → also ≡ due) → Right also h left their_left
      left-right also h q one = record {
        ours = λ f. subst (λ d. Keeps (Dues d) left.cache left.area) (sym (one (sym f ∙ left_adopts))) (left_keeps (Dues due) e a (right_on q) subject list refl filled);
        theirs = λ f. subst (λ d. original.Each (Trusted d) their_left.entries) (sym (one (sym f ∙ left_on iter g.0 o subject list (get on.entries subject))))
            (left_trusty due g.0 o (right q).theirs subject iter);
      }
