-- What a resolve is, by the tests that it makes in turn: a refusal, a hit or a walk.
use Rattle.std.proofs.Common.{◌≡◌, ℕ, ◌+◌, ◌*◌, ◌<◌, ◌≤◌, true, false, ltb, List, [], ◌∷◌, length, get_or, sym, refl, ap, ◌∙◌, subst, arith, le-ltb, lt-ltb}
use mathlib.Core.Option as stated
use mathlib.Core.Option.{none, some}
use Rattle.subject_rules.specs.Choice.{pick}
use Rattle.subject_rules.specs.Answers.{answer}
use Rattle.subject_rules.specs.Grammar.{grammar}
use Rattle.sublist_snapshot.specs.declared.Generation.{Generation}
use Rattle.sublist_snapshot.specs.declared.Snapshot.{Snapshot}
use Rattle.sublist_snapshot.specs.Snapshot.{stands_in, walk_of}
use Rattle.resolve_cache_rules.specs.declared.ResolveCache.{ResolveCache}
use Rattle.resolve_cache_rules.specs.Area.{Area, key_length, target_count, touch}
use Rattle.resolve_cache_rules.specs.Cache.{short, bad, find_from, adopt, ticked, hit, in_kept}
use Rattle.resolve_cache_rules.specs.Cache.{Resolved, unchanged, if_accepted, miss, work_by, work, resolve}
use Rattle.resolve_cache_rules.specs.Ready.{Wide, Ready, Small, Accepted}
use Rattle.resolve_cache_rules.proofs.Slots.{not_bad, short-wide, find-sound}
use Rattle.resolve_cache_rules.proofs.Keeps.{adopted_by}
use Rattle.subject.specs.Answers.{refusal}
use Rattle.subject.specs.declared.SubjectError.{SubjectError}
use Rattle.resolve_cache.specs.declared.ResolveError.TheVariants.{Invalid}
use Rattle.resolve_cache.proofs.Refusals.{refusal-number}

-- 17 and 18 do not apply
good_ready : (c : ResolveCache) (a : Area) → bad c a ≡ false → Wide c.capacity a → Ready c a
good_ready c a b w = let g = not_bad c a b in record { any = g.0; fits = g.1; wide = w }

-- the cache on a generation uses no more slots, and has the same capacity
adopt-used : (g : Generation) (c : ResolveCache) → ((adopt g c).used ≤ c.used) × ((adopt g c).capacity ≡ c.capacity)
adopt-used g c = adopted_by g c (λ d. (d.used ≤ c.used) × (d.capacity ≡ c.capacity)) (λ _. (omega arith, refl)) (λ _. (omega arith, refl))

-- the cache on a generation has room too, and no bad slot
module _ (g : Generation) (c e : ResolveCache) (a : Area) (on : e ≡ adopt g c) where
  ready_current : Ready c a → Ready e a
  ready_current r =
      rw on (record { any = omega (arith, r.any, (adopt-used g c).1); fits = omega (arith, r.fits, (adopt-used g c).0, (adopt-used g c).1); wide = rw (adopt-used g c).1 r.wide })

-- 1 to 9, 17, 18 and 19 on the counts do not apply; e is the cache on the standing table's generation
pub record Asked (c : ResolveCache) (a : Area) (s : Snapshot) (words subject : List ℕ) (e : ResolveCache) : Type 0 where
  pub accepted : Accepted subject
  pub fits : short c.capacity a ≡ false
  pub good : bad c a ≡ false
  pub stands : stands_in s words ≡ true
  pub on : e ≡ adopt s.generation c

pub asked_ready : (c : ResolveCache) (a : Area) (s : Snapshot) (words subject : List ℕ) (e : ResolveCache) → Asked c a s words subject e → Ready e a
asked_ready c a s words subject e g = ready_current s.generation c e a g.on (good_ready c a g.good (short-wide c.capacity a g.fits))

module _ (c : ResolveCache) (a : Area) (s : Snapshot) (words subject out : List ℕ) where
  -- what a walk leaves
  abbrev pub walking : Resolved
  walking =
      if_accepted c a subject out (grammar false subject)
      (pick (stands_in s words) (miss c a subject out (adopt s.generation c) (walk_of s words subject))
      (unchanged c a subject out (answer 19 [])))

  abbrev whole : Resolved
  whole = resolve c a s words subject out

  -- 1 to 9
  pub text-refused : (e : SubjectError) → refusal e ≡ grammar false subject → unchanged c a subject out (refusal e) ≡ whole
  unfolding resolve
  text-refused e g = rw (← g, (refusal-number (Invalid e)).2)

  module _ (n : ℕ) (accepted : answer 0 (n ∷ []) ≡ grammar false subject) where
    pub refused-short : short c.capacity a ≡ true → unchanged c a subject out (answer 17 []) ≡ whole
    unfolding resolve
    refused-short h = rw (← accepted, h)

    module _ (fits : short c.capacity a ≡ false) where
      pub refused-bad : bad c a ≡ true → unchanged c a subject out (answer 18 []) ≡ whole
      unfolding resolve
      refused-bad b = rw (← accepted, fits, b)

      pub refused-damaged : bad c a ≡ false → stands_in s words ≡ false → unchanged c a subject out (answer 19 []) ≡ whole
      unfolding resolve
      refused-damaged good d = rw (← accepted, fits, good, d)

  module _ (e : ResolveCache) (g : Asked c a s words subject e) where
    same-capacity : e.capacity ≡ c.capacity
    same-capacity = ap (λ d. d.capacity) g.on ∙ (adopt-used s.generation c).1

    full : work c a subject out (adopt s.generation c) (walk_of s words subject) ≡ whole
    unfolding resolve
    full = rw (g.accepted.1, g.fits, g.good, g.stands)

    works : (o : stated.Option ℕ) → find_from c.capacity a.keys subject 0 e.used ≡ o → work_by c a subject out o e (walk_of s words subject) ≡ whole
    works o q =
        ap (λ x. work_by c a subject out x e (walk_of s words subject)) (sym q ∙ ap (λ m. find_from m a.keys subject 0 e.used) (sym same-capacity))
        ∙ ap (λ d. work c a subject out d (walk_of s words subject)) g.on
        ∙ full

    pub walks : find_from c.capacity a.keys subject 0 e.used ≡ none → walking ≡ whole
    walks absent =
        rw (g.accepted.1, g.stands)
        (subst (λ d. miss c a subject out d (walk_of s words subject) ≡ whole) g.on (works none absent))

    -- a hit at slot i, whose byte of the second list says the number of its targets
    module _ (small : Small c.capacity a.keys c.used) (i : ℕ) (found : find_from c.capacity a.keys subject 0 e.used ≡ some i) where
      count-is : get_or a.keys (c.capacity + i) 0 ≡ target_count e.capacity a.keys i
      count-is =
          let used : e.used ≤ c.used = rw g.on (adopt-used s.generation c).0 in
          let short : key_length c.capacity a.keys i ≤ 256 = (small i (omega (arith, (find-sound c.capacity a.keys subject 0 e.used i found).below))).0 in
          rw same-capacity (omega arith)

      by : ℕ → Resolved
      by count =
          pick (ltb (length out) count) (unchanged c a subject out (answer 21 (count ∷ [])))
          (record { says = in_kept (16 * i) count; cache = hit e; area = touch a i (ticked e).0; out = out })

      hits : by (get_or a.keys (c.capacity + i) 0) ≡ whole
      unfolding by
      hits = ap by count-is ∙ works (some i) found

      pub hit-short : length out < get_or a.keys (c.capacity + i) 0 → unchanged c a subject out (answer 21 (get_or a.keys (c.capacity + i) 0 ∷ [])) ≡ whole
      unfolding by
      hit-short h = rw lt-ltb at hits

      pub hit-shown : get_or a.keys (c.capacity + i) 0 ≤ length out
          → ◌≡◌ {A = Resolved} (record { says = in_kept (16 * i) (get_or a.keys (c.capacity + i) 0); cache = hit e; area = touch a i (ticked e).0; out = out }) whole
      unfolding by
      hit-shown h = rw le-ltb at hits

-- the refusals before the cache is asked
pub ruleset stages = (text-refused, refused-short, refused-bad, refused-damaged)
