-- A resolve and a verdict by a resolve on both sides.
--
--   resolve-step                           Together, the snapshot named → ours says what it hands back, theirs what a function gives on its list → Compared, and Together of what is left
--   resolving-step, resolving-home-step    so of the two calls
use Prim.Native.Nat.{ℕ, suc, ◌≤◌, ◌<◌, ◌^◌}
use mathlib.Core.Path.{◌≡◌, refl, sym, ◌∙◌, ap, subst}
use mathlib.Core.Bool.{Bool, true, false, not}
use mathlib.Core.List.{List, [], ◌∷◌, map}
use lib.Dec.{eqb}
use lib.ListN.{length}
use borrow.Author.Tests.{eqb-true}
use Rattle.subject_rules.specs.Choice.{pick, and, or}
use Rattle.subject_rules.specs.Text.{tokens}
use Rattle.subject_rules.specs.Fnv.{fnv}
use Rattle.subject_rules.specs.Answers.{Answer}
use Rattle.subject_rules.specs.Grammar.{grammar}
use Rattle.subject_rules.specs.Original.{validate}
use Rattle.sublist_tree.specs.Tree.{peak}
use Rattle.sublist_tree.specs.Table.{root_of}
use Rattle.sublist_walk_rules.specs.Walk.{among}
use Rattle.sublist_original.specs.Original.{Outcome, Ok, ◌>>=◌, Std}
use Rattle.sublist_snapshot.specs.declared.Generation.{Generation}
use Rattle.sublist_snapshot.proofs.Standing.{holds_stands, holds-walk}
use Rattle.resolve_cache_rules.specs.declared.ResolveCache as cache
use Rattle.resolve_cache_rules.specs.Area.{Area}
use Rattle.resolve_cache_rules.specs.Cache.{adopt, Handed, turned_back, gives, handed, Resolved}
use Rattle.resolve_cache_rules.proofs.Faithful.{unless_text, fitting}
use Rattle.binding.specs.Verdict.{single_home, judge_handed, resolve_single_home_cached}
use Rattle.binding.specs.Calls as ours
use Rattle.binding.specs.Calls.{resolving, resolving_home, Kept, replaced, resolved_as, home_as, resolve_in}
use Rattle.resolve_cache_rules.proofs.Slots.{or_false}
use Rattle.binding_original.specs.Original.{Iter, ResolveCache, single-home, guarded, get, resolve_with}
use Rattle.binding_original.specs.Calls.{SnapshotInArea, Yard, cabinet_of, with_cabinet, World, with_cache, resolves, homes_cached, Told, resolved, home, parsed, told, added, refusing, Compared}
use Rattle.binding_original.specs.Caches.{Seen, uncacheable, spoils, stamps}
use Rattle.binding_original.proofs.Stamping.{walked_by}
use Rattle.binding_original.proofs.Keeping.{list_of, left_of, resolve-gives}
use Rattle.binding_original.proofs.OurCache.{slot_of, listed, left_by, left_if, resolve-ends}
use Rattle.binding_original.proofs.SameResolve.{Sound, Right, same-list, left-sound, left-right}
use Rattle.binding_original.proofs.Texts.{verdict_same, reply_of, compared_handed}
use Rattle.binding_original.proofs.Together.{stands_at, Together, seen_by, nothing, with_caches, later_cache, later, put_back, stays}
use Rattle.binding_original.proofs.Steps.{Step, low}

module _ (std : Std) (iter : Iter ℕ) (k : Seen) (m : ℕ) (y : Yard) (w : World) (held : Together std k m y w) (j : ℕ) (named : among j k.named ≡ true) (subject out : List ℕ) (i : ℕ)
    (few : suc m < 2 ^ 64) where
  abbrev due : List ℕ → List ℕ
  due = walked_by (held.entries j)

  abbrev s : SnapshotInArea
  s = y.snapshots j

  abbrev g : Generation
  g = s.snapshot.generation

  abbrev c : cache.ResolveCache
  c = (y.caches i).cache

  abbrev a : Area
  a = (y.caches i).area

  abbrev on : ResolveCache ℕ
  on = guarded g.0 (w.caches i)

  right : k.mixed ≡ false → Right (walked_by (held.entries j)) (y.snapshots j).snapshot.generation.0 (y.caches i) (w.caches i)
  right q = held.right q j named i

  -- the lists that the two hand back, and what they leave if they do
  abbrev our_list : List ℕ
  our_list = listed (adopt g c) a (due subject) (slot_of (adopt g c) a subject)

  abbrev our_left : Kept
  our_left = left_by (adopt g c) a subject (due subject) (slot_of (adopt g c) a subject)

  abbrev their_list : List ℕ
  their_list = list_of (due subject) (get on.entries subject)

  abbrev their_left : ResolveCache ℕ
  their_left = left_of iter on subject (due subject) (get on.entries subject)

  -- what ours hands back and leaves
  abbrev done : Resolved
  done = resolve_in (cabinet_of y j) i subject out

  abbrev hands : Handed
  hands = handed done.says done.area.kept done.out

  abbrev behind : Kept → Yard
  behind left = record { snapshots = y.snapshots; caches = replaced y.caches i left }

  abbrev Then : Seen → Handed → Kept → World → Type 0
  Then t h left = Together std (seen_by t (spoils (resolving i subject out) (resolved_as h))) (suc m) (with_cabinet y j (cabinet_of (behind left) j))

  -- ours turns back: nothing has changed
  turned : (r : Answer) → Then k (turned_back r) (y.caches i) w
  turned r =
      stays std (seen_by k nothing) (suc m) (behind (y.caches i)) w j
      (subst (λ f. Together std (seen_by k nothing) (suc m) (record { snapshots = y.snapshots; caches = f }) w) (sym (put_back y.caches i)) (later std k m y w held))

  -- both have handed their lists back
  given : 1 ≤ length subject → Then k (gives our_list) our_left (with_cache w i their_left)
  given filled =
      stays std (seen_by k (spoils (resolving i subject out) (resolved_as (gives our_list)))) (suc m) (behind our_left) (with_cache w i their_left) j
      (with_caches std k m y w held (spoils (resolving i subject out) (resolved_as (gives our_list))) (replaced y.caches i our_left) (with_cache w i their_left).caches
      (λ x. sound x (eqb i x) refl) (λ q l n x. rights q l n x (eqb i x)))
    where
      less : (x : ℕ) → i ≡ x → or (k.spoiled x) (uncacheable subject our_list) ≡ false → (k.spoiled i ≡ false) × (uncacheable subject our_list ≡ false)
      less x q e = let two = or_false (k.spoiled x) (uncacheable subject our_list) e in (ap k.spoiled q ∙ two.0, two.1)

      sound : (x : ℕ) (d : Bool) → eqb i x ≡ d
          → Sound (or (k.spoiled x) (and d (uncacheable subject our_list))) k.mixed k.stood (suc m) (pick d our_left (y.caches x)) (pick d their_left (w.caches x))
      sound x true q =
          left-sound (k.spoiled i) k.mixed k.stood due g m c a (w.caches i) (held.caches i) right subject filled iter few (held.among-stood j named)
          (or (k.spoiled x) (uncacheable subject our_list)) (less x (eqb-true i x q))
      sound x false q = later_cache std k m y w held nothing x

      -- of the named snapshots, only j has a table of generation g
      rights : k.mixed ≡ false → (l : ℕ) → among l k.named ≡ true → (x : ℕ) (d : Bool)
          → Right (walked_by (held.entries l)) (stands_at y l) (pick d our_left (y.caches x)) (pick d their_left (w.caches x))
      rights q l n x true =
          left-right (k.spoiled i) k.mixed k.stood due g m c a (w.caches i) (held.caches i) right subject filled iter few (walked_by (held.entries l)) (stands_at y l) q
          (λ e. ap (λ z. walked_by (held.entries z)) (held.apart q l j n named e))
      rights q l n x false = held.right q l n x

  -- `say` reads what ours hands back, theirs hands its list to f
  module _ {R : Type 0} (f : List ℕ → R) (tell : R → Told) (say : Handed → ours.Reply) (give : List ℕ → ours.Reply)
      (reads : (h : Handed) → say h ≡ reply_of give h) (tells : (list : List ℕ) → give list ≡ told [] (tell (f list)))
      (plainly : (list : List ℕ) → added (give list) ≡ false) (calm : (list : List ℕ) → refusing (give list) ≡ false) (none : (list : List ℕ) → stamps k j (give list) ≡ k) where
    abbrev theirs : Outcome (Told × World)
    theirs = resolve_with std iter f (w.caches i) (w.snapshots j) subject >>= (λ given. Ok (tell given.0, with_cache w i given.1))

    abbrev Goal : ours.Reply → (World → Type 0) → Type 0
    Goal r = Compared (not (and (k.spoiled i) k.mixed)) r w (parsed (validate subject false) w theirs)

    same-told : (d : Bool) → not (and (k.spoiled i) k.mixed) ≡ d → pick d ((more : List ℕ) × (give our_list ≡ told more (tell (f their_list)))) (Unit {0})
    same-told true q =
        ([], tells our_list ∙ ap (λ l. told [] (tell (f l))) (same-list (k.spoiled i) k.mixed k.stood due g m c a (w.caches i) (held.caches i) right subject q))
    same-told false q = tt

    resolve-step : Goal (say hands) (Then (stamps k j (say hands)) hands (record { cache = done.cache; area = done.area }))
    resolve-step =
        subst (λ left. Goal (say hands) (Then (stamps k j (say hands)) hands left)) (sym ended.1)
        (subst (λ h. Goal (say h) (Then (stamps k j (say h)) h (left_if H (y.caches i) our_left))) (sym ended.0)
        (subst (λ r. Goal r (Then (stamps k j r) H (left_if H (y.caches i) our_left))) (sym (reads H))
        (compared_handed (not (and (k.spoiled i) k.mixed)) subject our_list (length out) give w theirs (λ h. Then (stamps k j (reply_of give h)) h (left_if h (y.caches i) our_left))
        turned (plainly our_list) (calm our_list) (λ filled. (
          (tell (f their_list), with_cache w i their_left),
          ap (λ r. r >>= (λ given. Ok (tell given.0, with_cache w i given.1)))
              (resolve-gives std iter f (held.entries j) (w.snapshots j) (w.caches i) g.0 subject (held.snapshots j).walks (held.snapshots j).generation),
          same-told (not (and (k.spoiled i) k.mixed)) refl,
          subst (λ t. Then t (gives our_list) our_left (with_cache w i their_left)) (sym (none our_list)) (given filled),
        )))))
      where
        H : Handed
        H = unless_text (grammar false subject) (fitting (length out) our_list)

        ended : (hands ≡ unless_text (grammar false subject) (fitting (length out) our_list))
            × (record { cache = done.cache; area = done.area } ≡ left_if (unless_text (grammar false subject) (fitting (length out) our_list)) (y.caches i) our_left)
        ended =
            resolve-ends c a subject out (due subject) (held.caches i).fit s.snapshot s.words (peak eqb (map fnv (tokens subject)) (root_of fnv (held.entries j) ∷ []))
            (holds_stands s.snapshot s.words (root_of fnv (held.entries j)) (held.snapshots j).holds)
            (holds-walk s.snapshot s.words (root_of fnv (held.entries j)) (held.snapshots j).holds subject (low std iter k m y w held j subject out))

  pub resolving-step : Step std iter k m y w (j, resolving i subject out) (resolves i j subject)
  resolving-step = resolve-step (λ targets. targets) resolved resolved_as (λ l. ours.resolved l (single_home l)) reads (λ l. rw (verdict_same l)) (λ l. refl) (λ l. refl) (λ l. refl)
    where
      reads : (h : Handed) → resolved_as h ≡ reply_of (λ l. ours.resolved l (single_home l)) h
      reads (turned_back r) = refl
      reads (gives l) = refl

  pub resolving-home-step : Step std iter k m y w (j, resolving_home i subject out) (homes_cached i j subject)
  unfolding resolve_single_home_cached
  resolving-home-step = resolve-step single-home home (λ h. home_as (judge_handed h)) (λ l. ours.home (single_home l) []) reads (λ l. rw (verdict_same l)) (λ l. refl) (λ l. refl) (λ l. refl)
    where
      reads : (h : Handed) → home_as (judge_handed h) ≡ reply_of (λ l. ours.home (single_home l) []) h
      reads (turned_back r) = refl
      reads (gives l) = refl
