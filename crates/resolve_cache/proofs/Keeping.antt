-- What a match through the snapshot and the keeping of its list make of a resolve that walks.
use Rattle.std.proofs.Common.{◌≡◌, ℕ, zero, suc, ◌≤◌, Bool, true, false, ltb, List, [], ◌∷◌, Result, IsErrAnd, length, take, drop, sym, refl, ap, ◌∙◌, subst, ltb-false}
use Rattle.std.proofs.lemmas.Result.{err_from_is_err_and}
use lib.Seq.{take-append_seam}
use Rattle.subject_rules.specs.Choice.{pick}
use Rattle.subject_rules.specs.Answers.{Answer, answer}
use Rattle.subject_rules.specs.Grammar.{grammar}
use Rattle.sublist_walk_rules.specs.Walk.{Walked, found, failed}
use Rattle.subject_rules.specs.Outputs.{over, Outcome, outcome, if_parsed}
use Rattle.sublist_walk_rules.specs.Matching.{written}
use Rattle.sublist_snapshot.specs.declared.Generation.{Generation}
use Rattle.sublist_snapshot.specs.declared.Snapshot.{Snapshot}
use Rattle.sublist_snapshot.specs.Snapshot.{stands_in, walk_of, with_generation, match_in}
use Rattle.sublist_snapshot.proofs.Standing.{match_walk}
use Rattle.resolve_cache_rules.specs.declared.ResolveCache.{ResolveCache}
use Rattle.resolve_cache_rules.specs.Area.{Area, keep}
use Rattle.resolve_cache_rules.specs.Cache.{adopt, place, ticked, walked, grown, qualifies, in_out, Resolved}
use Rattle.resolve_cache_rules.specs.Cache.{unchanged, missed, miss, if_accepted}
use Rattle.sublist_walk.specs.declared.MatchError.{MatchError}
use Rattle.sublist_walk.specs.Answers.{match_refusal}
use Rattle.resolve_cache.specs.declared.ListPlace.{ListPlace}
use Rattle.resolve_cache.specs.declared.ResolveError.{ResolveError}
use Rattle.resolve_cache.specs.Answers.{resolve_refusal}
use Rattle.resolve_cache.proofs.Refusals.{refusal-number}
use Rattle.resolve_cache.specs.Deciding.{Keeps, leaving as leaves}
use Rattle.resolve_cache.proofs.Resolving.{walking}

module _ (c : ResolveCache) (a : Area) (s : Snapshot) (words subject out : List ℕ) where
  -- what a list that was kept, or was not, leaves
  -- Kept: `Keeps.qualified` of resolve_cache_rules tells the same two cases; both are `refl` here, and a citation is longer.
  missed-left : (e : ResolveCache) (list : List ℕ) (d : ResolveCache) (area : Area) → Keeps e a subject list d area
      → ◌≡◌ {A = Resolved} (record { says = in_out (length list); cache = d; area = area; out = over list out }) (missed c a subject out e list)
  missed-left e list d area k = rw (k.cache, k.area) (by (qualifies subject list))
    where
      by : (b : Bool) → ◌≡◌ {A = Resolved}
          (record {
            says = in_out (length list);
            cache = pick b (grown e) (walked e);
            area = pick b (keep e.capacity a (place e a) subject list (ticked e).0) a;
            out = over list out;
          })
          (pick b
          (record { says = in_out (length list); cache = grown e; area = keep e.capacity a (place e a) subject list (ticked e).0; out = over list out })
          (record { says = in_out (length list); cache = walked e; area = a; out = over list out }))
      by true = refl
      by false = refl

  -- a refused match leaves the resolve refused
  abbrev refusing : Outcome → Resolved
  refusing (outcome y after) = record { says = y; cache = c; area = a; out = after }

  -- a match that lists: the list, and what the resolve then is
  pub record Lists (count : ℕ) (after : List ℕ) : Type 0 where
    pub list : List ℕ
    pub counted : count ≡ length list
    pub written : after ≡ over list out
    pub fits : length list ≤ length out
    pub is : missed c a subject out (adopt s.generation c) list ≡ walking c a s words subject out

  module _ (g : Generation) (e : ResolveCache) where
    abbrev matching : Answer → Bool → Walked → Outcome
    matching o b w = with_generation g (if_parsed o out (pick b (written w out) (outcome (answer 19 []) out)))

    abbrev leaving : Answer → Bool → Walked → Resolved
    leaving o b w = if_accepted c a subject out o (pick b (miss c a subject out e w) (unchanged c a subject out (answer 19 [])))

    refuse : (o : Answer) (b : Bool) (w : Walked) (n : ℕ) (vs : List ℕ) (after : List ℕ)
        → outcome (answer (suc n) vs) after ≡ matching o b w → refusing (outcome (answer (suc n) vs) after) ≡ leaving o b w
    refuse (answer (suc k) values) b w n vs after q = ap refusing q
    refuse (answer zero values) false w n vs after q = ap refusing q
    refuse (answer zero values) true (failed x) n vs after q = ap refusing q
    refuse (answer zero values) true (found list peak) n vs after q = go (ltb (length out) (length list)) q
      where
        go : (f : Bool) → outcome (answer (suc n) vs) after ≡ with_generation g (pick f (outcome (answer 21 (length list ∷ [])) out) (outcome (answer 0 (length list ∷ peak ∷ [])) (over list out)))
            → refusing (outcome (answer (suc n) vs) after) ≡ pick f (unchanged c a subject out (answer 21 (length list ∷ []))) (missed c a subject out e list)
        go true q = ap refusing q
        go false q = absurd (cc)

    -- the list that was found, and its length
    listing : (o : Answer) (b : Bool) (w : Walked) (count peak n : ℕ) (after : List ℕ) → outcome (answer 0 (count ∷ peak ∷ n ∷ [])) after ≡ matching o b w
        → (list : List ℕ) × (count ≡ length list) × (after ≡ over list out) × (length list ≤ length out) × (missed c a subject out e list ≡ leaving o b w)
    listing (answer (suc k) values) b w count peak n after q = absurd (cc)
    listing (answer zero values) false w count peak n after q = absurd (cc)
    listing (answer zero values) true (failed x) count peak n after q = absurd (cc)
    listing (answer zero values) true (found list p) count peak n after q = go (ltb (length out) (length list)) refl q
      where
        go : (f : Bool) → ltb (length out) (length list) ≡ f
            → outcome (answer 0 (count ∷ peak ∷ n ∷ [])) after ≡ with_generation g (pick f (outcome (answer 21 (length list ∷ [])) out) (outcome (answer 0 (length list ∷ p ∷ [])) (over list out)))
            → (list' : List ℕ) × (count ≡ length list') × (after ≡ over list' out) × (length list' ≤ length out)
            × (missed c a subject out e list' ≡ pick f (unchanged c a subject out (answer 21 (length list ∷ []))) (missed c a subject out e list))
        go true h q = absurd (cc)
        go false h q = (list, cc, cc, ltb-false (length out) (length list) h, refl)

  pub walk_refused : (why : MatchError) (after : List ℕ) → outcome (match_refusal why) after ≡ match_in s words subject out
      → (r : Result ListPlace ResolveError) → IsErrAnd r (λ e. resolve_refusal e ≡ match_refusal why) → leaves r c a after ≡ walking c a s words subject out
  walk_refused why after q r is =
      let e = err_from_is_err_and r is in
      let n = refusal-number e.0 in
      rw (e.1, n.2)
      (refuse s.generation (adopt s.generation c) (grammar false subject) (stands_in s words) (walk_of s words subject) n.0 n.1 after
      (ap (λ y. outcome y after) (sym n.2 ∙ e.2) ∙ q ∙ match_walk s words subject out))

  pub walk_lists : (count peak n : ℕ) (after : List ℕ) → outcome (answer 0 (count ∷ peak ∷ n ∷ [])) after ≡ match_in s words subject out → Lists count after
  walk_lists count peak n after q =
      let l = listing s.generation (adopt s.generation c) (grammar false subject) (stands_in s words) (walk_of s words subject) count peak n after (q ∙ match_walk s words subject out) in
      record { list = l.0; counted = l.1; written = l.2; fits = l.3; is = l.4 }

  -- the list is that part of the output
  module _ (count : ℕ) (after : List ℕ) (l : Lists count after) where
    written-list : take count after ≡ l.list
    written-list = ap (λ n. take n after) l.counted ∙ ap (take (length l.list)) l.written ∙ take-append_seam l.list (drop (length l.list) out)

    pub kept-walk : (e : ResolveCache) → e ≡ adopt s.generation c → (d : ResolveCache) (area : Area) → Keeps e a subject (take count after) d area
        → ◌≡◌ {A = Resolved} (record { says = in_out count; cache = d; area = area; out = after }) (walking c a s words subject out)
    kept-walk e h d area k =
        let left : ◌≡◌ {A = Resolved} (record { says = in_out count; cache = d; area = area; out = after }) (missed c a subject out e l.list) =
        rw (l.counted, l.written) (missed-left e l.list d area (subst (λ x. Keeps e a subject x d area) written-list k)) in
        left ∙ ap (λ x. missed c a subject out x l.list) h ∙ l.is
