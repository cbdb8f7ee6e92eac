-- The verdict by the length of a list, and what a match, a resolve and their refusals make of it.
use Prim.Native.Nat.{ℕ, suc, ◌≤◌}
use native.Mathlib.Omega.{arith}
use mathlib.Core.Path.{◌≡◌, refl}
use mathlib.Core.List.{List, [], ◌∷◌}
use lib.ListN.{length, take}
use Rattle.std.specs.Prelude.{Result, Ok, Err, MatchResult}
use Rattle.resolve_cache.specs.declared.ListPlace.{ListPlace}
use Rattle.resolve_cache.specs.declared.ListPlace.TheVariants.{Kept, Walked}
use Rattle.resolve_cache.specs.declared.ResolveError.{ResolveError}
use Rattle.resolve_cache.specs.declared.ResolveError.TheVariants.{Invalid as NotSubject}
use Rattle.resolve_cache.proofs.Refusals.{refusal-number}
use Rattle.sublist_walk.specs.declared.MatchError.{MatchError}
use Rattle.sublist_walk.specs.declared.MatchError.TheVariants.{Invalid, Damaged, OutShort}
use Rattle.sublist_walk.specs.Answers.{match_refusal}
use Rattle.subject_rules.specs.Answers.{answer}
use Rattle.subject_rules.specs.Outputs.{outcome}
use Rattle.sublist_snapshot.specs.declared.Snapshot.{Snapshot}
use Rattle.sublist_snapshot.specs.Snapshot.{match_in}
use Rattle.resolve_cache_rules.specs.declared.ResolveCache.{ResolveCache}
use Rattle.resolve_cache_rules.specs.declared.Answered.{Answered}
use Rattle.resolve_cache_rules.specs.Area.{Area}
use Rattle.resolve_cache_rules.specs.Cache.{fresh, handed, resolve}
use Rattle.resolve_cache.specs.Answers.{resolve_answer, left, list_of}
use Rattle.resolve_cache_rules.specs.Answers.{lent}
use Rattle.resolve_cache.proofs.Keeping.{walk_lists}
use Rattle.binding.specs.declared.Resolution.{Resolution}
use Rattle.binding.specs.declared.Resolution.TheVariants.{Ambiguous}
use Rattle.binding.specs.Verdict.{single_home, turned_down, judged, judge_handed, Homed, resolve_single_home, CachedHomed, resolve_single_home_cached}
use Rattle.binding.specs.Answers.{cached_answer}

pub home_many : (l : List ℕ) → (length l ≡ 0 → ⊥) → (length l ≡ 1 → ⊥) → Ambiguous (length l) ≡ single_home l
home_many [] none one = absurd (none refl)
home_many (x ∷ []) none one = absurd (one refl)
home_many (x ∷ y ∷ l) none one = refl

-- the refusal of a match has a number that is not 0
match-number : (e : MatchError) → (k : ℕ) × (values : List ℕ) × (match_refusal e ≡ answer (suc k) values)
match-number (Invalid e) = refusal-number (NotSubject e)
match-number Damaged = (18, [], refl)
match-number (OutShort needed) = (20, needed ∷ [], refl)

-- a match through the snapshot, and what it left of the output
module _ (s : Snapshot) (area subject out after : List ℕ) where
  pub match_down : (e : MatchError) → outcome (match_refusal e) after ≡ match_in s area subject out
      → ◌≡◌ {A = Homed} (record { says = turned_down (match_refusal e); out = after }) (resolve_single_home s area subject out)
  unfolding resolve_single_home
  match_down e q = rw (← q, (match-number e).2)

  module _ (count peak g : ℕ) (q : outcome (answer 0 (count ∷ peak ∷ g ∷ [])) after ≡ match_in s area subject out) where
    -- the list lies within the output
    pub match_inside : count ≤ length out
    match_inside = let l = walk_lists (fresh 0) (lent [] [] []) s area subject out count peak g after q in omega (arith, l.counted, l.fits)

    pub match_judged : (v : Resolution) → v ≡ single_home (take count after)
        → ◌≡◌ {A = Homed} (record { says = judged v (peak ∷ g ∷ []); out = after }) (resolve_single_home s area subject out)
    unfolding resolve_single_home
    match_judged v e = rw (← q, e)

-- the verdict on the list that a resolve's answer hands back, or its refusal
pub answer-judged : (r : Result ListPlace ResolveError) (kept out list : List ℕ) (v : Result Resolution ResolveError) → list ≡ list_of (handed (resolve_answer r) kept out)
    → MatchResult r (λ _. v ≡ Ok (single_home list)) (λ e. v ≡ Err e) → cached_answer v ≡ judge_handed (handed (resolve_answer r) kept out)
answer-judged (Ok (Kept from count)) kept out list v l e = rw (e, l)
answer-judged (Ok (Walked count)) kept out list v l e = rw (e, l)
answer-judged (Err r) kept out list v l e = rw (e, (refusal-number r).2)

-- what the judge says of a resolve that returned r and left these areas
pub resolve-judged : (c : ResolveCache) (a : Area) (s : Snapshot) (area subject out : List ℕ) (r : Answered (Result ListPlace ResolveError)) (after : Area) (out_after : List ℕ) (v : Result Resolution ResolveError)
    → left r after out_after ≡ resolve c a s area subject out → cached_answer v ≡ judge_handed (handed (resolve_answer r.answer) after.kept out_after)
    → ◌≡◌ {A = CachedHomed} (record { says = cached_answer v; cache = r.cache; area = after; out = out_after }) (resolve_single_home_cached c a s area subject out)
unfolding resolve_single_home_cached
resolve-judged c a s area subject out r after out_after v q e = rw (← q, e)
