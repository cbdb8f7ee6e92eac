-- Demand 1, its second sentence: a refused call changes nothing, and an accepted one writes its list's places alone. Of any states and areas.
--
--   refused_changes_nothing    the whole of it
use Prim.Native.Nat.{ℕ, zero, suc}
use native.Mathlib.Omega.{arith}
use mathlib.Core.Path.{◌≡◌, refl, sym, ◌∙◌, ap}
use mathlib.Core.Logic.{◌⊎◌, inl, inr}
use mathlib.Core.Bool.{Bool, true, false}
use mathlib.Core.List.{List, [], ◌∷◌, ◌++◌, map}
use mathlib.Core.Option.{Option, none, some}
use lib.Dec.{eqb, ltb}
use lib.ListN.{length, take, drop, get_or}
use lib.Seq.{take-append_seam}
use borrow.Author.Tests.{eqb-true}
use Rattle.subject_rules.specs.Choice.{pick}
use Rattle.subject_rules.specs.Text.{tokens}
use Rattle.subject_rules.specs.Fnv.{fnv}
use Rattle.subject_rules.specs.Answers.{Answer, answer}
use Rattle.subject_rules.specs.Grammar.{grammar}
use Rattle.sublist_walk_rules.specs.Walk.{Walked, found, failed, walk_over}
use Rattle.subject_rules.specs.Outputs.{over, Outcome, outcome, if_parsed}
use Rattle.sublist_walk_rules.specs.Matching.{counts_fit, written, match_table}
use Rattle.sublist_walk_rules.proofs.Outputs.{Leaves as MatchLeaves}
use Rattle.sublist_entries.specs.declared.Entry.{Entry}
use Rattle.sublist_entries.specs.declared.ListState.{ListState}
use Rattle.sublist_entries.specs.Inserting.{insert_into}
use Rattle.sublist_rules.specs.Leaving.{build_into}
use Rattle.sublist_rules.proofs.Builds.{refused-targets}
use Rattle.sublist_snapshot.specs.declared.Snapshot.{Snapshot}
use Rattle.sublist_snapshot.specs.Snapshot.{Table, refused_table, made_by, make, stored_by, store_in, nodes_in, targets_in, with_generation, match_in}
use Rattle.resolve_cache_rules.specs.declared.ResolveCache.{ResolveCache}
use Rattle.resolve_cache_rules.specs.Area.{Area}
use Rattle.resolve_cache_rules.specs.Cache.{Handed, gives, handed, Resolved}
use Rattle.resolve_cache_rules.proofs.Outputs.{Leaves as ResolveLeaves, resolve_leaves}
use Rattle.binding.specs.declared.Resolution.{Resolution}
use Rattle.binding.specs.Verdict.{judge_match, judge_handed, output_of, resolve_single_home, resolve_single_home_cached}
use Rattle.binding.specs.Calls.{Call, store, clearing, asking, resolving, asking_home, resolving_home, Reply, refused, matched, resolved, Cabinet, replaced, stamped, shown, resolved_as, home_as, resolve_in, after}
use Rattle.binding.specs.Refusing.{Unmoved, RefusedStays, ListWritten, Demand1}

-- ---- the snapshot

same-cabinet : (b : Cabinet) → Unmoved b b
same-cabinet b = record { snapshot = refl; words = refl; caches = λ i. refl }

store_stays : (b : Cabinet) (t : Table) (r : Answer) → stamped (store_in b.snapshot b.words t).says ≡ refused r
    → ((store_in b.snapshot b.words t).snapshot ≡ b.snapshot) × ((store_in b.snapshot b.words t).area ≡ b.words)
unfolding store_in
store_stays b t r = go (refused_table t b.words)
  where
    go : (o : Option Answer) → stamped (stored_by o b.snapshot b.words t).says ≡ refused r
        → ((stored_by o b.snapshot b.words t).snapshot ≡ b.snapshot) × ((stored_by o b.snapshot b.words t).area ≡ b.words)
    go none q = absurd (cc)
    go (some x) q = (refl, refl)

make_stays : (t : Table) (area : List ℕ) (n : ℕ) (values : List ℕ) → (make t area).says ≡ answer (suc n) values → (make t area).area ≡ area
unfolding make
make_stays t area n values = go (refused_table t area)
  where
    go : (o : Option Answer) → (made_by o t area).says ≡ answer (suc n) values → (made_by o t area).area ≡ area
    go none q = let z : 0 ≡ suc n = cc in absurd (omega (arith, z))
    go (some x) q = refl

-- ---- a match

match_leaves : (s : Snapshot) (area subject out : List ℕ) → MatchLeaves out (match_in s area subject out)
unfolding match_in match_table
match_leaves s area subject out =
    go (grammar false subject) (counts_fit s.nodes s.targets nodes targets) (walk_over 1024 nodes s.nodes s.targets targets (map fnv (tokens subject)))
  where
    nodes : List ℕ
    nodes = nodes_in s.nodes area

    targets : List ℕ
    targets = targets_in s.nodes s.targets area

    fits : (b : Bool) (list : List ℕ) (peak : ℕ)
        → MatchLeaves out (with_generation s.generation (pick b (outcome (answer 21 (length list ∷ [])) out) (outcome (answer 0 (length list ∷ peak ∷ [])) (over list out))))
    fits true list peak = refl
    fits false list peak = ap (λ (l : List ℕ). over l out) (sym (take-append_seam list (drop (length list) out)))

    go : (g : Answer) (b : Bool) (w : Walked) → MatchLeaves out (with_generation s.generation (if_parsed g out (pick b (written w out) (outcome (answer 19 []) out))))
    go (answer (suc k) values) b w = refl
    go (answer zero values) false w = refl
    go (answer zero values) true (failed f) = refl
    go (answer zero values) true (found list peak) = fits (ltb (length out) (length list)) list peak

match_stays : (out : List ℕ) (o : Outcome) → MatchLeaves out o → (r : Answer) → shown o ≡ refused r → output_of o ≡ out
match_stays out (outcome (answer zero values) after) l r q = absurd (cc)
match_stays out (outcome (answer (suc n) values) after) l r q = l

home_stays : (out : List ℕ) (o : Outcome) → MatchLeaves out o → (r : Answer) → home_as (judge_match o) ≡ refused r → output_of o ≡ out
home_stays out (outcome (answer zero values) after) l r q = absurd (cc)
home_stays out (outcome (answer (suc n) values) after) l r q = l

match_writes : (out : List ℕ) (o : Outcome) → MatchLeaves out o → (list : List ℕ) (verdict : Resolution) (peak generation : ℕ) → shown o ≡ matched list verdict peak generation
    → output_of o ≡ list ++ drop (length list) out
match_writes out (outcome (answer zero values) after) l list verdict peak generation q =
    let same : take (get_or values 0 0) after ≡ list = cc in
    l ∙ ap (λ (x : List ℕ). over x out) same
match_writes out (outcome (answer (suc n) values) after) l list verdict peak generation q = absurd (cc)

-- ---- a resolve

module _ (b : Cabinet) (i : ℕ) (r : Resolved) where
  -- put back unchanged, every cache is as it was
  put_back : r.cache ≡ (b.caches i).cache → r.area ≡ (b.caches i).area → (j : ℕ) → replaced b.caches i (record { cache = r.cache; area = r.area }) j ≡ b.caches j
  put_back c a j = go (eqb i j) refl
    where
      same : record { cache = r.cache; area = r.area } ≡ b.caches i
      same = λ x. record { cache = c x; area = a x }

      go : (e : Bool) → eqb i j ≡ e → pick e (record { cache = r.cache; area = r.area }) (b.caches j) ≡ b.caches j
      go true q = same ∙ ap b.caches (eqb-true i j q)
      go false q = refl

-- a refusal is one, whatever is read of it
resolve_stays : (b : Cabinet) (i : ℕ) (r : Resolved) (out : List ℕ) (said : Answer) → ResolveLeaves (b.caches i).cache (b.caches i).area out r said
    → (say : Handed → Reply) → ((list : List ℕ) (x : Answer) → say (gives list) ≡ refused x → ⊥) → (x : Answer) → say (handed said r.area.kept r.out) ≡ refused x
    → ((j : ℕ) → replaced b.caches i (record { cache = r.cache; area = r.area }) j ≡ b.caches j) × (r.out ≡ out)
resolve_stays b i r out (answer zero values) l say never x q = absurd (never _ x q)
resolve_stays b i r out (answer (suc n) values) l say never x q = (put_back b i r l.0 l.1, l.2)

resolve-writes : (c : ResolveCache) (a : Area) (out : List ℕ) (r : Resolved) (said : Answer) → ResolveLeaves c a out r said → (list : List ℕ) (verdict : Resolution)
    → resolved_as (handed said r.area.kept r.out) ≡ resolved list verdict → (r.out ≡ out) ⊎ (r.out ≡ list ++ drop (length list) out)
resolve-writes c a out r (answer (suc n) values) l list verdict q = absurd (cc)
resolve-writes c a out r (answer zero values) (inl e) list verdict q = inl e
resolve-writes c a out r (answer zero values) (inr e) list verdict q = inr (e ∙ ap (λ (x : List ℕ). over x out) (listed q))
  where
    listed : {xs ys : List ℕ} {u v : Resolution} → resolved xs u ≡ resolved ys v → xs ≡ ys
    listed q = cc

resolved_refuses : (list : List ℕ) (x : Answer) → resolved_as (gives list) ≡ refused x → ⊥
resolved_refuses list x q = cc

home_refuses : (list : List ℕ) (x : Answer) → home_as (judge_handed (gives list)) ≡ refused x → ⊥
home_refuses list x q = cc

-- ---- the calls

calls_stay : (b : Cabinet) (c : Call) → RefusedStays b c
unfolding resolve_single_home resolve_single_home_cached
calls_stay b (store t es) r q = let w = store_stays b t r q in (record { snapshot = w.0; words = w.1; caches = λ i. refl }, refl)
calls_stay b (clearing i) r q = absurd (cc)
calls_stay b (asking subject out) r q = (same-cabinet b, match_stays out (match_in b.snapshot b.words subject out) (match_leaves b.snapshot b.words subject out) r q)
calls_stay b (asking_home subject out) r q = (same-cabinet b, home_stays out (match_in b.snapshot b.words subject out) (match_leaves b.snapshot b.words subject out) r q)
calls_stay b (resolving i subject out) r q =
    let x = resolve_in b i subject out in
    let w = resolve_stays b i x out x.says (resolve_leaves (b.caches i).cache (b.caches i).area subject out b.snapshot b.words) resolved_as resolved_refuses r q in
    (record { snapshot = refl; words = refl; caches = w.0 }, w.1)
calls_stay b (resolving_home i subject out) r q =
    let x = resolve_in b i subject out in
    let w = resolve_stays b i x out x.says (resolve_leaves (b.caches i).cache (b.caches i).area subject out b.snapshot b.words) (λ h. home_as (judge_handed h)) home_refuses r q in
    (record { snapshot = refl; words = refl; caches = w.0 }, w.1)

lists_written : (b : Cabinet) (c : Call) → ListWritten b c
unfolding resolve_single_home resolve_single_home_cached
lists_written b (store t es) = tt
lists_written b (clearing i) = tt
lists_written b (asking subject out) = match_writes out (match_in b.snapshot b.words subject out) (match_leaves b.snapshot b.words subject out)
lists_written b (resolving i subject out) =
    let x = resolve_in b i subject out in
    resolve-writes (b.caches i).cache (b.caches i).area out x x.says (resolve_leaves (b.caches i).cache (b.caches i).area subject out b.snapshot b.words)
lists_written b (asking_home subject out) = refl
lists_written b (resolving_home i subject out) = refl

insert_stays : (list : ListState) (es : List Entry) (texts pattern : List ℕ) (target n : ℕ) (values : List ℕ) → (insert_into list es texts pattern target).says ≡ answer (suc n) values
    → ((insert_into list es texts pattern target).list ≡ es) × ((insert_into list es texts pattern target).store ≡ texts)
unfolding insert_into
insert_stays list es texts pattern target n values q = (rw q, rw q)

pub refused_changes_nothing : Demand1
unfolding build_into
refused_changes_nothing = record {
  calls = calls_stay;
  outputs = lists_written;
  making = make_stays;
  insert = insert_stays;
  build = λ es texts node_words target_words generation n values q. refused-targets es texts node_words target_words generation n values q;
}
