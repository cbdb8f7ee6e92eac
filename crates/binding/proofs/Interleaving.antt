-- Demand 3: any list of stores, clears, matches and resolves.
use Prim.Native.Nat.{ℕ, zero, suc, ◌+◌, ◌≤◌, ◌<◌, ◌^◌}
use native.Mathlib.Omega.{arith}
use native.Mathlib.Nat.{mod-eq_of_lt}
use native.Mathlib.Numerals.{add-one}
use mathlib.Core.Path.{◌≡◌, refl, sym, ◌∙◌, ap, subst}
use mathlib.Core.Bool.{Bool, true, false}
use mathlib.Core.List.{List, [], ◌∷◌, map, Memᴰ}
use lib.Dec.{eqb, ltb}
use lib.ListN.{length, drop, get_or}
use lib.Seq.{take-append_seam}
use borrow.Author.Tests.{ltb-true, ltb-false, ne_eqb}
use Rattle.subject_rules.specs.Choice.{pick}
use Rattle.subject_rules.specs.Text.{tokens}
use Rattle.subject_rules.specs.Fnv.{fnv}
use Rattle.subject_rules.specs.Answers.{Answer, answer}
use Rattle.subject_rules.specs.Grammar.{grammar}
use Rattle.sublist_tree.specs.Lists.{concat, All}
use Rattle.sublist_tree.specs.Tree.{walk, peak}
use Rattle.sublist_tree.specs.Table.{TableEntry, root_of, Accepted, literals}
use Rattle.sublist_tree.proofs.Hash.{hash_entries, hash_peak, hash_fork}
use Rattle.sublist_walk_rules.specs.Walk.{found}
use Rattle.subject_rules.specs.Outputs.{over, Outcome, outcome, if_parsed}
use Rattle.sublist_rules.specs.Building.{needed, worst_of as worst_in, build_says}
use Rattle.sublist_snapshot.specs.declared.Snapshot.{Snapshot}
use Rattle.sublist_snapshot.specs.Snapshot.{wrap, Table, length_of, copied, first, snapshot_numbers, Made, make, Stored, match_in, walk_of}
use Rattle.sublist_snapshot.proofs.Copies.{HoldsIn, copied-length, copied-holds, make_full, make-fits, store_full, store-fits}
use Rattle.sublist_snapshot.proofs.Standing.{holds_stands, holds-walk, holds_match}
use Rattle.resolve_cache_rules.specs.Cache.{clear, Handed, turned_back, gives, handed, with_capacity}
use Rattle.resolve_cache_rules.proofs.Faithful.{Faithful, unless_text, fresh_faithful, stored_faithful, clear_faithful, resolve_right}
use Rattle.binding.specs.Verdict.{single_home, judge_match, judge_handed, resolve_single_home, resolve_single_home_cached}
use Rattle.binding.specs.Calls.{Call, store, clearing, asking, resolving, asking_home, resolving_home, Reply, refused, storing, cleared, matched, resolved, home, Kept, Cabinet, replaced, stamped, shown, resolved_as, home_as, store_to, resolve_in, reply, after}
use Rattle.binding.specs.Built.{BuiltFrom}
use Rattle.binding.specs.Demand.{due, verdict_on, peak_due, worst_of, Standing, start, standing_after, text_first, Right, EachRight, Happened, AllRight, SnapshotRight, Opened, Lent, is_store, stores_in, tokens_of, tokens_in, in_play, HashedApart, Premises, Met}
use Rattle.binding.proofs.Builds.{built_accepts, built_bound, builds_right_lem}
use Rattle.binding.proofs.Tables.{table-holds}
use Rattle.binding.proofs.Tokens.{Within, within_all, all_left, all_right, no_clash, subject-literals}

-- what holds between calls
pub record Stands (pool : List (List ℕ)) (s : Standing) (b : Cabinet) : Type 0 where
  pub holds : HoldsIn b.snapshot b.words (root_of fnv s.entries)
  pub generation : b.snapshot.generation.0 ≡ s.stores
  pub next : b.snapshot.next.0 ≡ wrap (suc s.stores)
  pub room : length b.words ≡ s.room
  pub accepted : All Accepted s.entries
  pub worst_case : worst_of s.entries ≤ 1024
  pub within : Within pool (tokens_of s.entries)
  pub caches : (i : ℕ) → Faithful (due s.entries) s.stores (b.caches i).cache (b.caches i).area

-- a store answers as demanded, refused or not, and leaves what holds between calls
abbrev Taken : List (List ℕ) → Standing → Cabinet → List TableEntry → Bool → Stored → Type 0
Taken pool s b es full x =
    (stamped x.says ≡ pick full (refused (answer 20 [])) (storing (suc s.stores)))
    × Stands pool (pick full s (record { entries = es; stores = suc s.stores; room = s.room })) (record { snapshot = x.snapshot; words = x.area; caches = b.caches })

-- the list of the tree
abbrev walked : Standing → List ℕ → List ℕ
walked s subject = walk eqb (map fnv (tokens subject)) (root_of fnv s.entries ∷ [])

-- the verdict is 01's
pub verdict_is : (list : List ℕ) → single_home list ≡ verdict_on list
verdict_is [] = refl
verdict_is (x ∷ []) = refl
verdict_is (x ∷ (y ∷ zs)) = rw (ne_eqb (suc (suc (length zs))) 0 (λ e. omega (arith, e)), ne_eqb (suc (suc (length zs))) 1 (λ e. omega (arith, e)))

-- the verdict in a reply, without its list
abbrev home_of : Reply → Reply
home_of (refused a) = refused a
home_of (storing g) = storing g
home_of cleared = cleared
home_of (matched list verdict peak g) = home verdict (peak ∷ g ∷ [])
home_of (resolved list verdict) = home verdict []
home_of (home verdict values) = home verdict values

home_of_match : (o : Outcome) → home_as (judge_match o) ≡ home_of (shown o)
home_of_match (outcome (answer zero values) out) = refl
home_of_match (outcome (answer (suc k) values) out) = refl

home_of_handed : (h : Handed) → home_as (judge_handed h) ≡ home_of (resolved_as h)
home_of_handed (turned_back r) = refl
home_of_handed (gives list) = refl

home-demanded : (dues : List ℕ) (o : Answer) (c : Bool) (values : List ℕ) (given : List ℕ → Reply) → ((list : List ℕ) → home_of (given list) ≡ home (verdict_on list) values)
    → home_of (text_first o (pick c (refused (answer 21 (length dues ∷ []))) (given dues))) ≡ text_first o (pick c (refused (answer 21 (length dues ∷ []))) (home (verdict_on dues) values))
home-demanded dues (answer (suc k) vs) c values given e = refl
home-demanded dues (answer zero vs) true values given e = refl
home-demanded dues (answer zero vs) false values given e = e dues

module _ (pool : List (List ℕ)) (apart : HashedApart pool) where
  -- no frontier outgrows 1,024
  low : (s : Standing) (b : Cabinet) → Stands pool s b → (subject : List ℕ) → peak eqb (map fnv (tokens subject)) (root_of fnv s.entries ∷ []) ≤ 1024
  low s b i subject = omega (arith, hash_fork (map fnv (tokens subject)) s.entries i.accepted, i.worst_case)

  -- the tree's list for an accepted subject is the list due
  walked-due : (s : Standing) (b : Cabinet) → Stands pool s b → (subject values : List ℕ) → Within pool (literals (tokens subject)) → grammar false subject ≡ answer 0 values
      → walked s subject ≡ due s.entries subject
  walked-due s b i subject values w e =
      hash_entries (tokens subject) s.entries (no_clash pool apart s.entries (tokens subject) i.within (subst (Within pool) (subject-literals subject values e) w))

  -- the walk of the standing table ends with it, and with 01's peak
  pub stands_walk : (s : Standing) (b : Cabinet) → Stands pool s b → (subject values : List ℕ) → Within pool (literals (tokens subject)) → grammar false subject ≡ answer 0 values
      → walk_of b.snapshot b.words subject ≡ found (due s.entries subject) (peak_due s.entries subject)
  stands_walk s b i subject values w e =
      holds-walk b.snapshot b.words (root_of fnv s.entries) i.holds subject (low s b i subject)
      ∙ rw (walked-due s b i subject values w e, hash_peak (map fnv (tokens subject)) s.entries)

  -- one call
  module _ (s : Standing) (b : Cabinet) (i : Stands pool s b) where
    store_step : (t : Table) (es : List TableEntry) → BuiltFrom t es → Within pool (tokens_of es) → suc s.stores < 2 ^ 64
        → Right s (store t es) (reply b (store t es)) × Stands pool (standing_after s (store t es)) (after b (store t es))
    store_step t es built w few = go (ltb s.room (length_of t)) refl
      where
        counter : b.snapshot.next.0 ≡ suc s.stores
        counter = i.next ∙ mod-eq_of_lt few

        go : (c : Bool) → ltb s.room (length_of t) ≡ c → Taken pool s b es c (store_to b t)
        go true e =
            let full : length b.words < length_of t = omega (arith, ltb-true s.room (length_of t) e, i.room) in
            subst (Taken pool s b es true) (sym (store_full t (root_of fnv es) (table-holds t es built) b.words b.snapshot full)) (refl, i)
        go false e =
            let fits : length_of t ≤ length b.words = omega (arith, ltb-false s.room (length_of t) e, i.room) in
            subst (Taken pool s b es false) (sym (store-fits t (root_of fnv es) (table-holds t es built) b.words b.snapshot fits)) (
              ap storing counter,
              record {
                holds = copied-holds t (root_of fnv es) (table-holds t es built) b.words;
                generation = counter;
                next = ap (λ n. wrap (n + 1)) counter ∙ ap wrap (add-one (suc s.stores));
                room = copied-length t (root_of fnv es) (table-holds t es built) b.words fits ∙ i.room;
                accepted = built_accepts t es built;
                worst_case = built_bound t es built;
                within = w;
                caches = λ j. stored_faithful (due s.entries) (due es) s.stores (b.caches j).cache (b.caches j).area (i.caches j);
              },
            )

    asking-step : (subject out : List ℕ) → Within pool (literals (tokens subject)) → Right s (asking subject out) (reply b (asking subject out))
    asking-step subject out w = (
      ap shown (holds_match b.snapshot b.words (root_of fnv s.entries) i.holds subject out (low s b i subject)) ∙ go (grammar false subject) refl,
      omega (arith, hash_fork (map fnv (tokens subject)) s.entries i.accepted, hash_peak (map fnv (tokens subject)) s.entries),
      i.worst_case,
    )
      where
        end : (list : List ℕ) (top g : ℕ) (c : Bool)
            → shown (pick c (outcome (answer 21 (length list ∷ [])) out) (outcome (answer 0 (length list ∷ top ∷ g ∷ [])) (over list out)))
            ≡ pick c (refused (answer 21 (length list ∷ []))) (matched list (verdict_on list) top g)
        end list top g true = refl
        end list top g false = ap (λ ts. matched ts (single_home ts) top g) (take-append_seam list (drop (length list) out)) ∙ ap (λ v. matched list v top g) (verdict_is list)

        go : (o : Answer) → grammar false subject ≡ o
            → shown (if_parsed o out (pick (ltb (length out) (length (walked s subject))) (outcome (answer 21 (length (walked s subject) ∷ [])) out)
            (outcome (answer 0 (length (walked s subject) ∷ peak eqb (map fnv (tokens subject)) (root_of fnv s.entries ∷ []) ∷ b.snapshot.generation.0 ∷ [])) (over (walked s subject) out))))
            ≡ text_first o (pick (ltb (length out) (length (due s.entries subject))) (refused (answer 21 (length (due s.entries subject) ∷ [])))
            (matched (due s.entries subject) (verdict_on (due s.entries subject)) (peak_due s.entries subject) s.stores))
        go (answer (suc k) values) e = refl
        go (answer zero values) e =
            end (walked s subject) (peak eqb (map fnv (tokens subject)) (root_of fnv s.entries ∷ [])) b.snapshot.generation.0 (ltb (length out) (length (walked s subject)))
            ∙ rw (walked-due s b i subject values w e, hash_peak (map fnv (tokens subject)) s.entries, i.generation)

    replaced_stands : (j : ℕ) (k : Kept) → Faithful (due s.entries) s.stores k.cache k.area
        → Stands pool s (record { snapshot = b.snapshot; words = b.words; caches = replaced b.caches j k })
    replaced_stands j k f = record {
      holds = i.holds;
      generation = i.generation;
      next = i.next;
      room = i.room;
      accepted = i.accepted;
      worst_case = i.worst_case;
      within = i.within;
      caches = λ m. go m (eqb j m);
    }
      where
        go : (m : ℕ) (c : Bool) → Faithful (due s.entries) s.stores (pick c k (b.caches m)).cache (pick c k (b.caches m)).area
        go m true = f
        go m false = i.caches m

    resolving-step : (j : ℕ) (subject out : List ℕ) → Within pool (literals (tokens subject))
        → Right s (resolving j subject out) (reply b (resolving j subject out)) × Stands pool s (after b (resolving j subject out))
    resolving-step j subject out w =
        let good = resolve_right (due s.entries) s.stores (b.caches j).cache (b.caches j).area b.snapshot b.words subject out (i.caches j) i.generation
        (holds_stands b.snapshot b.words (root_of fnv s.entries) i.holds) (λ values e. (peak_due s.entries subject, stands_walk s b i subject values w e)) in (
          ap resolved_as good.0 ∙ push (grammar false subject) (ltb (length out) (length (due s.entries subject))),
          replaced_stands j (record { cache = (resolve_in b j subject out).cache; area = (resolve_in b j subject out).area }) good.1,
        )
      where
        push : (o : Answer) (c : Bool)
            → resolved_as (unless_text o (pick c (turned_back (answer 21 (length (due s.entries subject) ∷ []))) (gives (due s.entries subject))))
            ≡ text_first o (pick c (refused (answer 21 (length (due s.entries subject) ∷ []))) (resolved (due s.entries subject) (verdict_on (due s.entries subject))))
        push (answer (suc k) values) c = refl
        push (answer zero values) true = refl
        push (answer zero values) false = ap (resolved (due s.entries subject)) (verdict_is (due s.entries subject))

    -- the two that feed `single_home` answer by the match and the resolve that they make
    asking-home-step : (subject out : List ℕ) → Within pool (literals (tokens subject)) → Right s (asking_home subject out) (reply b (asking_home subject out))
    unfolding resolve_single_home
    asking-home-step subject out w = (
      home_of_match (match_in b.snapshot b.words subject out) ∙ ap home_of asked.0 ∙ home-demanded (due s.entries subject) (grammar false subject) (ltb (length out) (length (due s.entries subject))) (peak_due s.entries subject ∷ s.stores ∷ [])
          (λ list. matched list (verdict_on list) (peak_due s.entries subject) s.stores) (λ list. refl),
      asked.1,
      asked.2,
    )
      where
        asked : Right s (asking subject out) (reply b (asking subject out))
        asked = asking-step subject out w

    resolving-home-step : (j : ℕ) (subject out : List ℕ) → Within pool (literals (tokens subject))
        → Right s (resolving_home j subject out) (reply b (resolving_home j subject out)) × Stands pool s (after b (resolving_home j subject out))
    unfolding resolve_single_home_cached
    resolving-home-step j subject out w =
        let r = resolving-step j subject out w in (
          home_of_handed (handed (resolve_in b j subject out).says (resolve_in b j subject out).area.kept (resolve_in b j subject out).out)
              ∙ ap home_of r.0 ∙ home-demanded (due s.entries subject) (grammar false subject) (ltb (length out) (length (due s.entries subject))) []
              (λ list. resolved list (verdict_on list)) (λ list. refl),
          r.1,
        )

  -- any call answers as demanded, and leaves what holds between calls
  pub step : (s : Standing) (b : Cabinet) (c : Call) → Stands pool s b → Lent c → Within pool (tokens_in c) → s.stores + is_store c < 2 ^ 64
      → Right s c (reply b c) × Stands pool (standing_after s c) (after b c)
  step s b (store t es) i lent w few = store_step s b i t es lent w (omega arith)
  step s b (clearing j) i lent w few = (
    refl,
    replaced_stands s b i j (record { cache = clear (b.caches j).cache; area = (b.caches j).area })
        (clear_faithful (due s.entries) s.stores (b.caches j).cache (b.caches j).area (i.caches j)),
  )
  step s b (asking subject out) i lent w few = (asking-step s b i subject out w, i)
  step s b (resolving j subject out) i lent w few = resolving-step s b i j subject out w
  step s b (asking_home subject out) i lent w few = (asking-home-step s b i subject out w, i)
  step s b (resolving_home j subject out) i lent w few = resolving-home-step s b i j subject out w

  one_more : (s : Standing) (t : Table) (es : List TableEntry) → (standing_after s (store t es)).stores ≤ suc s.stores
  one_more s t es = go (ltb s.room (length_of t))
    where
      go : (c : Bool) → (pick c s (record { entries = es; stores = suc s.stores; room = s.room })).stores ≤ suc s.stores
      go true = omega arith
      go false = omega arith

  -- a call adds at most one store
  pub more : (s : Standing) (c : Call) → (standing_after s c).stores ≤ s.stores + is_store c
  more s (store t es) = omega (arith, one_more s t es)
  more s (clearing j) = omega arith
  more s (asking subject out) = omega arith
  more s (resolving j subject out) = omega arith
  more s (asking_home subject out) = omega arith
  more s (resolving_home j subject out) = omega arith

  -- every list of calls
  each_right : (s : Standing) (b : Cabinet) (calls : List Call) → Stands pool s b → All Lent calls → Within pool (concat (map tokens_in calls))
      → s.stores + stores_in calls < 2 ^ 64 → EachRight s b calls
  each_right s b [] i lent w few = tt
  each_right s b (c ∷ calls) i lent w few =
      let now = step s b c i lent.0 (all_left (λ u. Memᴰ u pool) (tokens_in c) (concat (map tokens_in calls)) w) (omega arith) in (
        now.0,
        each_right (standing_after s c) (after b c) calls now.1 lent.1
            (all_right (λ u. Memᴰ u pool) (tokens_in c) (concat (map tokens_in calls)) w) (omega (arith, more s c)),
      )

-- calls whose replies and leavings are those of the definitions, which is all that the contracts say, are answered right
all_right_of : (s : Standing) (b : Cabinet) (xs : List (Call × Reply × Cabinet)) → Happened b xs → EachRight s b (map (λ x. x.0) xs) → AllRight s xs
all_right_of s b [] h r = tt
all_right_of s b (x ∷ xs) h r = (
  subst (Right s x.0) (sym h.0) r.0,
  all_right_of (standing_after s x.0) x.2 xs h.2 (subst (λ d. EachRight (standing_after s x.0) d (map (λ y. y.0) xs)) (sym h.1) r.1),
)

-- a state is known by its numbers
pub same_numbers : (s u : Snapshot) → snapshot_numbers s ≡ snapshot_numbers u → s ≡ u
same_numbers s u e =
    ap (λ (l : List ℕ). record { nodes = get_or l 0 0; targets = get_or l 1 0; generation = record { 0 = get_or l 2 0 }; next = record { 0 = get_or l 3 0 } }) e

module _ (t : Table) (es : List TableEntry) (calls : List Call) (p : Premises t es calls) where
  own : Within (in_play es calls) (in_play es calls)
  own = within_all (in_play es calls) (in_play es calls) (λ u m. m)

  own_calls : Within (in_play es calls) (concat (map tokens_in calls))
  own_calls = all_right (λ u. Memᴰ u (in_play es calls)) (tokens_of es) (concat (map tokens_in calls)) own

  -- the making of the snapshot
  making : (area : List ℕ) → SnapshotRight t area
  making area = go (ltb (length area) (length_of t)) refl
    where
      go : (c : Bool) → ltb (length area) (length_of t) ≡ c → (make t area).says ≡ pick c (answer 20 []) (answer 0 (snapshot_numbers (first t)))
      go true e = ap (λ (m : Made). m.says) (make_full t (root_of fnv es) (table-holds t es p.built) area (ltb-true (length area) (length_of t) e))
      go false e = ap (λ (m : Made). m.says) (make-fits t (root_of fnv es) (table-holds t es p.built) area (ltb-false (length area) (length_of t) e))

  -- a fresh snapshot and fresh caches
  pub start_stands : (area : List ℕ) (b : Cabinet) → Opened t area b → Stands (in_play es calls) (start es area) b
  start_stands area b o = go (ltb (length area) (length_of t)) refl
    where
      go : (c : Bool) → ltb (length area) (length_of t) ≡ c → Stands (in_play es calls) (start es area) b
      go true e =
          let m = make_full t (root_of fnv es) (table-holds t es p.built) area (ltb-true (length area) (length_of t) e) in
          let q : answer 20 [] ≡ answer 0 (snapshot_numbers b.snapshot) = ap (λ (x : Made). x.says) (sym m ∙ o.snapshot_made) in
          absurd (cc)
      go false e =
          let fits = ltb-false (length area) (length_of t) e in
          let m = sym (make-fits t (root_of fnv es) (table-holds t es p.built) area fits) ∙ o.snapshot_made in
          let q : answer 0 (snapshot_numbers (first t)) ≡ answer 0 (snapshot_numbers b.snapshot) = ap (λ (x : Made). x.says) m in
          let n : snapshot_numbers (first t) ≡ snapshot_numbers b.snapshot = cc in
          subst (λ w. Stands (in_play es calls) (start es area) (record { snapshot = b.snapshot; words = w; caches = b.caches })) (ap (λ (x : Made). x.area) m)
          (subst (λ x. Stands (in_play es calls) (start es area) (record { snapshot = x; words = copied t area; caches = b.caches })) (same_numbers (first t) b.snapshot n) (record {
            holds = copied-holds t (root_of fnv es) (table-holds t es p.built) area;
            generation = refl;
            next = refl;
            room = copied-length t (root_of fnv es) (table-holds t es p.built) area fits;
            accepted = built_accepts t es p.built;
            worst_case = built_bound t es p.built;
            within = all_left (λ u. Memᴰ u (in_play es calls)) (tokens_of es) (concat (map tokens_in calls)) own;
            caches = λ i. fresh_faithful (due es) (o.caches_made i).0 (b.caches i).cache (b.caches i).area (o.caches_made i).1;
          }))

  -- Demand 3: whatever the list of calls, each is answered right
  pub interleaving : (area : List ℕ) (b : Cabinet) → Met t es area b calls
  unfolding with_capacity build_says needed worst_in
  interleaving area b = record {
    builds_right = builds_right_lem;
    snapshot_right = making area;
    caches_right = λ n a. refl;
    new_caches_right = λ a. refl;
    calls_right = λ o. each_right (in_play es calls) p.apart (start es area) b calls (start_stands area b o) p.lent own_calls (omega (arith, p.few));
  }

-- Demand 3 of calls as they happened
pub happened_right : (t : Table) (es : List TableEntry) (area : List ℕ) (b : Cabinet) (xs : List (Call × Reply × Cabinet))
    → Premises t es (map (λ x. x.0) xs) → Opened t area b → Happened b xs → AllRight (start es area) xs
happened_right t es area b xs p o h = all_right_of (start es area) b xs h ((interleaving t es (map (λ x. x.0) xs) p area b).calls_right o)
