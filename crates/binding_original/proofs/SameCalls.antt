-- Whatever the list of calls: the answers are the original's, and so are the caches without a resolve that ours did not keep.
--
--   step          Together → one call on both sides is Compared, and Together holds of what it leaves
--   start         fresh and opened on both sides, equal capacities → Together
--   calls_same    so, fewer than 2^64 calls, the same calls → EachSame
use Prim.Native.Nat.{ℕ, suc, ◌+◌, ◌≤◌, ◌<◌, ◌^◌}
use native.Mathlib.Omega.{arith}
use mathlib.Core.Path.{◌≡◌, refl, sym, ◌∙◌, ap, subst}
use mathlib.Core.Bool.{Bool, true, false}
use mathlib.Core.List.{List, [], ◌∷◌, map}
use lib.Dec.{ltb}
use lib.ListN.{length}
use borrow.Author.Tests.{ltb-true, ltb-false}
use Rattle.subject_rules.specs.Choice.{pick}
use Rattle.subject_rules.specs.Fnv.{fnv}
use Rattle.subject_rules.specs.Answers.{answer}
use Rattle.sublist_tree.specs.Lists.{All}
use Rattle.sublist_tree.specs.Table.{TableEntry, root_of}
use Rattle.sublist_original.specs.Original.{Outcome, Std, Sublist}
use Rattle.sublist_snapshot.specs.Snapshot.{Table, length_of, copied, first, snapshot_numbers, Made, make}
use Rattle.sublist_snapshot.proofs.Copies.{make_full, make-fits}
use Rattle.binding.specs.Calls as ours
use Rattle.binding.specs.Calls.{Call, store, clearing, asking, resolving, asking_home, resolving_home}
use Rattle.binding.specs.Demand.{Opened, Lent}
use Rattle.binding.specs.Built.{BuiltFrom}
use Rattle.binding.proofs.Interleaving.{same_numbers}
use Rattle.binding.proofs.Tables.{table-holds}
use Rattle.binding_original.specs.Original as original
use Rattle.binding_original.specs.Original.{Iter, ResolveCache}
use Rattle.binding_original.specs.Calls.{SnapshotInArea, Yard, cabinet_of, NamedCall, reply_on, after_on, World, Asked, Told, call, added, Answered, Compared, asked, Tabled, SameCall, Fresh}
use Rattle.binding_original.specs.Caches.{Seen, unseen, meeting, met_by, seen_after, compares, EachSame}
use Rattle.binding_original.proofs.SameResolve.{Sound, fresh-sound}
use Rattle.binding_original.proofs.Together.{Both, stands_at, Together, meets, met-named}
use Rattle.binding_original.proofs.Steps.{store_step, clear_step, asking-step, asking-home-step}
use Rattle.binding_original.proofs.Resolves.{resolving-step, resolving-home-step}
use Rattle.binding_original.proofs.FirstTables.{FirstBuilt, at_first}

module _ (std : Std) (iter : Iter ℕ) (k : Seen) (m : ℕ) (y : Yard) (w : World) (held : Together std k m y w) where
  -- what is known when a call is made on snapshot j
  abbrev met : ℕ → Seen
  met j = meeting k j (stands_at y j)

  then' : (j : ℕ) → Together std (met j) m y w
  then' j = meets std k m y w j held

  step : (table : Sublist ℕ) → suc m < 2 ^ 64 → (n : NamedCall) → Lent n.1 → Tabled std table n.1
      → Compared (compares (met_by k y n) n.1) (reply_on y n) w (call std iter w (asked table n)) (Together std (seen_after k y n) (suc m) (after_on y n))
  step table few (j, store t es) lent same = store_step std iter (met j) m y w (then' j) j t es table lent same
  step table few (j, clearing i) lent same = clear_step std iter k m y w held j i
  step table few (j, asking subject out) lent same = asking-step std iter (met j) m y w (then' j) j subject out
  step table few (j, resolving i subject out) lent same = resolving-step std iter (met j) m y w (then' j) j (met-named k j (stands_at y j)) subject out i few
  step table few (j, asking_home subject out) lent same = asking-home-step std iter (met j) m y w (then' j) j subject out
  step table few (j, resolving_home i subject out) lent same = resolving-home-step std iter (met j) m y w (then' j) j (met-named k j (stands_at y j)) subject out i few

-- ---- every list of calls

-- what follows from what is there then
compared_map : (c : Bool) (r : ours.Reply) (w : World) (given : Outcome (Told × World)) (P Q : World → Type 0) → ((v : World) → P v → Q v) → Compared c r w given P → Compared c r w given Q
compared_map c r w given P Q f x = go (added r) x
  where
    go : (d : Bool) → pick d (P w) (Answered c r given P) → pick d (Q w) (Answered c r given Q)
    go true x = f w x
    go false (y, e, p, here) = (y, e, p, f y.1 here)

-- our calls of a list of both
abbrev pub firsts : List (NamedCall × Asked) → List Call
firsts calls = map (λ x. x.0.1) calls

module _ (std : Std) (iter : Iter ℕ) where
  each_same : (k : Seen) (m : ℕ) (y : Yard) (w : World) (calls : List (NamedCall × Asked)) → Together std k m y w → All Lent (firsts calls) → All (SameCall std) calls
      → m + length calls < 2 ^ 64 → EachSame std iter k y w calls
  each_same k m y w [] held lent same few = λ i e. ((held.caches i).near e).same
  each_same k m y w ((n, d) ∷ calls) held lent same few = (
    (λ i e. ((held.caches i).near e).same),
    compared_map (compares (met_by k y n) n.1) (reply_on y n) w (call std iter w d) (Together std (seen_after k y n) (suc m) (after_on y n))
        (λ v. EachSame std iter (seen_after k y n) (after_on y n) v calls)
        (λ v t. each_same (seen_after k y n) (suc m) (after_on y n) v calls t lent.1 same.1 (omega (arith, few)))
        (subst (λ a. Compared (compares (met_by k y n) n.1) (reply_on y n) w (call std iter w a) (Together std (seen_after k y n) (suc m) (after_on y n))) (sym same.0.1)
        (step std iter k m y w held same.0.0 (omega (arith, few)) n lent.0 same.0.2)),
  )

  -- ---- fresh on both sides

  -- a snapshot of ours is made of a table, one of theirs of a table of the same entries, built as 0
  module _ (t : Table) (es : List TableEntry) (built : BuiltFrom t es) (area : List ℕ) (table : Sublist ℕ) (few : length es ≤ 2048) (made : FirstBuilt std es table) where
    made_both : (s : SnapshotInArea) → make t area ≡ record { says = answer 0 (snapshot_numbers s.snapshot); area = s.words } → Both std es s (original.new table)
    made_both s ours = go (ltb (length area) (length_of t)) refl
      where
        go : (c : Bool) → ltb (length area) (length_of t) ≡ c → Both std es s (original.new table)
        go true e =
            let m = make_full t (root_of fnv es) (table-holds t es built) area (ltb-true (length area) (length_of t) e) in
            let q : answer 20 [] ≡ answer 0 (snapshot_numbers s.snapshot) = ap (λ (x : Made). x.says) (sym m ∙ ours) in
            absurd (cc)
        go false e =
            let m = sym (make-fits t (root_of fnv es) (table-holds t es built) area (ltb-false (length area) (length_of t) e)) ∙ ours in
            let q : answer 0 (snapshot_numbers (first t)) ≡ answer 0 (snapshot_numbers s.snapshot) = ap (λ (x : Made). x.says) m in
            let n : snapshot_numbers (first t) ≡ snapshot_numbers s.snapshot = cc in
            subst (λ v. Both std es (record { snapshot = s.snapshot; words = v }) (original.new table)) (ap (λ (x : Made). x.area) m)
            (subst (λ u. Both std es (record { snapshot = u; words = copied t area }) (original.new table)) (same_numbers (first t) s.snapshot n) (at_first std t es built area table few made))

  module _ (ts : ℕ → Table) (es : ℕ → List TableEntry) (built : (j : ℕ) → BuiltFrom (ts j) (es j)) (areas : ℕ → List ℕ) (y : Yard)
      (opened : (j : ℕ) → Opened (ts j) (areas j) (cabinet_of y j)) (w : World) (fresh : Fresh std es w)
      (alike : (i : ℕ) → (w.caches i).capacity ≡ (y.caches i).cache.capacity) where
    start : Together std unseen 0 y w
    start = record {
      entries = es;
      snapshots = λ j. subst (Both std (es j) (y.snapshots j)) (sym (fresh.made j))
          (made_both (ts j) (es j) (built j) (areas j) (fresh.tables j) (fresh.few j) (fresh.built j) (y.snapshots j) (opened j).snapshot_made);
      among-stood = λ j n. absurd (none n);
      apart = λ q i j n. absurd (none n);
      caches = λ i. subst (Sound false false [] 0 (y.caches i)) (sym (fresh.caches i).1)
          (fresh-sound [] (y.caches i) ((opened 0).caches_made i).0 (fresh.caches i).0 ((opened 0).caches_made i).1
          (ap (λ (x : ResolveCache ℕ). x.capacity) (sym (fresh.caches i).1) ∙ alike i));
      right = λ q j n. absurd (none n);
    }
      where
        none : false ≡ true → ⊥
        none e = cc

    -- whatever the list of calls
    pub calls_same : (calls : List (NamedCall × Asked)) → All Lent (firsts calls) → All (SameCall std) calls → length calls < 2 ^ 64 → EachSame std iter unseen y w calls
    calls_same calls lent same few = each_same unseen 0 y w calls start lent same (omega (arith, few))
