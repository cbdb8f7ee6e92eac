-- A store, a clear, a match and a verdict by a match on both sides are answered the same, and what holds between calls holds of what they leave.
--
--   store_step, clear_step            Together → the call is Compared, and Together holds of what it leaves
--   asking-step, asking-home-step
use Prim.Native.Nat.{ℕ, zero, suc, ◌≤◌}
use native.Mathlib.Omega.{arith}
use mathlib.Core.Path.{◌≡◌, refl, sym, ◌∙◌, ap, subst}
use mathlib.Core.Bool.{Bool, true, false}
use mathlib.Core.List.{List, [], ◌∷◌, map}
use lib.Dec.{eqb, ltb}
use lib.ListN.{length, take, drop}
use lib.Seq.{take-append_seam}
use borrow.Author.Tests.{ltb-true, ltb-false, eqb-true}
use Rattle.subject_rules.specs.Choice.{pick, or}
use Rattle.subject_rules.specs.Text.{tokens}
use Rattle.subject_rules.specs.Fnv.{fnv}
use Rattle.subject_rules.specs.Answers.{Answer, answer}
use Rattle.subject_rules.specs.Grammar.{grammar}
use Rattle.subject_rules.specs.Original.{validate}
use Rattle.sublist_tree.specs.Tree.{peak}
use Rattle.sublist_tree.specs.Table.{TableEntry, root_of}
use Rattle.sublist_tree.proofs.Hash.{hash_fork}
use Rattle.sublist_walk_rules.specs.Walk.{among}
use Rattle.subject_rules.specs.Outputs as outputs
use Rattle.subject_rules.specs.Outputs.{over, outcome, if_parsed}
use Rattle.sublist_original.specs.Original.{Outcome, Ok, ◌>>=◌, Std, Sublist}
use Rattle.sublist_snapshot.specs.Snapshot.{Table, length_of, copied, stored, Stored, match_in}
use Rattle.sublist_snapshot.proofs.Copies.{copied-holds, store_full, store-fits}
use Rattle.sublist_snapshot.proofs.Standing.{holds_match}
use Rattle.resolve_cache_rules.specs.Cache.{clear, turned_back, gives}
use Rattle.resolve_cache_rules.proofs.Faithful.{unless_text, fitting}
use Rattle.binding.specs.Verdict.{single_home, judge_match, resolve_single_home}
use Rattle.binding.specs.Calls as ours
use Rattle.binding.specs.Calls.{store, clearing, asking, asking_home, Kept, replaced, stamped, shown, home_as, store_to}
use Rattle.binding.specs.Built.{BuiltFrom}
use Rattle.binding.proofs.Builds.{built_accepts, built_bound}
use Rattle.binding.proofs.Tables.{table-holds}
use Rattle.resolve_cache_rules.proofs.Slots.{or_false}
use Rattle.binding_original.specs.Original as original
use Rattle.binding_original.specs.Original.{Iter, single-home, snapshot_match_into, resolve-single-home}
use Rattle.binding_original.specs.Calls.{SnapshotInArea, Yard, cabinet_of, with_cabinet, NamedCall, reply_on, after_on, World, with_snapshot, with_cache, Asked, stores, clears, matches, homes, Told, storing, cleared, matched, home, parsed, call, told, added, refusing, Compared, TableOf}
use Rattle.binding_original.specs.Caches.{Seen, counted, spoils, stamps, compares}
use Rattle.binding_original.proofs.Stamping.{walked_by, stamped-walks}
use Rattle.binding_original.proofs.SameResolve.{Sound, Right, cleared-sound, cleared-right}
use Rattle.binding_original.proofs.Texts.{verdict_same, reply_of, compared_handed}
use Rattle.binding_original.proofs.Together.{Both, stands_at, Together, seen_by, nothing, with_caches, later_cache, later, stands, stays}

-- what is known after a call, if k is known when it is made
abbrev pub seen_then : Seen → Yard → NamedCall → Seen
seen_then k y (j, c) = seen_by (stamps k j (reply_on y (j, c))) (spoils (counted c) (reply_on y (j, counted c)))

-- one call on both sides: answered the same, and Together holds of what it leaves
abbrev pub Step : Std → Iter ℕ → Seen → ℕ → Yard → World → NamedCall → Asked → Type 0
Step std iter k m y w n d = Compared (compares k n.1) (reply_on y n) w (call std iter w d) (Together std (seen_then k y n) (suc m) (after_on y n))

module _ (std : Std) (iter : Iter ℕ) (k : Seen) (m : ℕ) (y : Yard) (w : World) (held : Together std k m y w) (j : ℕ) where
  abbrev s : SnapshotInArea
  s = y.snapshots j

  unchanged : Together std (seen_by k nothing) (suc m) (with_cabinet y j (cabinet_of y j)) w
  unchanged = stays std (seen_by k nothing) (suc m) y w j (later std k m y w held)

  -- ---- a store

  pub store_step : (t : Table) (es : List TableEntry) (table : Sublist ℕ) → BuiltFrom t es → TableOf std es table → Step std iter k m y w (j, store t es) (stores j table)
  store_step t es table built made = go (ltb (length s.words) (length_of t)) refl
    where
      Left : Stored → Type 0
      Left x =
          Compared true (stamped x.says) w (call std iter w (stores j table))
          (Together std (seen_by (stamps k j (stamped x.says)) nothing) (suc m) (with_cabinet y j (record { snapshot = x.snapshot; words = x.area; caches = y.caches })))

      left : Both std es (record { snapshot = stored s.snapshot t; words = copied t s.words }) (original.store (w.snapshots j) table).1
      left = record {
        accepted = built_accepts t es built;
        worst_case = built_bound t es built;
        holds = copied-holds t (root_of fnv es) (table-holds t es built) s.words;
        walks = stamped-walks std es table (built_accepts t es built) made (w.snapshots j).next_generation;
        generation = (held.snapshots j).next;
        next = ap (λ n. original.wrapping_add n 1) (held.snapshots j).next;
      }

      go : (c : Bool) → ltb (length s.words) (length_of t) ≡ c → Left (store_to (cabinet_of y j) t)
      go true e =
          subst Left (sym (store_full t (root_of fnv es) (table-holds t es built) s.words s.snapshot (ltb-true (length s.words) (length_of t) e))) unchanged
      go false e =
          subst Left (sym (store-fits t (root_of fnv es) (table-holds t es built) s.words s.snapshot (ltb-false (length s.words) (length_of t) e))) (
            (storing (w.snapshots j).next_generation, with_snapshot w j (original.store (w.snapshots j) table).1),
            refl,
            ([], ap ours.storing (sym (held.snapshots j).next)),
            stands std (seen_by k nothing) (suc m) y w (later std k m y w held) j es (record { snapshot = stored s.snapshot t; words = copied t s.words })
                (original.store (w.snapshots j) table).1 left,
          )

  -- ---- a clear

  pub clear_step : (i : ℕ) → Step std iter k m y w (j, clearing i) (clears i)
  clear_step i = (
    (cleared, with_cache w i (original.clear (w.caches i))),
    refl,
    ([], refl),
    stays std (seen_by k nothing) (suc m) (record { snapshots = y.snapshots; caches = replaced y.caches i our_clear }) (with_cache w i (original.clear (w.caches i))) j
        (with_caches std k m y w held nothing (replaced y.caches i our_clear) (with_cache w i (original.clear (w.caches i))).caches
        (λ x. sound x (eqb i x) refl) (λ q l n x. right q l n x (eqb i x))),
  )
    where
      our_clear : Kept
      our_clear = record { cache = clear (y.caches i).cache; area = (y.caches i).area }

      sound : (x : ℕ) (d : Bool) → eqb i x ≡ d
          → Sound (or (k.spoiled x) false) k.mixed k.stood (suc m) (pick d our_clear (y.caches x)) (pick d (original.clear (w.caches i)) (w.caches x))
      sound x true q =
          cleared-sound (k.spoiled i) k.mixed k.stood m (y.caches i).cache (y.caches i).area (w.caches i) (held.caches i)
          (or (k.spoiled x) false) (λ z. ap k.spoiled (eqb-true i x q) ∙ (or_false (k.spoiled x) false z).0)
      sound x false q = later_cache std k m y w held nothing x

      right : k.mixed ≡ false → (l : ℕ) → among l k.named ≡ true → (x : ℕ) (d : Bool)
          → Right (walked_by (held.entries l)) (stands_at y l) (pick d our_clear (y.caches x)) (pick d (original.clear (w.caches i)) (w.caches x))
      right q l n x true =
          cleared-right (k.spoiled i) k.mixed k.stood m (y.caches i).cache (y.caches i).area (w.caches i) (held.caches i) (walked_by (held.entries l)) (stands_at y l)
      right q l n x false = held.right q l n x

  -- ---- a match, and the verdict by one

  module _ (subject out : List ℕ) where
    abbrev list : List ℕ
    list = walked_by (held.entries j) subject

    abbrev top : ℕ
    top = peak eqb (map fnv (tokens subject)) (root_of fnv (held.entries j) ∷ [])

    -- no frontier outgrows 1,024
    pub low : top ≤ 1024
    low = omega (arith, hash_fork (map fnv (tokens subject)) (held.entries j) (held.snapshots j).accepted, (held.snapshots j).worst_case)

    abbrev done : outputs.Outcome
    done = match_in s.snapshot s.words subject out

    abbrev Then : ours.Reply → World → Type 0
    Then r = Together std (seen_by (stamps k j r) nothing) (suc m) (with_cabinet y j (cabinet_of y j))

    -- `say` reads an outcome, `give` is what it reads of an accepted one
    module _ (say : outputs.Outcome → ours.Reply) (give : List ℕ → ours.Reply)
        (turning : (n : ℕ) (values left : List ℕ) → say (outcome (answer (suc n) values) left) ≡ ours.refused (answer (suc n) values))
        (giving : (n : ℕ) (left : List ℕ) → say (outcome (answer 0 (n ∷ top ∷ s.snapshot.generation.0 ∷ [])) left) ≡ give (take n left)) where
      match_says : say done ≡ reply_of give (unless_text (grammar false subject) (fitting (length out) list))
      match_says =
          ap say (holds_match s.snapshot s.words (root_of fnv (held.entries j)) (held.snapshots j).holds subject out low) ∙ go (grammar false subject) (ltb (length out) (length list))
        where
          go : (o : Answer) (c : Bool)
              → say (if_parsed o out (pick c (outcome (answer 21 (length list ∷ [])) out) (outcome (answer 0 (length list ∷ top ∷ s.snapshot.generation.0 ∷ [])) (over list out))))
              ≡ reply_of give (unless_text o (pick c (turned_back (answer 21 (length list ∷ []))) (gives list)))
          go (answer (suc n) values) c = turning n values out
          go (answer zero values) true = turning 20 (length list ∷ []) out
          go (answer zero values) false = giving (length list) (over list out) ∙ ap give (take-append_seam list (drop (length list) out))

      match_step : (theirs : Outcome (Told × World)) (x : Told) (more : List ℕ) → theirs ≡ Ok (x, w) → give list ≡ told more x → added (give list) ≡ false → refusing (give list) ≡ false
          → stamps k j (give list) ≡ k → Compared true (say done) w (parsed (validate subject false) w theirs) (Then (say done))
      match_step theirs x more e q plainly calm none =
          subst (λ r. Compared true r w (parsed (validate subject false) w theirs) (Then r)) (sym match_says)
          (compared_handed true subject list (length out) give w theirs (λ h. Then (reply_of give h)) (λ r. unchanged) plainly calm
          (λ filled. ((x, w), e, (more, q), subst (λ t. Together std (seen_by t nothing) (suc m) (with_cabinet y j (cabinet_of y j)) w) (sym none) unchanged)))

    pub asking-step : Step std iter k m y w (j, asking subject out) (matches j subject)
    asking-step =
        match_step shown (λ l. ours.matched l (single_home l) top s.snapshot.generation.0) (λ n values left. refl) (λ n left. refl)
        (snapshot_match_into std (w.snapshots j) subject [] >>= (λ found. Ok (matched found.1 found.0, w)))
        (matched list (w.snapshots j).current.generation) (top ∷ []) (rw ((held.snapshots j).walks subject [])) (rw (verdict_same list, (held.snapshots j).generation)) refl refl refl

    pub asking-home-step : Step std iter k m y w (j, asking_home subject out) (homes j subject)
    unfolding resolve_single_home
    asking-home-step =
        match_step (λ o. home_as (judge_match o)) (λ l. ours.home (single_home l) (top ∷ s.snapshot.generation.0 ∷ [])) (λ n values left. refl) (λ n left. refl)
        (resolve-single-home std (w.snapshots j) subject >>= (λ verdict. Ok (home verdict, w)))
        (home (single-home list)) (top ∷ s.snapshot.generation.0 ∷ []) (rw ((held.snapshots j).walks subject [])) (rw (verdict_same list)) refl refl refl
