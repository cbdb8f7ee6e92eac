-- Whole moves among demand 3's calls: each answers by the standing table.
--
--   move-standing    a whole move of a table that stands is what is asked of the targets due, and nothing else would be
--   steps_right      so is each in any list of demand 3's calls and whole moves; those calls are answered as demanded
--   happened_right   the same of steps as they happened
use Prim.Native.Nat.{ℕ, ◌+◌, ◌<◌, ◌^◌}
use native.Mathlib.Omega.{arith}
use native.Mathlib.Nat.{zero-add}
use mathlib.Core.Path.{◌≡◌, refl, sym, ◌∙◌, ap, subst}
use mathlib.Core.Bool.{Bool, true}
use mathlib.Core.List.{List, [], ◌∷◌, ◌++◌, map, Memᴰ}
use Rattle.subject_rules.specs.Text.{tokens}
use Rattle.subject_rules.specs.Fnv.{fnv}
use Rattle.sublist_tree.specs.Lists.{concat, All}
use Rattle.sublist_tree.specs.Table.{TableEntry, root_of, literals}
use Rattle.sublist_walk_rules.specs.Walk.{found}
use Rattle.sublist_snapshot.specs.Snapshot.{Table, stands_in, walk_of}
use Rattle.sublist_snapshot.proofs.Standing.{holds_stands}
use Rattle.binding.specs.declared.Resolution.{Resolution}
use Rattle.binding.specs.declared.Resolution.TheVariants.{Routed}
use Rattle.binding.specs.Calls.{Call, asking, Cabinet, after}
use Rattle.binding.specs.Demand.{due, verdict_on, peak_due, Standing, start, standing_after, Right, Opened, Lent, stores_in, tokens_of, tokens_in, in_play, HashedApart, Premises}
use Rattle.binding.proofs.Tokens.{Within, within_all, all_left, all_right}
use Rattle.binding.proofs.Interleaving.{Stands, stands_walk, step, more, start_stands}
use Rattle.whole_move_rules.specs.Move.{Span, text_at, Moved, whole_move}
use Rattle.whole_move_rules.specs.Asked.{Sound, IsRouted, RoutedTo, Asked, too_large, own_refusal, no_table, damaged, stops, out_short, writes, ByWalk, Fails}
use Rattle.whole_move_rules.specs.Steps.{Step, call, move, MoveRight, EachRight, Event, called, moved, step_of, Happened, AllRight, calls_in}
use Rattle.whole_move_rules.proofs.Exactly.{move-asked, move-only}

-- what is asked by one table is asked by another that says the same of each subject
module _ (P : Span → Type 0) (bytes : List ℕ) (J K : List ℕ → Resolution → Type 0) (same : (x : Span) → P x → Sound bytes x → (v : Resolution) → J (text_at bytes x) v → K (text_at bytes x) v) where
  each_same : (xs : List Span) → All P xs → All (Sound bytes) xs → All (IsRouted J bytes) xs → All (IsRouted K bytes) xs
  each_same [] p s a = tt
  each_same (x ∷ xs) p s a = ((a.0.0, same x p.0 s.0 (Routed a.0.0) a.0.1), each_same xs p.1 s.1 a.1)

  targets-same : (xs : List Span) (ts : List ℕ) → All P xs → All (Sound bytes) xs → RoutedTo J bytes xs ts → RoutedTo K bytes xs ts
  targets-same [] [] p s r = tt
  targets-same [] (t ∷ ts) p s r = r
  targets-same (x ∷ xs) [] p s r = r
  targets-same (x ∷ xs) (t ∷ ts) p s r = (same x p.0 s.0 (Routed t) r.0, targets-same xs ts p.1 s.1 r.1)

  module _ (D E : List ℕ → Type 0) (break : (x : Span) → P x → Sound bytes x → D (text_at bytes x) → E (text_at bytes x)) (spans : List Span) (all : All P spans) where
    in_front : (Q : Span → Type 0) (front rest : List Span) (x : Span) → spans ≡ front ++ (x ∷ rest) → All Q spans → All Q front × All Q (x ∷ rest)
    in_front Q front rest x q a = let b = subst (All Q) q a in (all_left Q front (x ∷ rest) b, all_right Q front (x ∷ rest) b)

    asked-same : (c : Bool) (out : List ℕ) (m : Moved) → Asked c J D bytes spans out m → Asked c K E bytes spans out m
    asked-same c out m (too_large h e) = too_large h e
    asked-same c out m (own_refusal front rest x r few q a o e) = own_refusal front rest x r few q a o e
    asked-same c out m (no_table few a f e) = no_table few a f e
    asked-same c out m (damaged front rest x ready q a d e) =
        let p = in_front P front rest x q all in
        let s = in_front (Sound bytes) front rest x q ready.sound in
        damaged front rest x ready q (each_same front p.0 s.0 a) (break x p.1.0 s.1.0 d) e
    asked-same c out m (stops front rest x v ready q a j n e) =
        let p = in_front P front rest x q all in
        let s = in_front (Sound bytes) front rest x q ready.sound in
        stops front rest x v ready q (each_same front p.0 s.0 a) (same x p.1.0 s.1.0 v j) n e
    asked-same c out m (out_short ready a h e) = out_short ready (each_same spans all ready.sound a) h e
    asked-same c out m (writes ts ready r h e) = writes ts ready (targets-same spans ts all ready.sound r) h e

-- a walk finds one list, and does not fail where it finds one
found-list : (a b : List ℕ) (p q : ℕ) → found a p ≡ found b q → a ≡ b
found-list a b p q e = cc

module _ (pool : List (List ℕ)) (apart : HashedApart pool) where
  -- a subject's tokens are in play
  abbrev InPlay : List ℕ → Span → Type 0
  InPlay bytes x = Within pool (literals (tokens (text_at bytes x)))

  module _ (s : Standing) (b : Cabinet) (i : Stands pool s b) (bytes : List ℕ) where
    walk-due : (x : Span) → InPlay bytes x → Sound bytes x → walk_of b.snapshot b.words (text_at bytes x) ≡ found (due s.entries (text_at bytes x)) (peak_due s.entries (text_at bytes x))
    walk-due x w t = stands_walk pool apart s b i (text_at bytes x) t.values w t.accepted

    -- the verdict by a walk is that of the targets due, and no walk fails
    by_due : (x : Span) → InPlay bytes x → Sound bytes x → (v : Resolution) → ByWalk b.snapshot b.words (text_at bytes x) v → v ≡ verdict_on (due s.entries (text_at bytes x))
    by_due x w t v j = j.3 ∙ ap verdict_on (found-list _ _ _ _ (sym j.2 ∙ walk-due x w t))

    by_walk : (x : Span) → InPlay bytes x → Sound bytes x → (v : Resolution) → v ≡ verdict_on (due s.entries (text_at bytes x)) → ByWalk b.snapshot b.words (text_at bytes x) v
    by_walk x w t v e = (due s.entries (text_at bytes x), peak_due s.entries (text_at bytes x), walk-due x w t, e)

    never_fails : (x : Span) → InPlay bytes x → Sound bytes x → Fails b.snapshot b.words (text_at bytes x) → ⊥
    never_fails x w t f = let e = sym f.1 ∙ walk-due x w t in absurd (cc)

    fits : stands_in b.snapshot b.words ≡ true
    fits = holds_stands b.snapshot b.words (root_of fnv s.entries) i.holds

    -- a whole move of the standing table
    pub move-standing : (spans : List Span) (out : List ℕ) → All (InPlay bytes) spans
        → MoveRight s bytes spans out (whole_move b.snapshot b.words bytes spans out)
        × ((m : Moved) → MoveRight s bytes spans out m → m ≡ whole_move b.snapshot b.words bytes spans out)
    move-standing spans out w = (
      subst (λ c. Asked c (λ x v. v ≡ verdict_on (due s.entries x)) (λ x. ⊥) bytes spans out (whole_move b.snapshot b.words bytes spans out)) fits
          (asked-same (InPlay bytes) bytes (ByWalk b.snapshot b.words) (λ x v. v ≡ verdict_on (due s.entries x)) by_due
          (Fails b.snapshot b.words) (λ x. ⊥) never_fails spans w _ out _ (move-asked b.snapshot b.words bytes spans out)),
      λ m a. move-only b.snapshot b.words bytes spans out m
          (subst (λ c. Asked c (ByWalk b.snapshot b.words) (Fails b.snapshot b.words) bytes spans out m) (sym fits)
          (asked-same (InPlay bytes) bytes (λ x v. v ≡ verdict_on (due s.entries x)) (ByWalk b.snapshot b.words) by_walk
          (λ x. ⊥) (Fails b.snapshot b.words) (λ x p t f. absurd f) spans w true out m a)),
    )

  -- a whole move asks of the premises what matches of its subjects ask
  abbrev asks : List ℕ → List Span → List Call
  asks bytes spans = map (λ x. asking (text_at bytes x) []) spans

  all_in_play : (bytes : List ℕ) (spans : List Span) (calls : List Call) → Within pool (concat (map tokens_in (asks bytes spans ++ calls)))
      → All (InPlay bytes) spans × Within pool (concat (map tokens_in calls))
  all_in_play bytes [] calls w = (tt, w)
  all_in_play bytes (x ∷ spans) calls w =
      let here = literals (tokens (text_at bytes x)) in
      let later = concat (map tokens_in (asks bytes spans ++ calls)) in
      let r = all_in_play bytes spans calls (all_right (λ u. Memᴰ u pool) here later w) in
      ((all_left (λ u. Memᴰ u pool) here later w, r.0), r.1)

  no_store : (bytes : List ℕ) (spans : List Span) (calls : List Call) → stores_in (asks bytes spans ++ calls) ≡ stores_in calls
  no_store bytes [] calls = refl
  no_store bytes (x ∷ spans) calls = zero-add (stores_in (asks bytes spans ++ calls)) ∙ no_store bytes spans calls

  -- every list of steps
  each_right : (s : Standing) (b : Cabinet) (steps : List Step) → Stands pool s b → All Lent (calls_in steps) → Within pool (concat (map tokens_in (calls_in steps)))
      → s.stores + stores_in (calls_in steps) < 2 ^ 64 → EachRight s b steps
  each_right s b [] i lent w few = tt
  each_right s b (call c ∷ steps) i lent w few =
      let now = step pool apart s b c i lent.0 (all_left (λ u. Memᴰ u pool) (tokens_in c) (concat (map tokens_in (calls_in steps))) w) (omega arith) in (
        now.0,
        each_right (standing_after s c) (after b c) steps now.1 lent.1
            (all_right (λ u. Memᴰ u pool) (tokens_in c) (concat (map tokens_in (calls_in steps))) w) (omega (arith, more pool apart s c)),
      )
  each_right s b (move bytes spans out ∷ steps) i lent w few =
      let r = all_in_play bytes spans (calls_in steps) w in (
        (move-standing s b i bytes spans out r.0).0,
        each_right s b steps i (all_right Lent (asks bytes spans) (calls_in steps) lent) r.1 (omega (arith, no_store bytes spans (calls_in steps))),
      )

-- demand 3 with whole moves
pub steps_right : (t : Table) (es : List TableEntry) (steps : List Step) → Premises t es (calls_in steps) → (area : List ℕ) (b : Cabinet) → Opened t area b
    → EachRight (start es area) b steps
steps_right t es steps p area b o =
    let calls = calls_in steps in
    let pool = in_play es calls in
    each_right pool p.apart (start es area) b steps (start_stands t es calls p area b o) p.lent
    (all_right (λ u. Memᴰ u pool) (tokens_of es) (concat (map tokens_in calls)) (within_all pool pool (λ u m. m))) (omega (arith, p.few))

-- steps whose answers and leavings are those of the definitions, which is all that the contracts say, are answered right
all_right_of : (s : Standing) (b : Cabinet) (events : List Event) → Happened b events → EachRight s b (map step_of events) → AllRight s events
all_right_of s b [] h e = tt
all_right_of s b (called c r then' ∷ events) h e = (
  subst (Right s c) (sym h.0) e.0,
  all_right_of (standing_after s c) then' events h.2 (subst (λ d. EachRight (standing_after s c) d (map step_of events)) (sym h.1) e.1),
)
all_right_of s b (moved bytes spans out m ∷ events) h e = (
  subst (MoveRight s bytes spans out) (sym h.0) e.0,
  all_right_of s b events h.1 e.1,
)

-- demand 3 with whole moves, of steps as they happened
pub happened_right : (t : Table) (es : List TableEntry) (area : List ℕ) (b : Cabinet) (events : List Event)
    → Premises t es (calls_in (map step_of events)) → Opened t area b → Happened b events → AllRight (start es area) events
happened_right t es area b events p o h = all_right_of (start es area) b events h (steps_right t es (map step_of events) p area b o)
