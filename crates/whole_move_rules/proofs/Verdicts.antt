-- The verdicts in turn: every subject's target, or the first subject that is not Routed.
use Prim.Native.Nat.{ℕ, ◌+◌}
use native.Mathlib.Nat.{add-zero}
use mathlib.Core.Path.{◌≡◌, refl, sym, ◌∙◌, ap}
use mathlib.Core.List.{List, [], ◌∷◌, ◌++◌, map}
use lib.ListN.{length}
use Rattle.subject_rules.specs.Answers.{answer}
use Rattle.sublist_tree.specs.Lists.{All}
use Rattle.sublist_walk_rules.specs.declared.Failure.{Failure}
use Rattle.sublist_walk_rules.specs.Walk.{Walked, found, failed}
use Rattle.binding.specs.declared.Resolution.{Resolution}
use Rattle.binding.specs.declared.Resolution.TheVariants.{Routed, NoStream, Ambiguous}
use Rattle.binding.specs.Demand.{verdict_on}
use Rattle.binding.proofs.Interleaving.{verdict_is}
use Rattle.whole_move_rules.specs.Move.{Span, text_at, stopped, turned_down, Routes, targets, ended, before, on_verdict, on_walk, routes}
use Rattle.whole_move_rules.specs.Asked.{IsRouted, RoutedTo}
use Rattle.whole_move_rules.proofs.Subjects.{one_on}

-- a verdict that is not Routed ends the move
stop_at : (place : ℕ) (v : Resolution) (behind : Routes) → ((t : ℕ) → v ≡ Routed t → ⊥) → on_verdict place v behind ≡ ended (stopped place v)
stop_at place (Routed t) behind h = absurd (h t refl)
stop_at place NoStream behind h = refl
stop_at place (Ambiguous n) behind h = refl

module _ (walk : List ℕ → Walked) (bytes : List ℕ) where
  -- the verdict on the list that the walk finds; or that it fails
  abbrev Judges : List ℕ → Resolution → Type 0
  Judges subject v = (list : List ℕ) × (peak : ℕ) × (walk subject ≡ found list peak) × (v ≡ verdict_on list)

  abbrev Breaks : List ℕ → Type 0
  Breaks subject = (why : Failure) × (walk subject ≡ failed why)

  -- one subject
  judged-at : (place : ℕ) (subject : List ℕ) (v : Resolution) (behind : Routes) → Judges subject v → on_walk place (walk subject) behind ≡ on_verdict place v behind
  judged-at place subject v behind j = rw (j.2, j.3, ← verdict_is j.0)

  broken-at : (place : ℕ) (subject : List ℕ) (behind : Routes) → Breaks subject → on_walk place (walk subject) behind ≡ ended (turned_down (answer 19 []))
  broken-at place subject behind f = rw f.1

  -- subjects in turn
  abbrev come : ℕ → List Span → Routes
  come place xs = routes walk place (map (text_at bytes) xs)

  pub come_stop : (place : ℕ) (front rest : List Span) (x : Span) (v : Resolution) → All (IsRouted Judges bytes) front → Judges (text_at bytes x) v → ((t : ℕ) → v ≡ Routed t → ⊥)
      → come place (front ++ (x ∷ rest)) ≡ ended (stopped (place + length front) v)
  come_stop place [] rest x v a j n = judged-at place (text_at bytes x) v (come (place + 1) rest) j ∙ stop_at place v (come (place + 1) rest) n ∙ ap (λ p. ended (stopped p v)) (sym (add-zero place))
  come_stop place (y ∷ front) rest x v a j n =
      judged-at place (text_at bytes y) (Routed a.0.0) (come (place + 1) (front ++ (x ∷ rest))) a.0.1
      ∙ ap (before a.0.0) (come_stop (place + 1) front rest x v a.1 j n ∙ ap (λ p. ended (stopped p v)) (one_on place (length front)))

  pub come_broken : (place : ℕ) (front rest : List Span) (x : Span) → All (IsRouted Judges bytes) front → Breaks (text_at bytes x)
      → come place (front ++ (x ∷ rest)) ≡ ended (turned_down (answer 19 []))
  come_broken place [] rest x a f = broken-at place (text_at bytes x) (come (place + 1) rest) f
  come_broken place (y ∷ front) rest x a f =
      judged-at place (text_at bytes y) (Routed a.0.0) (come (place + 1) (front ++ (x ∷ rest))) a.0.1
      ∙ ap (before a.0.0) (come_broken (place + 1) front rest x a.1 f)

  pub come_all : (place : ℕ) (xs : List Span) (ts : List ℕ) → RoutedTo Judges bytes xs ts → come place xs ≡ targets ts
  come_all place [] [] r = refl
  come_all place [] (t ∷ ts) r = absurd r
  come_all place (x ∷ xs) [] r = absurd r
  come_all place (x ∷ xs) (t ∷ ts) r = judged-at place (text_at bytes x) (Routed t) (come (place + 1) xs) r.0 ∙ ap (before t) (come_all (place + 1) xs ts r.1)

  -- one of these it is
  pub data Comes (xs : List Span) : Type 0 where
    every : (ts : List ℕ) → RoutedTo Judges bytes xs ts → Comes xs
    stop : (front rest : List Span) (x : Span) (v : Resolution) → xs ≡ front ++ (x ∷ rest) → All (IsRouted Judges bytes) front → Judges (text_at bytes x) v → ((t : ℕ) → v ≡ Routed t → ⊥) → Comes xs
    break : (front rest : List Span) (x : Span) → xs ≡ front ++ (x ∷ rest) → All (IsRouted Judges bytes) front → Breaks (text_at bytes x) → Comes xs

  pub comes : (xs : List Span) → Comes xs
  comes [] = every [] tt
  comes (x ∷ xs) = go (walk (text_at bytes x)) refl (comes xs)
    where
      on : (t : ℕ) → Judges (text_at bytes x) (Routed t) → Comes xs → Comes (x ∷ xs)
      on t j (every ts r) = every (t ∷ ts) (j, r)
      on t j (stop front rest y v e a k n) = stop (x ∷ front) rest y v (ap (λ ys. x ∷ ys) e) ((t, j), a) k n
      on t j (break front rest y e a f) = break (x ∷ front) rest y (ap (λ ys. x ∷ ys) e) ((t, j), a) f

      by : (v : Resolution) → Judges (text_at bytes x) v → Comes xs → Comes (x ∷ xs)
      by (Routed t) j later = on t j later
      by NoStream j later = stop [] xs x NoStream refl tt j (λ t e. absurd (cc))
      by (Ambiguous n) j later = stop [] xs x (Ambiguous n) refl tt j (λ t e. absurd (cc))

      go : (w : Walked) → walk (text_at bytes x) ≡ w → Comes xs → Comes (x ∷ xs)
      go (failed why) e later = break [] xs x refl tt (why, e)
      go (found list peak) e later = by (verdict_on list) (list, peak, e, refl) later
