-- A whole move is what 2026-05 asks, and nothing else would be.
--
--   move-asked    the definition gives what is asked
--   move-only     whatever is asked is what the definition gives
use Prim.Native.Nat.{ℕ, suc, ◌≤◌}
use native.Mathlib.Nat.{zero-add}
use mathlib.Core.Path.{◌≡◌, refl, sym, ◌∙◌, ap, subst}
use mathlib.Core.Logic.{◌⊎◌, inl, inr}
use mathlib.Core.Bool.{Bool, true, false}
use mathlib.Core.List.{List, [], ◌∷◌, ◌++◌, map}
use lib.Dec.{ltb}
use lib.ListN.{length}
use borrow.Author.Tests.{lt-ltb, le-ltb, ltb-true, ltb-false}
use Rattle.subject_rules.specs.Choice.{pick}
use Rattle.subject_rules.specs.Answers.{Answer, answer}
use Rattle.subject_rules.specs.Outputs.{over}
use Rattle.sublist_tree.specs.Lists.{All}
use Rattle.sublist_snapshot.specs.declared.Snapshot.{Snapshot}
use Rattle.sublist_snapshot.specs.Snapshot.{stands_in, walk_of}
use Rattle.binding.specs.declared.Resolution.{Resolution}
use Rattle.binding.specs.declared.Resolution.TheVariants.{Routed}
use Rattle.whole_move_rules.specs.Move.{Span, text_at, bad_subjects, routed, stopped, turned_down, Routes, targets, ended, routes, Moved, left, written, whole_move}
use Rattle.whole_move_rules.specs.Asked.{Sound, OwnRefusal, IsRouted, RoutedTo, Ready, too_large, own_refusal, no_table, damaged, stops, out_short, writes, ByWalk, Fails, MoveAsked}
use Rattle.whole_move_rules.proofs.Subjects.{earliest_refuses, Earliest, subjects_are}
use Rattle.whole_move_rules.proofs.Verdicts.{come_stop, come_broken, come_all, Comes, every, stop, break, comes}
use Rattle.whole_move_rules.proofs.Stages.{large_is, refused-is, damaged-is, walked-is}

-- as many targets as subjects
pub one_each : (Judges : List ℕ → Resolution → Type 0) (bytes : List ℕ) (xs : List Span) (ts : List ℕ) → RoutedTo Judges bytes xs ts → length ts ≡ length xs
one_each Judges bytes [] [] r = refl
one_each Judges bytes [] (t ∷ ts) r = absurd r
one_each Judges bytes (x ∷ xs) [] r = absurd r
one_each Judges bytes (x ∷ xs) (t ∷ ts) r = ap suc (one_each Judges bytes xs ts r.1)

-- each has one
pub each_routed : (Judges : List ℕ → Resolution → Type 0) (bytes : List ℕ) (xs : List Span) (ts : List ℕ) → RoutedTo Judges bytes xs ts → All (IsRouted Judges bytes) xs
each_routed Judges bytes [] ts r = tt
each_routed Judges bytes (x ∷ xs) [] r = absurd r
each_routed Judges bytes (x ∷ xs) (t ∷ ts) r = ((t, r.0), each_routed Judges bytes xs ts r.1)

pub targets_of : (Judges : List ℕ → Resolution → Type 0) (bytes : List ℕ) (xs : List Span) → All (IsRouted Judges bytes) xs → (ts : List ℕ) × RoutedTo Judges bytes xs ts
targets_of Judges bytes [] a = ([], tt)
targets_of Judges bytes (x ∷ xs) a = let r = targets_of Judges bytes xs a.1 in (a.0.0 ∷ r.0, (a.0.1, r.1))

module _ (s : Snapshot) (area bytes : List ℕ) (spans : List Span) (out : List ℕ) where
  earliest_is : length spans ≤ 64 → (front rest : List Span) (x : Span) (r : Answer) → spans ≡ front ++ (x ∷ rest) → All (Sound bytes) front → OwnRefusal bytes x (length front) r
      → whole_move s area bytes spans out ≡ left (turned_down r) out
  earliest_is few front rest x r q a o =
      refused-is s area bytes spans out few r (ap (bad_subjects bytes 0) q ∙ earliest_refuses bytes 0 front rest x r a (subst (λ p. OwnRefusal bytes x p r) (sym (zero-add (length front))) o))

  module _ (ready : Ready (stands_in s area) bytes spans) where
    routes-is : (r : Routes) → routes (walk_of s area) 0 (map (text_at bytes) spans) ≡ r → whole_move s area bytes spans out ≡ written r out
    routes-is r q = walked-is s area bytes spans out ready.few ready.sound ready.fits r q

    stop_is : (front rest : List Span) (x : Span) (v : Resolution) → spans ≡ front ++ (x ∷ rest) → All (IsRouted (ByWalk s area) bytes) front → ByWalk s area (text_at bytes x) v
        → ((t : ℕ) → v ≡ Routed t → ⊥) → whole_move s area bytes spans out ≡ left (stopped (length front) v) out
    stop_is front rest x v q a j n =
        routes-is (ended (stopped (length front) v))
        (ap (λ xs. routes (walk_of s area) 0 (map (text_at bytes) xs)) q ∙ come_stop (walk_of s area) bytes 0 front rest x v a j n ∙ ap (λ p. ended (stopped p v)) (zero-add (length front)))

    break_is : (front rest : List Span) (x : Span) → spans ≡ front ++ (x ∷ rest) → All (IsRouted (ByWalk s area) bytes) front → Fails s area (text_at bytes x)
        → whole_move s area bytes spans out ≡ left (turned_down (answer 19 [])) out
    break_is front rest x q a f =
        routes-is (ended (turned_down (answer 19 []))) (ap (λ xs. routes (walk_of s area) 0 (map (text_at bytes) xs)) q ∙ come_broken (walk_of s area) bytes 0 front rest x a f)

    module _ (ts : List ℕ) (r : RoutedTo (ByWalk s area) bytes spans ts) where
      all_is : whole_move s area bytes spans out
          ≡ pick (ltb (length out) (length spans)) (left (turned_down (answer 21 (length spans ∷ []))) out) (left (routed (length spans)) (over ts out))
      all_is =
          routes-is (targets ts) (come_all (walk_of s area) bytes 0 spans ts r)
          ∙ ap (λ n. pick (ltb (length out) n) (left (turned_down (answer 21 (n ∷ []))) out) (left (routed n) (over ts out))) (one_each (ByWalk s area) bytes spans ts r)

  -- whatever is asked is what the definition gives
  pub move-only : (m : Moved) → MoveAsked s area bytes spans out m → m ≡ whole_move s area bytes spans out
  move-only m (too_large h e) = e ∙ sym (large_is s area bytes spans out h)
  move-only m (own_refusal front rest x r few q a o e) = e ∙ sym (earliest_is few front rest x r q a o)
  move-only m (no_table few a c e) = e ∙ sym (damaged-is s area bytes spans out few a c)
  move-only m (damaged front rest x ready q a f e) = e ∙ sym (break_is ready front rest x q a f)
  move-only m (stops front rest x v ready q a j n e) = e ∙ sym (stop_is ready front rest x v q a j n)
  move-only m (out_short ready a h e) =
      let r = targets_of (ByWalk s area) bytes spans a in
      e ∙ sym (all_is ready r.0 r.1 ∙ rw (lt-ltb (length out) (length spans) h))
  move-only m (writes ts ready r h e) = e ∙ sym (all_is ready ts r ∙ rw (le-ltb (length out) (length spans) h))

  -- the definition gives what is asked
  pub move-asked : MoveAsked s area bytes spans out (whole_move s area bytes spans out)
  move-asked = large (ltb 64 (length spans)) refl
    where
      room : (ready : Ready (stands_in s area) bytes spans) (ts : List ℕ) → RoutedTo (ByWalk s area) bytes spans ts → (b : Bool) → ltb (length out) (length spans) ≡ b
          → MoveAsked s area bytes spans out (whole_move s area bytes spans out)
      room ready ts r true e = out_short ready (each_routed (ByWalk s area) bytes spans ts r) (ltb-true _ _ e) (all_is ready ts r ∙ rw e)
      room ready ts r false e = writes ts ready r (ltb-false _ _ e) (all_is ready ts r ∙ rw e)

      walked : Ready (stands_in s area) bytes spans → Comes (walk_of s area) bytes spans → MoveAsked s area bytes spans out (whole_move s area bytes spans out)
      walked ready (every ts r) = room ready ts r (ltb (length out) (length spans)) refl
      walked ready (stop front rest x v q a j n) = stops front rest x v ready q a j n (stop_is ready front rest x v q a j n)
      walked ready (break front rest x q a f) = damaged front rest x ready q a f (break_is ready front rest x q a f)

      counts : length spans ≤ 64 → All (Sound bytes) spans → (b : Bool) → stands_in s area ≡ b → MoveAsked s area bytes spans out (whole_move s area bytes spans out)
      counts few a true e = walked (record { few = few; sound = a; fits = e }) (comes (walk_of s area) bytes spans)
      counts few a false e = no_table few a e (damaged-is s area bytes spans out few a e)

      texts : length spans ≤ 64 → All (Sound bytes) spans ⊎ Earliest bytes 0 spans → MoveAsked s area bytes spans out (whole_move s area bytes spans out)
      texts few (inl a) = counts few a (stands_in s area) refl
      texts few (inr e) =
          let own : OwnRefusal bytes e.at (length e.front) e.refusal = subst (λ p. OwnRefusal bytes e.at p e.refusal) (zero-add (length e.front)) e.own in
          own_refusal e.front e.rest e.at e.refusal few e.split e.sound own (earliest_is few e.front e.rest e.at e.refusal e.split e.sound own)

      large : (b : Bool) → ltb 64 (length spans) ≡ b → MoveAsked s area bytes spans out (whole_move s area bytes spans out)
      large true e = let h = ltb-true 64 (length spans) e in too_large h (large_is s area bytes spans out h)
      large false e = texts (ltb-false 64 (length spans) e) (subjects_are bytes 0 spans)
