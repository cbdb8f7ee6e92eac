-- A whole move of one subject agrees with the plain verdict, lent output enough.
use Prim.Native.Nat.{ℕ, zero, suc, ◌+◌, ◌≤◌}
use native.Mathlib.Omega.{arith}
use mathlib.Core.Path.{◌≡◌, refl, sym, ◌∙◌, ap}
use mathlib.Core.Bool.{Bool, true, false}
use mathlib.Core.List.{List, [], ◌∷◌}
use mathlib.Core.Option.{none}
use lib.Dec.{ltb}
use lib.ListN.{length, drop}
use lib.Seq.{take-append_seam}
use borrow.Author.Tests.{lt-ltb, le-ltb}
use Rattle.subject_rules.specs.Choice.{pick}
use Rattle.subject_rules.specs.Answers.{Answer, answer}
use Rattle.subject_rules.specs.Outputs.{over, outcome, if_parsed}
use Rattle.subject_rules.specs.Grammar.{grammar, first_of}
use Rattle.sublist_walk_rules.specs.Walk.{Walked, found, failed}
use Rattle.sublist_walk_rules.specs.Matching.{written as match_written}
use Rattle.sublist_snapshot.specs.declared.Generation.{Generation}
use Rattle.sublist_snapshot.specs.declared.Snapshot.{Snapshot}
use Rattle.sublist_snapshot.specs.Snapshot.{stands_in, walk_of, with_generation}
use Rattle.sublist_snapshot.proofs.Standing.{match_walk}
use Rattle.binding.specs.Verdict.{single_home, Judged, turned_down as refused, judged, judge_match, resolve_single_home}
use Rattle.whole_move_rules.specs.Move.{Span, text_at, bad_text, turned_down, targets, on_verdict, on_walk, Moved, left, written, unless_refused, whole_move}
use Rattle.whole_move_rules.specs.Asked.{as_one}
use Rattle.whole_move_rules.proofs.Numbers.{Low, grammar_low}

-- what the subject's text, the table's counts and the walk come to: for a plain verdict, and for a move of one
abbrev plain : Generation → List ℕ → Answer → Bool → Walked → Judged
plain g lent text fits w = judge_match (with_generation g (if_parsed text lent (pick fits (match_written w lent) (outcome (answer 19 []) lent))))

abbrev move_of : List ℕ → Answer → Bool → Walked → Moved
move_of out text fits w = unless_refused (first_of (bad_text 0 text) none) out (pick fits (written (on_walk 0 w (targets [])) out) (left (turned_down (answer 19 [])) out))

module _ (g : Generation) (lent out : List ℕ) (room : 1 ≤ length out) where
  verdict_agrees : (list values : List ℕ) → written (on_verdict 0 (single_home list) (targets [])) out ≡ as_one (judged (single_home list) values) out
  verdict_agrees [] values = refl
  verdict_agrees (t ∷ []) values = rw (le-ltb (length out) 1 room)
  verdict_agrees (t ∷ (u ∷ ts)) values = refl

  agrees : (text : Answer) (fits : Bool) (w : Walked) → Low text → ((values : List ℕ) → plain g lent text fits w ≡ refused (answer 21 values) → ⊥)
      → move_of out text fits w ≡ as_one (plain g lent text fits w) out
  agrees (answer (suc n) values) fits w low enough = rw (lt-ltb (suc n) 10 (omega arith))
  agrees (answer zero values) false w low enough = refl
  agrees (answer zero values) true (failed why) low enough = refl
  agrees (answer zero values) true (found list peak) low enough = go (ltb (length lent) (length list)) enough
    where
      go : (b : Bool)
          → ((vs : List ℕ) → judge_match (with_generation g (pick b (outcome (answer 21 (length list ∷ [])) lent) (outcome (answer 0 (length list ∷ peak ∷ [])) (over list lent)))) ≡ refused (answer 21 vs) → ⊥)
          → written (on_verdict 0 (single_home list) (targets [])) out
          ≡ as_one (judge_match (with_generation g (pick b (outcome (answer 21 (length list ∷ [])) lent) (outcome (answer 0 (length list ∷ peak ∷ [])) (over list lent))))) out
      go true not = absurd (not (length list ∷ []) refl)
      go false not =
          verdict_agrees list (peak ∷ g.0 ∷ [])
          ∙ ap (λ l. as_one (judged (single_home l) (peak ∷ g.0 ∷ [])) out) (sym (take-append_seam list (drop (length list) lent)))

module _ (s : Snapshot) (area bytes : List ℕ) (x : Span) (lent out : List ℕ) where
  one-is : x.start + x.length ≤ length bytes
      → whole_move s area bytes (x ∷ []) out ≡ move_of out (grammar false (text_at bytes x)) (stands_in s area) (walk_of s area (text_at bytes x))
  unfolding whole_move
  one-is inside = rw (le-ltb (length bytes) (x.start + x.length) inside)

  plain-is : (resolve_single_home s area (text_at bytes x) lent).says ≡ plain s.generation lent (grammar false (text_at bytes x)) (stands_in s area) (walk_of s area (text_at bytes x))
  unfolding resolve_single_home
  plain-is = ap judge_match (match_walk s area (text_at bytes x) lent)

  -- "For a list of one it agrees with the plain verdict lent output enough.": whatever the verdict or the refusal, but 21
  pub move_of_one : x.start + x.length ≤ length bytes → 1 ≤ length out
      → ((values : List ℕ) → (resolve_single_home s area (text_at bytes x) lent).says ≡ refused (answer 21 values) → ⊥)
      → whole_move s area bytes (x ∷ []) out ≡ as_one (resolve_single_home s area (text_at bytes x) lent).says out
  move_of_one inside room enough =
      one-is inside
      ∙ agrees s.generation lent out room (grammar false (text_at bytes x)) (stands_in s area) (walk_of s area (text_at bytes x)) (grammar_low false (text_at bytes x))
      (λ values e. enough values (plain-is ∙ e))
      ∙ ap (λ j. as_one j out) (sym plain-is)
