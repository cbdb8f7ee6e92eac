-- What a match with an output of one place says of its subject's verdict.
use Prim.Native.Nat.{ℕ, ◌≤◌}
use native.Mathlib.Omega.{arith}
use mathlib.Core.Path.{◌≡◌, refl, sym, ◌∙◌, ap}
use mathlib.Core.Bool.{Bool, true, false}
use mathlib.Core.List.{List, [], ◌∷◌}
use lib.Dec.{ltb}
use lib.ListN.{length, take, drop, length-append}
use lib.Seq.{take-append_seam, length-take-le}
use borrow.Author.Tests.{ltb-true}
use Rattle.std.proofs.Common.{Result, Ok, Err}
use Rattle.subject.specs.declared.SubjectError.{SubjectError}
use Rattle.subject_rules.specs.Choice.{pick}
use Rattle.subject_rules.specs.Answers.{Answer, answer}
use Rattle.subject_rules.specs.Outputs.{over, Outcome, outcome}
use Rattle.subject_rules.proofs.Depths.{number}
use Rattle.subject.specs.Answers.{refusal}
use Rattle.subject.proofs.Refusals.{refusal-number}
use Rattle.sublist_walk_rules.specs.Walk.{Walked, found, failed}
use Rattle.sublist_walk_rules.specs.Matching.{written}
use Rattle.sublist_snapshot.specs.declared.Snapshot.{Snapshot}
use Rattle.sublist_snapshot.specs.Snapshot.{stands_in, walk_of, with_generation, match_parsed_in}
use Rattle.sublist_snapshot.proofs.Fronts.{parsed_match}
use Rattle.sublist_snapshot.proofs.Standing.{match_walk}
use Rattle.binding.specs.declared.Resolution.{Resolution}
use Rattle.binding.specs.declared.Resolution.TheVariants.{Ambiguous}
use Rattle.binding.specs.Verdict.{single_home}
use Rattle.binding.proofs.Judging.{home_many}
use Rattle.whole_move.specs.declared.MoveError.{MoveError}
use Rattle.whole_move.specs.declared.MoveError.TheVariants.{Damaged}
use Rattle.whole_move.specs.Told.{Accepted, verdict_of}

-- an accepted subject, and counts that fit: a is what the match answers, by its walk
module _ (s : Snapshot) (area subject out after : List ℕ) (stands : stands_in s area ≡ true) (accepted : Accepted subject) (a : Answer)
    (e : outcome a after ≡ match_parsed_in s area subject out) where
  by_walk : outcome a after ≡ with_generation s.generation (written (walk_of s area subject) out)
  by_walk = e ∙ parsed_match s area subject out accepted.values accepted.says ∙ match_walk s area subject out ∙ rw (stands, accepted.says)

  -- the verdict is v
  abbrev pub Verdict : Walked → Resolution → Type 0
  Verdict w v = ◌≡◌ {A = Result Resolution MoveError} (Ok v) (verdict_of w)

  -- what it answers where the walk found a list
  abbrev finds : Bool → List ℕ → ℕ → Outcome
  finds b list peak = with_generation s.generation (pick b (outcome (answer 21 (length list ∷ [])) out) (outcome (answer 0 (length list ∷ peak ∷ [])) (over list out)))

  -- a list, which is at the start of the output
  module _ (count peak n : ℕ) (h : a ≡ answer 0 (count ∷ peak ∷ n ∷ [])) where
    listed : (count ≤ length after) × Verdict (walk_of s area subject) (single_home (take count after))
    listed = go (walk_of s area subject) (rw h at by_walk)
      where
        go : (w : Walked) → outcome (answer 0 (count ∷ peak ∷ n ∷ [])) after ≡ with_generation s.generation (written w out) → (count ≤ length after) × Verdict w (single_home (take count after))
        go (failed why) q = absurd (cc)
        go (found list p) q = ends (ltb (length out) (length list)) q
          where
            ends : (b : Bool) → outcome (answer 0 (count ∷ peak ∷ n ∷ [])) after ≡ finds b list p → (count ≤ length after) × Verdict (found list p) (single_home (take count after))
            ends true q = absurd (cc)
            ends false q =
                let counted : count ≡ length list = cc in
                let left : after ≡ over list out = cc in
                (rw (counted, left, length-append list (drop (length list) out)) (omega arith), rw (counted, left, take-append_seam list (drop (length list) out)))

    pub listed-count : count ≤ length after
    listed-count = listed.0

    pub listed-taken : count ≡ length (take count after)
    listed-taken = sym (length-take-le count after listed.0)

    pub judged-listed : Verdict (walk_of s area subject) (single_home (take count after))
    judged-listed = listed.1

  -- a list for which one place is too little counts by its length
  pub judged-short : (matched : ℕ) → a ≡ answer 21 (matched ∷ []) → length out ≡ 1 → Verdict (walk_of s area subject) (Ambiguous matched)
  judged-short matched h one = go (walk_of s area subject) (rw h at by_walk)
    where
      go : (w : Walked) → outcome (answer 21 (matched ∷ [])) after ≡ with_generation s.generation (written w out) → Verdict w (Ambiguous matched)
      go (failed why) q = absurd (cc)
      go (found list p) q = ends (ltb (length out) (length list)) refl q
        where
          ends : (b : Bool) → ltb (length out) (length list) ≡ b → outcome (answer 21 (matched ∷ [])) after ≡ finds b list p → Verdict (found list p) (Ambiguous matched)
          ends true k q =
              let counted : matched ≡ length list = cc in
              let more = ltb-true (length out) (length list) k in
              rw counted (ap Ok (home_many list (λ z. omega arith) (λ z. omega arith)))
          ends false k q = absurd (cc)

  -- neither 0 nor 21
  pub judged-down : 1 ≤ number a → number a ≤ 20 → Err Damaged ≡ verdict_of (walk_of s area subject)
  judged-down low high = go (walk_of s area subject) by_walk
    where
      go : (w : Walked) → outcome a after ≡ with_generation s.generation (written w out) → Err Damaged ≡ verdict_of w
      go (failed why) q = refl
      go (found list p) q = absurd (ends (ltb (length out) (length list)) q)
        where
          ends : (b : Bool) → outcome a after ≡ finds b list p → ⊥
          ends true q = let z : a ≡ answer 21 (length list ∷ []) = cc in omega (arith, ap number z)
          ends false q = let z : a ≡ answer 0 (length list ∷ p ∷ s.generation.0 ∷ []) = cc in omega (arith, ap number z)

-- 1 to 9, which no accepted subject gets
pub judged-invalid : (s : Snapshot) (area subject out after : List ℕ) → stands_in s area ≡ true → Accepted subject → (e : SubjectError)
    → outcome (refusal e) after ≡ match_parsed_in s area subject out → Err Damaged ≡ verdict_of (walk_of s area subject)
judged-invalid s area subject out after stands accepted e q =
    let n = refusal-number e in
    judged-down s area subject out after stands accepted (refusal e) q (rw n.2 (omega arith)) (rw n.2 (omega (arith, n.3)))

-- each way
pub ruleset judged = (listed-count, listed-taken, judged-listed, judged-short, judged-down, judged-invalid)
