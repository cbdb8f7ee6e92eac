-- A match through the snapshot reads the two parts of its area: the words of the standing table's nodes and its targets, as far as the area goes.
use Rattle.std.proofs.Common.{◌≡◌, ℕ, zero, suc, false, List, [], ◌∷◌, Result, Ok, Err, sym, refl, ap, ◌∙◌}
use Rattle.subject.specs.declared.SubjectError.{SubjectError}
use Rattle.subject_rules.specs.Answers.{Answer, answer, when_accepted}
use Rattle.subject.specs.Answers.{refusal, parsed}
use Rattle.subject_rules.specs.Grammar.{grammar}
use Rattle.subject.proofs.Refusals.{refused_stands}
use Rattle.sublist_walk.specs.declared.TableMatch.{TableMatch}
use Rattle.sublist_walk.specs.declared.MatchError.{MatchError}
use Rattle.sublist_walk.specs.declared.MatchError.TheVariants.{Invalid, Damaged, OutShort}
use Rattle.sublist_walk.proofs.Writing.{parsed-same, table_refused}
use Rattle.subject_rules.specs.Outputs.{outcome}
use Rattle.sublist_walk_rules.specs.Matching.{match_parsed}
use Rattle.sublist_walk.specs.Answers.{match_refusal, match_answer}
use Rattle.sublist_snapshot.specs.declared.Generation.{Generation}
use Rattle.sublist_snapshot.specs.declared.Snapshot.{Snapshot}
use Rattle.sublist_snapshot.specs.Snapshot.{nodes_in, targets_in, with_generation, match_in, match_parsed_in}

-- a refusal gains no generation
stays : (g : Generation) (y : Answer) (out : List ℕ) → ((after : Answer) → y ≡ when_accepted y after) → with_generation g (outcome y out) ≡ outcome y out
stays g (answer zero values) out h = let e = h (answer 1 []) in absurd (cc)
stays g (answer (suc k) values) out h = refl

refusal_stays : (g : Generation) (e : MatchError) (out : List ℕ) → with_generation g (outcome (match_refusal e) out) ≡ outcome (match_refusal e) out
refusal_stays g (Invalid e) out = stays g (refusal e) out (λ after. refused_stands (Err e) e after refl)
refusal_stays g Damaged out = refl
refusal_stays g (OutShort needed) out = refl

-- what a match of the standing table, by its counts and its two parts, answers with the generation
module _ (s : Snapshot) (area subject out left : List ℕ) (n m : ℕ) (nodes targets : List ℕ) (r : Result TableMatch MatchError)
    (parts : (n ≡ s.nodes) × (m ≡ s.targets) × (nodes ≡ nodes_in s.nodes area) × (targets ≡ targets_in s.nodes s.targets area))
    (e : outcome (match_answer r) left ≡ match_parsed n m nodes targets subject out) where
  through : with_generation s.generation (outcome (match_answer r) left) ≡ match_parsed_in s area subject out
  unfolding match_parsed_in
  through = ap (with_generation s.generation) (rw (parts.0, parts.1, parts.2, parts.3) at e)

  pub through_found : (m : TableMatch) → r ≡ Ok m → outcome (answer 0 (m.count ∷ m.peak ∷ s.generation.0 ∷ [])) left ≡ match_parsed_in s area subject out
  through_found m q = rw q at through

  pub through_refused : (why : MatchError) → r ≡ Err why → outcome (match_refusal why) left ≡ match_parsed_in s area subject out
  through_refused why q = sym (refusal_stays s.generation why left) ∙ (rw q at through)

-- for an accepted subject it is the match
pub parsed_match : (s : Snapshot) (area subject out values : List ℕ) → grammar false subject ≡ answer 0 values
    → match_parsed_in s area subject out ≡ match_in s area subject out
unfolding match_in match_parsed_in
parsed_match s area subject out values e =
    ap (with_generation s.generation)
    (parsed-same s.nodes s.targets (nodes_in s.nodes area) (targets_in s.nodes s.targets area) subject out values e)

-- a match by the subject's parse
pub match_accepted : (s : Snapshot) (area subject out : List ℕ) (a : Answer) (left : List ℕ) → outcome a left ≡ match_parsed_in s area subject out
    → (n : ℕ) → answer 0 (n ∷ []) ≡ grammar false subject → outcome a left ≡ match_in s area subject out
match_accepted s area subject out a left e n p = e ∙ parsed_match s area subject out (n ∷ []) (sym p)

module _ (s : Snapshot) (area subject out : List ℕ) (text : Result ℕ SubjectError) (p : parsed text ≡ grammar false subject) where
  pub match_refused : (e : SubjectError) → text ≡ Err e → outcome (refusal e) out ≡ match_in s area subject out
  unfolding match_in
  match_refused e t =
      sym (refusal_stays s.generation (Invalid e) out)
      ∙ ap (with_generation s.generation)
      (table_refused s.nodes s.targets (nodes_in s.nodes area) (targets_in s.nodes s.targets area) subject out text p e t)

-- each way of a match
pub ruleset ways = (match_accepted, match_refused)
