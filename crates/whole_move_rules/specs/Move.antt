-- Up to 64 subjects routed together by the standing table: what the call says, and what it leaves in the output.
-- In order: 22; subject by subject 12 or 1 to 9; 19 on the counts; subject by subject 19 of its walk or its verdict;
-- 21; then the targets are written.
use Rattle.std.specs.Prelude.{ℕ, zero, suc, ◌+◌, false, List, [], ◌∷◌, map, ltb, length, take, drop}
use Rattle.std.proofs.Math.Option.{Option, none, some}
use Rattle.subject_rules.specs.Choice.{pick}
use Rattle.subject_rules.specs.Answers.{Answer, answer}
use Rattle.subject_rules.specs.Outputs.{over}
use Rattle.subject_rules.specs.Grammar.{grammar, first_of}
use Rattle.sublist_walk_rules.specs.Walk.{Walked, found, failed}
use Rattle.sublist_snapshot.specs.declared.Snapshot.{Snapshot}
use Rattle.sublist_snapshot.specs.Snapshot.{stands_in, walk_of}
use Rattle.binding.specs.declared.Resolution.{Resolution}
use Rattle.binding.specs.declared.Resolution.TheVariants.{Routed, NoStream, Ambiguous}
use Rattle.binding.specs.Verdict.{single_home}

-- where a subject lies in the lent bytes
pub record Span : Type 0 where
  pub start : ℕ
  pub length : ℕ

-- the spans that numbers hold, start and length of each; a number left over counts for none
abbrev pub spans_in : List ℕ → List Span
spans_in [] = []
spans_in (start ∷ []) = []
spans_in (start ∷ (size ∷ numbers)) = record { start = start; length = size } ∷ spans_in numbers

-- the subject there
abbrev pub text_at : List ℕ → Span → List ℕ
text_at bytes s = take s.length (drop s.start bytes)

-- a refusal with the subject's place in the list, before its values
abbrev pub with_place : ℕ → Answer → Answer
with_place place (answer number values) = answer number (place ∷ values)

-- 1 to 9 of the subject at a place
abbrev pub bad_text : ℕ → Answer → Option Answer
bad_text place (answer zero values) = none
bad_text place (answer (suc n) values) = some (with_place place (answer (suc n) values))

-- 12 before them
abbrev pub bad_subject : List ℕ → ℕ → Span → Option Answer
bad_subject bytes place s =
    pick (ltb (length bytes) (s.start + s.length)) (some (answer 12 (place ∷ [])))
    (bad_text place (grammar false (text_at bytes s)))

-- the earliest such subject decides
abbrev pub bad_subjects : List ℕ → ℕ → List Span → Option Answer
bad_subjects bytes place [] = none
bad_subjects bytes place (s ∷ ss) = first_of (bad_subject bytes place s) (bad_subjects bytes (place + 1) ss)

-- every subject is Routed, so many; or the first that is not, by its place, and its verdict; or a refusal
pub data MoveSays : Type 0 where
  routed : ℕ → MoveSays
  stopped : ℕ → Resolution → MoveSays
  turned_down : Answer → MoveSays

-- what the verdicts come to: every subject's target, or what ends the move
pub data Routes : Type 0 where
  targets : List ℕ → Routes
  ended : MoveSays → Routes

-- one more target, before the others
abbrev pub before : ℕ → Routes → Routes
before t (targets ts) = targets (t ∷ ts)
before t (ended says) = ended says

-- the verdict at a place, and what comes of the subjects behind it: they count only if it is Routed
abbrev pub on_verdict : ℕ → Resolution → Routes → Routes
on_verdict place (Routed t) behind = before t behind
on_verdict place NoStream behind = ended (stopped place NoStream)
on_verdict place (Ambiguous n) behind = ended (stopped place (Ambiguous n))

abbrev pub on_walk : ℕ → Walked → Routes → Routes
on_walk place (failed why) behind = ended (turned_down (answer 19 []))
on_walk place (found list peak) behind = on_verdict place (single_home list) behind

-- the subjects in turn, the first of them at a place
abbrev pub routes : (List ℕ → Walked) → ℕ → List (List ℕ) → Routes
routes walk place [] = targets []
routes walk place (x ∷ xs) = on_walk place (walk x) (routes walk (place + 1) xs)

-- what the call says, and the output afterwards
pub record Moved : Type 0 where
  pub says : MoveSays
  pub out : List ℕ

abbrev pub left : MoveSays → List ℕ → Moved
left says out = record { says = says; out = out }

-- 21 with the number of subjects; then their targets are written over the first places
abbrev pub written : Routes → List ℕ → Moved
written (ended says) out = left says out
written (targets ts) out =
    pick (ltb (length out) (length ts)) (left (turned_down (answer 21 (length ts ∷ []))) out)
    (left (routed (length ts)) (over ts out))

-- a refusal, where there is one, stands before what comes after, and leaves the output
abbrev pub unless_refused : Option Answer → List ℕ → Moved → Moved
unless_refused none out after = after
unless_refused (some refused) out after = left (turned_down refused) out

-- `whole_move`
unfoldable pub whole_move : Snapshot → List ℕ → List ℕ → List Span → List ℕ → Moved
whole_move s area bytes spans out =
    pick (ltb 64 (length spans)) (left (turned_down (answer 22 [])) out)
    (unless_refused (bad_subjects bytes 0 spans) out
    (pick (stands_in s area) (written (routes (walk_of s area) 0 (map (text_at bytes) spans)) out)
    (left (turned_down (answer 19 [])) out)))
