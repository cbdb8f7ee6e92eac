-- What 2026-05 asks, sentence by sentence, of any answer and output: nothing here says how the subjects are gone
-- through.
use Rattle.std.specs.Prelude.{ℕ, suc, ◌+◌, ◌≤◌, ◌<◌, ◌≡◌, Bool, true, false, List, [], ◌∷◌, ◌++◌, ltb, length, drop}
use Rattle.subject_rules.specs.Choice.{pick}
use Rattle.subject_rules.specs.Answers.{Answer, answer}
use Rattle.subject_rules.specs.Grammar.{grammar}
use Rattle.sublist_tree.specs.Lists.{All}
use Rattle.sublist_walk_rules.specs.declared.Failure.{Failure}
use Rattle.sublist_walk_rules.specs.Walk.{found, failed}
use Rattle.sublist_snapshot.specs.declared.Snapshot.{Snapshot}
use Rattle.sublist_snapshot.specs.Snapshot.{stands_in, walk_of}
use Rattle.binding.specs.declared.Resolution.{Resolution}
use Rattle.binding.specs.declared.Resolution.TheVariants.{Routed, NoStream, Ambiguous}
use Rattle.binding.specs.Verdict.{Judged, turned_down as refused, judged}
use Rattle.binding.specs.Demand.{verdict_on}
use Rattle.whole_move_rules.specs.Move.{Span, text_at, with_place, routed, stopped, turned_down, Moved, left}

-- a subject lies in the lent bytes, and the grammar accepts it
pub record Sound (bytes : List ℕ) (x : Span) : Type 0 where
  pub inside : x.start + x.length ≤ length bytes
  pub values : List ℕ
  pub accepted : grammar false (text_at bytes x) ≡ answer 0 values

-- a subject's own refusal
pub data OwnRefusal (bytes : List ℕ) (x : Span) (place : ℕ) (r : Answer) : Type 0 where
  -- "A subject lying outside the lent bytes is BadEntry with its place, at its turn."
  outside : length bytes < x.start + x.length → r ≡ answer 12 (place ∷ []) → OwnRefusal bytes x place r
  -- "A subject's own refusal carries its place in the list"
  text_refused : (n : ℕ) (values : List ℕ) → x.start + x.length ≤ length bytes
      → grammar false (text_at bytes x) ≡ answer (suc n) values → r ≡ answer (suc n) (place ∷ values)
      → OwnRefusal bytes x place r

-- a subject is Routed, where `Verdict` says which verdict a subject has
abbrev pub IsRouted : (List ℕ → Resolution → Type 0) → List ℕ → Span → Type 0
IsRouted Verdict bytes x = (t : ℕ) × Verdict (text_at bytes x) (Routed t)

-- the targets of Routed subjects, in list order
abbrev pub RoutedTo : (List ℕ → Resolution → Type 0) → List ℕ → List Span → List ℕ → Type 0
RoutedTo Verdict bytes [] [] = Unit {0}
RoutedTo Verdict bytes [] (t ∷ ts) = ⊥
RoutedTo Verdict bytes (x ∷ xs) [] = ⊥
RoutedTo Verdict bytes (x ∷ xs) (t ∷ ts) = Verdict (text_at bytes x) (Routed t) × RoutedTo Verdict bytes xs ts

-- what comes before any verdict; `counts` is whether the table's counts fit its area
pub record Ready (counts : Bool) (bytes : List ℕ) (spans : List Span) : Type 0 where
  pub few : length spans ≤ 64
  pub sound : All (Sound bytes) spans
  pub fits : counts ≡ true

-- an answer and the output afterwards, where `out` was lent; `Damage` says that a subject's walk is refused with 19
pub data Asked (counts : Bool) (Verdict : List ℕ → Resolution → Type 0) (Damage : List ℕ → Type 0)
    (bytes : List ℕ) (spans : List Span) (out : List ℕ) (m : Moved) : Type 0 where
  -- "22 SetTooLarge, over 64 subjects, before any is parsed."
  too_large : 64 < length spans → m ≡ left (turned_down (answer 22 [])) out
      → Asked counts Verdict Damage bytes spans out m
  -- "the earliest such subject decides before any verdict"
  own_refusal : (front rest : List Span) (x : Span) (r : Answer) → length spans ≤ 64 → spans ≡ front ++ (x ∷ rest)
      → All (Sound bytes) front → OwnRefusal bytes x (length front) r → m ≡ left (turned_down r) out
      → Asked counts Verdict Damage bytes spans out m
  -- 19 on the counts, of an empty list too
  no_table : length spans ≤ 64 → All (Sound bytes) spans → counts ≡ false → m ≡ left (turned_down (answer 19 [])) out
      → Asked counts Verdict Damage bytes spans out m
  -- 19 in a walk, if every subject before is Routed
  damaged : (front rest : List Span) (x : Span) → Ready counts bytes spans → spans ≡ front ++ (x ∷ rest)
      → All (IsRouted Verdict bytes) front → Damage (text_at bytes x) → m ≡ left (turned_down (answer 19 [])) out
      → Asked counts Verdict Damage bytes spans out m
  -- "or names the first that is not Routed and its verdict. In the second case no target is written, and no subject
  -- after it is walked.": nothing is asked of those in `rest` but that they are sound
  stops : (front rest : List Span) (x : Span) (v : Resolution) → Ready counts bytes spans
      → spans ≡ front ++ (x ∷ rest) → All (IsRouted Verdict bytes) front
      → Verdict (text_at bytes x) v → ((t : ℕ) → v ≡ Routed t → ⊥) → m ≡ left (stopped (length front) v) out
      → Asked counts Verdict Damage bytes spans out m
  -- "An output too short for all targets is refusal 21, after the verdicts.", with the number of subjects
  out_short : Ready counts bytes spans → All (IsRouted Verdict bytes) spans → length out < length spans
      → m ≡ left (turned_down (answer 21 (length spans ∷ []))) out → Asked counts Verdict Damage bytes spans out m
  -- "the call either writes each one's Routed target in list order"
  writes : (ts : List ℕ) → Ready counts bytes spans → RoutedTo Verdict bytes spans ts → length spans ≤ length out
      → m ≡ left (routed (length spans)) (ts ++ drop (length ts) out) → Asked counts Verdict Damage bytes spans out m

-- "all from the standing table": the verdict on the list that a walk of it finds, if it finds one
abbrev pub ByWalk : Snapshot → List ℕ → List ℕ → Resolution → Type 0
ByWalk s area subject v =
    (list : List ℕ) × (peak : ℕ) × (walk_of s area subject ≡ found list peak) × (v ≡ verdict_on list)

abbrev pub Fails : Snapshot → List ℕ → List ℕ → Type 0
Fails s area subject = (why : Failure) × (walk_of s area subject ≡ failed why)

abbrev pub MoveAsked : Snapshot → List ℕ → List ℕ → List Span → List ℕ → Moved → Type 0
MoveAsked s area bytes spans out m = Asked (stands_in s area) (ByWalk s area) (Fails s area) bytes spans out m

-- "For a list of one it agrees with the plain verdict lent output enough.": what a plain verdict makes of a move of one
-- subject with an output. Of its refusals, 1 to 9 carry the place
abbrev pub as_one : Judged → List ℕ → Moved
as_one (judged (Routed t) values) out = left (routed 1) (t ∷ drop 1 out)
as_one (judged NoStream values) out = left (stopped 0 NoStream) out
as_one (judged (Ambiguous n) values) out = left (stopped 0 (Ambiguous n)) out
as_one (refused (answer number values)) out =
    left (turned_down (pick (ltb number 10) (with_place 0 (answer number values)) (answer number values))) out
