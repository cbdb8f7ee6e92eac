-- Whole moves among demand 3's calls, in any order.
use Rattle.std.specs.Prelude.{ℕ, ◌≡◌, true, List, [], ◌∷◌, map}
use Rattle.sublist_tree.specs.Lists.{concat}
use Rattle.binding.specs.Calls.{Call, asking, Reply, Cabinet, reply, after}
use Rattle.binding.specs.Demand.{due, verdict_on, Standing, standing_after, Right}
use Rattle.whole_move_rules.specs.Move.{Span, text_at, Moved, whole_move}
use Rattle.whole_move_rules.specs.Asked.{Asked}

pub data Step : Type 0 where
  -- one of demand 3's calls
  call : Call → Step
  -- a whole move: the bytes, the spans, the lent output
  move : List ℕ → List Span → List ℕ → Step

-- "all from the standing table": each subject's verdict is that of the targets due for it; no walk is refused, and no
-- count exceeds its area
abbrev pub MoveRight : Standing → List ℕ → List Span → List ℕ → Moved → Type 0
MoveRight s bytes spans out m = Asked true (λ x v. v ≡ verdict_on (due s.entries x)) (λ x. ⊥) bytes spans out m

-- each call takes the cabinet as the last one left it; "No cache is read or changed": a whole move is lent none, and
-- leaves the whole cabinet
abbrev pub EachRight : Standing → Cabinet → List Step → Type 0
EachRight s b [] = Unit {0}
EachRight s b (call c ∷ steps) = Right s c (reply b c) × EachRight (standing_after s c) (after b c) steps
EachRight s b (move bytes spans out ∷ steps) =
    MoveRight s bytes spans out (whole_move b.snapshot b.words bytes spans out) × EachRight s b steps

-- the same of steps as they happened: a call with its reply and the cabinet as it left it, a whole move with what it
-- said and left
pub data Event : Type 0 where
  called : Call → Reply → Cabinet → Event
  moved : List ℕ → List Span → List ℕ → Moved → Event

abbrev pub step_of : Event → Step
step_of (called c r then') = call c
step_of (moved bytes spans out m) = move bytes spans out

abbrev pub Happened : Cabinet → List Event → Type 0
Happened b [] = Unit {0}
Happened b (called c r then' ∷ events) = (r ≡ reply b c) × (then' ≡ after b c) × Happened then' events
Happened b (moved bytes spans out m ∷ events) =
    (m ≡ whole_move b.snapshot b.words bytes spans out) × Happened b events

abbrev pub AllRight : Standing → List Event → Type 0
AllRight s [] = Unit {0}
AllRight s (called c r then' ∷ events) = Right s c r × AllRight (standing_after s c) events
AllRight s (moved bytes spans out m ∷ events) = MoveRight s bytes spans out m × AllRight s events

-- demand 3's premises ask of a whole move what they ask of matches of its subjects: that their tokens hash apart
abbrev pub calls_of : Step → List Call
calls_of (call c) = c ∷ []
calls_of (move bytes spans out) = map (λ x. asking (text_at bytes x) []) spans

abbrev pub calls_in : List Step → List Call
calls_in steps = concat (map calls_of steps)
