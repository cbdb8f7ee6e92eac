-- Rows of ours: 2026-05's sentences on small tables, with its numbers written out; and steps of every kind.
use Rattle.std.specs.Prelude.{ℕ, zero, suc, ◌-◌, ◌^◌, ◌≡◌, List, [], ◌∷◌, ◌++◌, map, replicate}
use Prim.Native.Char.{code}
use Rattle.subject_rules.specs.Answers.{answer}
use Rattle.sublist_tree.specs.Lists.{put}
use Rattle.sublist_tree.specs.Timetable.{bytes, entry}
use Rattle.sublist_snapshot.specs.declared.Snapshot.{Snapshot}
use Rattle.sublist_snapshot.specs.Snapshot.{Table, first, copied}
use Rattle.sublist_snapshot.specs.Rows.{snapshot}
use Rattle.binding.specs.declared.Resolution.TheVariants.{NoStream, Ambiguous}
use Rattle.binding.specs.Timetable.{table_of, words_for, every_call}
use Rattle.whole_move_rules.specs.Move.{spans_in, MoveSays, routed, stopped, turned_down, left, whole_move}
use Rattle.whole_move_rules.specs.Steps.{Step, call, move}

-- a 7, b.* 8, c 1, c 2: `a` and `b.x` are Routed, to 7 and 8, two lines match `c`, and none matches `d`
abbrev pub few_lines : Table
few_lines = table_of 5 (entry "a" 7 ∷ entry "b.*" 8 ∷ entry "c" 1 ∷ entry "c" 2 ∷ []) 0

-- the lent text, and where the subjects lie in it
abbrev pub text : List ℕ
text = bytes "a b.x c d *"

abbrev pub a : List ℕ
a = 0 ∷ 1 ∷ []

abbrev pub b·x : List ℕ
b·x = 2 ∷ 3 ∷ []

abbrev pub c : List ℕ
c = 6 ∷ 1 ∷ []

abbrev pub d : List ℕ
d = 8 ∷ 1 ∷ []

abbrev pub star : List ℕ
star = 10 ∷ 1 ∷ []

-- behind the end by one byte; of no bytes, at the end
abbrev pub beyond : List ℕ
beyond = 10 ∷ 2 ∷ []

abbrev pub nothing : List ℕ
nothing = 11 ∷ 0 ∷ []

-- so many times the same
abbrev pub times : ℕ → List ℕ → List ℕ
times zero span = []
times (suc n) span = span ++ times n span

-- the words of a table of `a` 7 with one wrong: node 1, to which `a` leads, has 9 targets
abbrev pub broken : List ℕ
broken = put (copied (table_of 2 (entry "a" 7 ∷ []) 0) (replicate 33 0)) 21 (9 ∷ [])

-- the kinds of row
pub data Row : Type 0 where
  -- on the few lines: the spans and the lent output; the answer, and the output then
  as_move : (spans out : List ℕ) (says : MoveSays) (then' : List ℕ) → Row
  -- on any snapshot and area, where the output of one place is as it was
  as_lent : (s : Snapshot) (area spans : List ℕ) (says : MoveSays) → Row

abbrev pub Holds : Row → Type 0
Holds (as_move spans out says then') =
    whole_move (first few_lines) (copied few_lines (words_for few_lines)) text (spans_in spans) out ≡ left says then'
Holds (as_lent s area spans says) = whole_move s area text (spans_in spans) (5 ∷ []) ≡ left says (5 ∷ [])

unfoldable pub rows : List Row
rows =
    -- "writes each one's Routed target in list order"; words behind them stay, and a number left over counts for none
    as_move (a ++ b·x ++ a) (5 ∷ 5 ∷ 5 ∷ 5 ∷ []) (routed 3) (7 ∷ 8 ∷ 7 ∷ 5 ∷ [])
    ∷ as_move (b·x ++ (0 ∷ [])) (5 ∷ 5 ∷ []) (routed 1) (8 ∷ 5 ∷ [])
    ∷ as_move [] (5 ∷ []) (routed 0) (5 ∷ [])
    -- "or names the first that is not Routed and its verdict", and "no target is written"
    ∷ as_move (a ++ d ++ c) (5 ∷ 5 ∷ 5 ∷ []) (stopped 1 NoStream) (5 ∷ 5 ∷ 5 ∷ [])
    ∷ as_move (a ++ c ++ d) (5 ∷ 5 ∷ 5 ∷ []) (stopped 1 (Ambiguous 2)) (5 ∷ 5 ∷ 5 ∷ [])
    -- "A subject's own refusal carries its place in the list, and the earliest such subject decides before any
    -- verdict."
    ∷ as_move (d ++ a ++ star ++ nothing) (5 ∷ []) (turned_down (answer 7 (2 ∷ code "*" ∷ 0 ∷ []))) (5 ∷ [])
    ∷ as_move (nothing ++ star) (5 ∷ []) (turned_down (answer 3 (0 ∷ []))) (5 ∷ [])
    -- "A subject lying outside the lent bytes is BadEntry with its place, at its turn."
    ∷ as_move (a ++ beyond ++ star) (5 ∷ []) (turned_down (answer 12 (1 ∷ []))) (5 ∷ [])
    ∷ as_move (a ++ star ++ beyond) (5 ∷ []) (turned_down (answer 7 (1 ∷ code "*" ∷ 0 ∷ []))) (5 ∷ [])
    ∷ as_move ((2 ^ 64 - 1) ∷ 2 ∷ []) (5 ∷ []) (turned_down (answer 12 (0 ∷ []))) (5 ∷ [])
    -- "An output too short for all targets is refusal 21, after the verdicts."
    ∷ as_move (a ++ b·x) (5 ∷ []) (turned_down (answer 21 (2 ∷ []))) (5 ∷ [])
    ∷ as_move (a ++ d) [] (stopped 1 NoStream) []
    -- "22 SetTooLarge, over 64 subjects, before any is parsed."
    ∷ as_move (times 64 a) (replicate 64 5) (routed 64) (replicate 64 7)
    ∷ as_move (times 64 a ++ (0 ∷ [])) (replicate 63 5) (turned_down (answer 21 (64 ∷ []))) (replicate 63 5)
    ∷ as_move (times 65 a) (replicate 65 5) (turned_down (answer 22 [])) (replicate 65 5)
    ∷ as_lent (snapshot 0 0 0 1) [] (times 65 beyond) (turned_down (answer 22 []))
    -- 19 on the counts: behind a subject's own refusal, before any verdict, and of an empty list too
    ∷ as_lent (snapshot 0 0 0 1) [] star (turned_down (answer 7 (0 ∷ code "*" ∷ 0 ∷ [])))
    ∷ as_lent (snapshot 2 1 0 1) (replicate 32 0) d (turned_down (answer 19 []))
    ∷ as_lent (snapshot 0 0 0 1) [] [] (turned_down (answer 19 []))
    -- 19 in a walk, without a place; "no subject after it is walked"
    ∷ as_lent (snapshot 2 1 0 1) broken (a ++ d) (turned_down (answer 19 []))
    ∷ as_lent (snapshot 2 1 0 1) broken (d ++ a) (stopped 0 NoStream)
    ∷ []

-- a whole move on 01's five entries, demand 3's calls of every kind with a store among them, and a whole move on what
-- was stored
abbrev pub every_step : List Step
every_step =
    move (bytes "z") (spans_in (0 ∷ 1 ∷ [])) (0 ∷ []) ∷ map call every_call
    ++ (move (bytes "c.a") (spans_in (0 ∷ 1 ∷ 0 ∷ 3 ∷ [])) (0 ∷ 0 ∷ []) ∷ [])
