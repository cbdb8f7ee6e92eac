-- Only private contracts cite this file. What the covered core of build answers and leaves, of the passes alone.
use Rattle.std.specs.Prelude.{ℕ, ◌+◌, ◌-◌, max, Bool, List, [], ◌∷◌, map, ltb, length, Result, Ok, Err}
use Rattle.std.proofs.Math.Option.{Option, none, some}
use Rattle.subject_rules.specs.Choice.{pick}
use Rattle.subject_rules.specs.Answers.{Answer, answer, unless}
use Rattle.sublist_tree.specs.Tree.{Line, line}
use Rattle.sublist_area_rules.specs.declared.Placed.{Placed}
use Rattle.sublist_area_rules.specs.declared.PlaceError.{PlaceError}
use Rattle.sublist_area_rules.specs.Words.{word}
use Rattle.sublist_area_rules.specs.Growing.{grown, planted}
use Rattle.sublist_entries.specs.declared.Entry.{Entry}
use Rattle.sublist_entries.specs.Entries.{target_word, lines_of}
use Rattle.sublist_rules.specs.Building.{bad_entries, needed, over_limit}
use Rattle.sublist_rules.specs.Leaving.{BuildOutcome}
use Rattle.sublist_rules.specs.Passes.{end, Growth, growth, stopped, lines_in}
use Rattle.sublist_rules.specs.Passes.{settled, Filling, filling, last_passes}

-- where a run of keys came, as the end of a line
abbrev pub reached : Result Placed PlaceError → List ℕ → Bool → Growth
reached (Ok p) a tail = growth p.count a (end p.node tail ∷ [])
reached (Err e) a tail = stopped a

-- a line's run of keys, from a node and a node count on; its end counts nothing yet
unfoldable pub run_in : Result Placed PlaceError × List ℕ → Line ℕ → Growth
run_in s (line ks tail target) = reached (grown s ks).0 (grown s ks).1 tail

-- the first pass, where there is room for the root
abbrev pub all_in : List Entry → List ℕ → List ℕ → Growth
all_in es store a = pick (ltb (length a) 16) (stopped a) (lines_in (growth 1 (planted a) []) (lines_of store es))

-- the root's worst case, from those of its children
abbrev pub root_worst : List ℕ → ℕ
root_worst a = max 1 (word a 0 4 + word a 0 6)

-- the targets, as words
abbrev pub targets_of : List Entry → List ℕ
targets_of es = map target_word es

-- behind the first pass of the entries: 14 with the count needed, 15 of the targets lent, 16; the generation
abbrev pub answer_by : List Entry → ℕ → ℕ → ℕ → Growth → Answer
answer_by es need places generation (stopped a) = answer 14 (need ∷ [])
answer_by es need places generation (growth n a ends) =
    pick (ltb places (length es)) (answer 15 [])
    (pick (over_limit (root_worst (settled a (n - 1)))) (answer 16 (root_worst (settled a (n - 1)) ∷ 1024 ∷ []))
    (answer 0 (n ∷ root_worst (settled a (n - 1)) ∷ generation ∷ [])))

-- what is left in nodes and targets then
abbrev pub left_by : List Entry → List ℕ → Growth → Filling
left_by es ts (stopped a) = filling a ts
left_by es ts (growth n a ends) =
    pick (ltb (length ts) (length es)) (filling a ts)
    (pick (over_limit (root_worst (settled a (n - 1)))) (filling (settled a (n - 1)) ts)
    (last_passes n a ts ends (targets_of es)))

-- both, of the words ts for targets
abbrev pub finish_by : List Entry → ℕ → List ℕ → ℕ → Growth → BuildOutcome
finish_by es need ts generation g =
    record { says = answer_by es need (length ts) generation g; areas = left_by es ts g }

-- 10, or the refusal of an entry
abbrev pub list_refused : List Entry → List ℕ → Option Answer
list_refused es store = pick (ltb 2048 (length es)) (some (answer 10 [])) (bad_entries store 0 es)

-- the first if the list is refused, else the second
abbrev pub if_refused : Option Answer → Filling → Filling → Filling
if_refused (some r) before after = before
if_refused none before after = after

-- what build answers: the entries, the text store, the nodes' words, how many targets are lent, the generation
unfoldable pub built_by : List Entry → List ℕ → List ℕ → ℕ → ℕ → Answer
built_by es store a places generation =
    unless (list_refused es store) (answer_by es (needed store es) places generation (all_in es store a))

-- what it leaves in the words of nodes and of targets
unfoldable pub leaves_by : List Entry → List ℕ → List ℕ → List ℕ → Filling
leaves_by es store a ts = if_refused (list_refused es store) (filling a ts) (left_by es ts (all_in es store a))

-- both
abbrev pub core_into : List Entry → List ℕ → List ℕ → List ℕ → ℕ → BuildOutcome
core_into es store a ts generation =
    record { says = built_by es store a (length ts) generation; areas = leaves_by es store a ts }
