-- What build answers, and what it leaves in the words lent for nodes and targets.
use Rattle.std.specs.Prelude.{ℕ, ◌-◌, ◌/◌, List, [], map, ltb, length}
use Rattle.std.proofs.Math.Option.{Option, none, some}
use Rattle.subject_rules.specs.Choice.{pick}
use Rattle.subject_rules.specs.Answers.{Answer}
use Rattle.sublist_area_rules.specs.Growing.{planted}
use Rattle.sublist_entries.specs.declared.Entry.{Entry}
use Rattle.sublist_entries.specs.Entries.{target_word, lines_of}
use Rattle.sublist_rules.specs.Building.{bad_entries, worst_of, over_limit, build_says}
use Rattle.sublist_rules.specs.Passes.{Growth, growth, stopped, lines_in, settled, Filling, filling, last_passes}

-- a refused build leaves the targets; an accepted one the last three passes
abbrev pub finished : List Entry → List ℕ → List ℕ → Growth → Filling
finished es store ts (stopped a) = filling a ts
finished es store ts (growth n a ends) =
    pick (ltb (length ts) (length es)) (filling a ts)
    (pick (over_limit (worst_of store es)) (filling (settled a (n - 1)) ts)
    (last_passes n a ts ends (map target_word es)))

abbrev pub started : List Entry → List ℕ → List ℕ → List ℕ → Option Answer → Filling
started es store a ts (some r) = filling a ts
started es store a ts none =
    pick (ltb (length a) 16) (filling a ts)
    (finished es store ts (lines_in (growth 1 (planted a) []) (lines_of store es)))

-- the entries, the text store, the words of nodes and of targets
unfoldable pub build_leaves : List Entry → List ℕ → List ℕ → List ℕ → Filling
build_leaves es store a ts = pick (ltb 2048 (length es)) (filling a ts) (started es store a ts (bad_entries store 0 es))

-- a build: its answer, and the words of nodes and of targets afterwards
pub record BuildOutcome : Type 0 where
  pub says : Answer
  pub areas : Filling

-- `build`, and `build_from_numbers` of the entries that the numbers hold
unfoldable pub build_into : List Entry → List ℕ → List ℕ → List ℕ → ℕ → BuildOutcome
build_into es store a ts generation =
    record { says = build_says es store (length a / 16) (length ts) generation; areas = build_leaves es store a ts }
