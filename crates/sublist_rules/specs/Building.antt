-- What build answers, said of the entries alone: 10; entry by entry 12 before 13; then 14, 15, 16.
use Rattle.std.specs.Prelude.{ℕ, zero, suc, ◌+◌, Bool, true, List, [], ◌∷◌, ltb, eqb, length}
use Rattle.std.proofs.Math.Option.{Option, none, some}
use Rattle.subject_rules.specs.Choice.{pick}
use Rattle.subject_rules.specs.Answers.{Answer, answer, unless}
use Rattle.subject_rules.specs.Grammar.{grammar, first_of}
use Rattle.sublist_tree.specs.Tree.{worst}
use Rattle.sublist_tree.specs.Nodes.{nodes}
use Rattle.sublist_entries.specs.declared.Entry.{Entry}
use Rattle.sublist_entries.specs.Entries.{text_of, lines_of}

-- 13 holds a refusal 1 to 9: its number, then its values
abbrev pub held : Answer → Answer
held (answer number values) = answer 13 (number ∷ values)

-- 13: the refusal of an entry's text
abbrev pub invalid : Answer → Option Answer
invalid (answer zero values) = none
invalid (answer (suc n) values) = some (held (answer (suc n) values))

-- 12 before 13
abbrev pub bad_entry : List ℕ → ℕ → Entry → Option Answer
bad_entry store index e =
    pick (ltb (length store) (e.start + e.length)) (some (answer 12 (index ∷ [])))
    (invalid (grammar true (text_of store e)))

abbrev pub bad_entries : List ℕ → ℕ → List Entry → Option Answer
bad_entries store index [] = none
bad_entries store index (e ∷ es) = first_of (bad_entry store index e) (bad_entries store (index + 1) es)

-- the node count needed: the distinct runs
unfoldable pub needed : List ℕ → List Entry → ℕ
needed store es = length (nodes eqb (lines_of store es))

-- the root's worst case
unfoldable pub worst_of : List ℕ → List Entry → ℕ
worst_of store es = worst eqb 32 (lines_of store es)

-- 16: the worst case is greater than 1,024
abbrev pub over_limit : ℕ → Bool
over_limit w = ltb 1024 w

-- the entries, the text store, how many nodes and targets are lent, the generation
unfoldable pub build_says : List Entry → List ℕ → ℕ → ℕ → ℕ → Answer
build_says es store room places generation =
    pick (ltb 2048 (length es)) (answer 10 [])
    (unless (bad_entries store 0 es)
    (pick (ltb room (needed store es)) (answer 14 (needed store es ∷ []))
    (pick (ltb places (length es)) (answer 15 [])
    (pick (over_limit (worst_of store es)) (answer 16 (worst_of store es ∷ 1024 ∷ []))
    (answer 0 (needed store es ∷ worst_of store es ∷ generation ∷ []))))))
