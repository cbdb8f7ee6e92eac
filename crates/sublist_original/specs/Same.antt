-- Demand 2 for lists and tables: inserts of ours beside those of the original, from an empty list on, and the table and
-- the lists that both then give.
use Rattle.std.specs.Prelude.{ℕ, ◌/◌, ◌≤◌, ◌≡◌, Bool, false, List, [], ◌∷◌, leb, length}
use Rattle.std.proofs.Math.Option.{none}
use Rattle.subject_rules.specs.Choice.{pick, and, or}
use Rattle.subject_rules.specs.Answers.{Answer, answer}
use Rattle.subject_rules.specs.Utf8.{first_bad}
use Rattle.subject_rules.specs.Original as subject
use Rattle.subject_rules.specs.Original.{validate, answer_of}
use Rattle.sublist_tree.specs.Table.{TableEntry}
use Rattle.sublist_walk_rules.specs.Walk.{found}
use Rattle.subject_rules.specs.Outputs as ours
use Rattle.subject_rules.specs.Outputs.{outcome}
use Rattle.sublist_walk_rules.specs.Matching.{written, match_table}
use Rattle.sublist_entries.specs.Entries.{in_use, word32}
use Rattle.sublist_entries.specs.Inserts.{Desk, insert_on, desk_after}
use Rattle.sublist_rules.specs.Building.{held, needed}
use Rattle.sublist_rules.specs.Passes.{node_words_in, target_words_in}
use Rattle.sublist_rules.specs.Leaving.{BuildOutcome, build_into}
use Rattle.sublist_original.specs.Original.{Outcome, Ok, Err, Panic, InvalidPattern, ForkLimitExceeded, Std}
use Rattle.sublist_original.specs.Original.{SublistBuilder, insert, Sublist, build, node_count, match_into}

-- ---- inserts

-- "added" refusals of an insert: 1, 2, 10, 11
abbrev pub added_refusal : Answer → Bool
added_refusal (answer n values) = or (and (leb 1 n) (leb n 2)) (and (leb 10 n) (leb n 11))

-- ours answers as theirs does, and `rest` holds of their builder then: one that is refused stays as it was
abbrev pub SameInsert : Answer → subject.Result (SublistBuilder ℕ) → SublistBuilder ℕ → (SublistBuilder ℕ → Type 0) → Type 0
SameInsert says (subject.Ok after) builder rest = ((values : List ℕ) × (says ≡ answer 0 values)) × rest after
SameInsert says (subject.Err e) builder rest = (says ≡ answer_of (subject.Err e)) × rest builder

-- "a call refused by an added number is not made on the Rust's side"; any other is, with the same pattern and target
abbrev pub ComparedInsert : Answer → SublistBuilder ℕ → TableEntry → (SublistBuilder ℕ → Type 0) → Type 0
ComparedInsert says builder e rest =
    pick (added_refusal says) (rest builder) (SameInsert says (insert builder e.pattern (word32 e.target)) builder rest)

-- every insert of a list, and `last` of what is there behind the last one
abbrev pub EachInsertSame : (Desk → SublistBuilder ℕ → Type 0) → Desk → SublistBuilder ℕ → List TableEntry → Type 0
EachInsertSame last d builder [] = last d builder
EachInsertSame last d builder (e ∷ es) =
    ComparedInsert (insert_on d e).says builder e (λ after. EachInsertSame last (desk_after d e) after es)

-- ---- the table, and what is found in it

-- a match of ours gives their list, written over the output, or 21 where that is shorter; a text that `parse_literal`
-- refuses has its refusal
abbrev pub SameMatch : subject.Result ℕ → Outcome (List ℕ) → List ℕ → ours.Outcome → Type 0
SameMatch (subject.Err e) theirs out o = o ≡ outcome (answer_of (subject.Err e)) out
SameMatch (subject.Ok depth) (Ok list) out o = (peak : ℕ) × (o ≡ written (found list peak) out)
SameMatch (subject.Ok depth) (Err e) out o = ⊥
SameMatch (subject.Ok depth) Panic out o = ⊥

-- a text of at most 4,096 bytes, UTF-8: neither 1 nor 2
abbrev pub Plain : List ℕ → Type 0
Plain text = (length text ≤ 4096) × (first_bad text ≡ none)

-- theirs is a table: ours has its node count and generation, and finds its lists, for every such text
pub record SameTable (std : Std) (table : Sublist ℕ) (count : ℕ) (o : BuildOutcome) : Type 0 where
  pub worst_case : ℕ
  pub says : o.says ≡ answer 0 (node_count table ∷ worst_case ∷ table.generation ∷ [])
  pub finds : (text out : List ℕ) → Plain text
      → SameMatch (validate text false) (match_into std table text []) out
      (match_table (node_count table) count (node_words_in o.areas) (target_words_in o.areas) text out)

-- a build of ours of so many entries is theirs: 13 holds the refusal of the first pattern that is refused, 16 has the
-- same two numbers. Theirs does not panic.
abbrev pub SameBuild : Std → Outcome (Sublist ℕ) → ℕ → BuildOutcome → Type 0
SameBuild std (Ok table) count o = SameTable std table count o
SameBuild std (Err (InvalidPattern e)) count o = o.says ≡ held (answer_of (subject.Err e))
SameBuild std (Err (ForkLimitExceeded worst limit)) count o = o.says ≡ answer 16 (worst ∷ limit ∷ [])
SameBuild std Panic count o = ⊥

-- the entries in use, built in areas that hold the table (14 and 15 are added), are theirs, of any generation
abbrev pub SameTables : Std → Desk → SublistBuilder ℕ → Type 0
SameTables std d builder =
    let es = in_use d.list d.places in
    (a ts : List ℕ) (generation : ℕ) → needed d.store es ≤ length a / 16 → length es ≤ length ts
    → SameBuild std (build std builder generation) (length es) (build_into es d.store a ts generation)
