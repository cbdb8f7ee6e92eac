-- A table that the original's `build` gave walks alike under any generation.
use Prim.Native.Nat.{ℕ}
use mathlib.Core.Path.{◌≡◌, ap}
use mathlib.Core.Bool.{Bool, true, false}
use mathlib.Core.List.{List, [], ◌∷◌, map}
use lib.Dec.{eqb, ltb}
use Rattle.subject_rules.specs.Text.{tokens}
use Rattle.subject_rules.specs.Fnv.{fnv}
use Rattle.subject_rules.specs.Original.{when◌then◌else◌}
use Rattle.sublist_tree.specs.Lists.{All}
use Rattle.sublist_tree.specs.Tree.{walk}
use Rattle.sublist_tree.specs.Table.{TableEntry, root_of, Accepted}
use Rattle.sublist_original.specs.Original.{Outcome, Ok, Err, ForkLimitExceeded, Std, SublistBuilder, Node, Sublist, root_alone, each_entry, each_scratch, worst_case_frontier, build, match_into}
use Rattle.sublist_original.specs.Entries.{builder_of}
use Rattle.sublist_original.proofs.Indexing.{carried}
use Rattle.sublist_original.proofs.Accepting.{insert_accepts}
use Rattle.sublist_original.proofs.SameTable.{match_original}
use Rattle.binding_original.specs.Original.{stamp}
use Rattle.binding_original.specs.Calls.{TableOf}

module _ (std : Std) (builder : SublistBuilder ℕ) (g h : ℕ) (table : Sublist ℕ) where
  by_worst : (flat : List ℕ × List Node) (worst_case : ℕ) (over : Bool)
      → ◌≡◌ {A = Outcome (Sublist ℕ)} (when over then Err (ForkLimitExceeded worst_case 1024) else Ok (record { nodes = flat.1; targets = flat.0; generation = g })) (Ok table)
      → ◌≡◌ {A = Outcome (Sublist ℕ)} (when over then Err (ForkLimitExceeded worst_case 1024) else Ok (record { nodes = flat.1; targets = flat.0; generation = h })) (Ok (stamp table h))
  by_worst flat worst_case true e = absurd (cc)
  by_worst flat worst_case false e =
      let same : record { nodes = flat.1; targets = flat.0; generation = g } ≡ table = cc in
      ap (λ (t : Sublist ℕ). Ok (stamp t h)) same

  -- what `build` does with its generation is to keep it
  build-stamp : build std builder g ≡ Ok table → build std builder h ≡ Ok (stamp table h)
  unfolding build
  build-stamp =
      carried (λ arena. carried (λ flat. carried (λ worst_case. by_worst flat worst_case (ltb 1024 worst_case)) (worst_case_frontier flat.1)) (each_scratch std arena 0 arena.nodes [] []))
      (each_entry root_alone builder.entries)

-- the list that a table with these entries gives for a subject
abbrev pub walked_by : List TableEntry → List ℕ → List ℕ
walked_by es text = walk eqb (map fnv (tokens text)) (root_of fnv es ∷ [])

-- the table walks as one of these entries
abbrev pub Walks : Std → List TableEntry → Sublist ℕ → Type 0
Walks std es table = (text out : List ℕ) → match_into std table text out ≡ Ok (walked_by es text)

pub stamped-walks : (std : Std) (es : List TableEntry) (table : Sublist ℕ) → All Accepted es → TableOf std es table → (h : ℕ) → Walks std es (stamp table h)
stamped-walks std es table accepted (few, g, made) h text out =
    match_original std es few (builder_of es) (insert_accepts es accepted) h (stamp table h) (build-stamp std (builder_of es) g h table made) text out

-- it has the generation that it was built with
pub stamped-same : (std : Std) (builder : SublistBuilder ℕ) (g : ℕ) (table : Sublist ℕ) → build std builder g ≡ Ok table → stamp table g ≡ table
stamped-same std builder g table made = let again = build-stamp std builder g g table made in cc
