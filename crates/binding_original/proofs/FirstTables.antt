-- The original's tables of the same entries, and the two first snapshots made of them.
use Prim.Native.Nat.{ℕ, ◌≤◌, ◌/◌}
use native.Mathlib.Omega.{arith}
use mathlib.Core.Path.{◌≡◌, refl, sym, ap, subst}
use mathlib.Core.List.{List, [], ◌∷◌}
use lib.ListN.{length, length-map}
use Rattle.subject_rules.specs.Fnv.{fnv}
use Rattle.sublist_tree.specs.Table.{TableEntry, root_of, entry_line}
use Rattle.sublist_original.specs.Original.{Ok, Std, Sublist, build}
use Rattle.sublist_original.specs.Entries.{builder_of}
use Rattle.sublist_snapshot.specs.Snapshot.{Table, copied, first}
use Rattle.sublist_snapshot.proofs.Copies.{copied-holds}
use Rattle.binding.specs.Built.{BuiltFrom}
use Rattle.binding.proofs.Builds.{built_accepts, built_bound}
use Rattle.binding.proofs.Tables.{table-holds}
use Rattle.binding_original.specs.Original as original
use Rattle.binding_original.specs.Original.{new}
use Rattle.binding_original.proofs.Stamping.{Walks, stamped-walks, stamped-same}
use Rattle.binding_original.proofs.Together.{Both}
use Rattle.sublist_entries.specs.Entries.{read_from}
use Rattle.sublist_rules.proofs.Composed.{lines_length}
use Rattle.sublist_rules.proofs.Builds.{taken}
use Rattle.sublist_original.proofs.Accepting.{insert_accepts}
use Rattle.sublist_original.proofs.SameTable.{build-accepted}

pub built-few : (t : Table) (es : List TableEntry) → BuiltFrom t es → length es ≤ 2048
built-few t es f =
    let k = taken f.list f.store (length f.nodes_lent / 16) (length f.targets_lent) t.generation.0 (t.nodes ∷ f.worst_case ∷ t.generation.0 ∷ []) f.accepted in
    subst (λ l. length l ≤ 2048) f.texts_read
    (omega (arith, k.0.few, lines_length f.store f.list, length-map (read_from f.store f.list) (entry_line fnv)))

-- what our build accepts, the original's does
pub their_table : (std : Std) (t : Table) (es : List TableEntry) → BuiltFrom t es → (g : ℕ) → (table : Sublist ℕ) × (build std (builder_of es) g ≡ Ok table)
their_table std t es f g =
    let made = build-accepted std es (built-few t es f) (builder_of es) (insert_accepts es (built_accepts t es f)) g (built_bound t es f) in
    (made.0, made.1)

-- a first table of theirs is built as 0
abbrev pub FirstBuilt : Std → List TableEntry → Sublist ℕ → Type 0
FirstBuilt std es table = build std (builder_of es) 0 ≡ Ok table

pub first_table : (std : Std) (t : Table) (es : List TableEntry) → BuiltFrom t es → (table : Sublist ℕ) × FirstBuilt std es table
first_table std t es f = their_table std t es f 0

-- a snapshot of ours is made of a table, one of theirs of a table of the same entries, built as 0
module _ (std : Std) (t : Table) (es : List TableEntry) (built : BuiltFrom t es) (area : List ℕ) (table : Sublist ℕ) (few : length es ≤ 2048) (made : FirstBuilt std es table) where
  whole : original.stamp table 0 ≡ table
  whole = stamped-same std (builder_of es) 0 table made

  pub at_first : Both std es (record { snapshot = first t; words = copied t area }) (original.new table)
  at_first = record {
    accepted = built_accepts t es built;
    worst_case = built_bound t es built;
    holds = copied-holds t (root_of fnv es) (table-holds t es built) area;
    walks = subst (Walks std es) whole (stamped-walks std es table (built_accepts t es built) (few, 0, made) 0);
    generation = ap (λ (x : Sublist ℕ). x.generation) (sym whole);
    next = refl;
  }
