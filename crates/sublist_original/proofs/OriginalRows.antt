-- Examples for the transcription: it computes where no two hashes are compared, and by the theorems it gives document 01's rows for tables.
use Prim.Native.Nat.{ℕ, ◌≤◌}
use native.Mathlib.Omega.{arith}
use mathlib.Core.Path.{◌≡◌, refl, ◌∙◌, ap}
use mathlib.Core.List.{List, [], ◌∷◌}
use lib.ListN.{length}
use Rattle.subject_rules.specs.Original as subject
use Rattle.sublist_tree.specs.Table.{TableEntry}
use Rattle.sublist_tree.specs.Timetable.{bytes, entry, Holds, as_table, timetable}
use Rattle.sublist_tree.proofs.Rows.{timetable-holds}
use Rattle.sublist_original.specs.Original.{Outcome, Ok, Std, new, insert_all, new_node, descend_literal, descend_star, each_token, each_entry, push_range, each_scratch, best_literal, star_of, deeper, each_id, worst_case_frontier, Sublist, build, node_count, push_unique_capped, push_some, collect_range, each_live, child_at, literal_child, each_nid, each_level, match_into}
use Rattle.sublist_original.specs.Original as original
use Rattle.sublist_original.specs.Entries.{pairs, builder_of}
use Rattle.sublist_original.proofs.Library.{simple}
use Rattle.sublist_original.proofs.SameTable.{build-accepted, match_original}

-- ---- by computing: > 2, * 3, *.> 4, *.* 5

wild : List TableEntry
wild = entry ">" 2 ∷ entry "*" 3 ∷ entry "*.>" 4 ∷ entry "*.*" 5 ∷ []

-- the table that `build` gives, and the list of a text on it
abbrev listed : Outcome (Sublist ℕ) → List ℕ → Outcome (List ℕ)
listed o text = original.◌>>=◌ o (λ table. match_into simple table text [])

wild_one : listed (build simple (builder_of wild) 0) (bytes "a") ≡ Ok (2 ∷ 3 ∷ [])
unfolding wild new_node descend_literal descend_star each_token each_entry push_range each_scratch best_literal star_of deeper each_id worst_case_frontier build push_unique_capped push_some collect_range each_live child_at literal_child each_nid each_level match_into
wild_one = refl

wild_two : listed (build simple (builder_of wild) 0) (bytes "a.b") ≡ Ok (2 ∷ 4 ∷ 5 ∷ [])
unfolding wild new_node descend_literal descend_star each_token each_entry push_range each_scratch best_literal star_of deeper each_id worst_case_frontier build push_unique_capped push_some collect_range each_live child_at literal_child each_nid each_level match_into
wild_two = refl

-- ---- by the theorems, with any sort and search: 01's two tables

five : List TableEntry
five = entry "a.b" 1 ∷ entry ">" 2 ∷ entry "*.b" 3 ∷ entry "a.>" 4 ∷ entry "a.b" 5 ∷ []

five_few : length five ≤ 2048
unfolding five
five_few = omega arith

five_inserted : insert_all new (pairs five) ≡ subject.Ok (builder_of five)
unfolding five
five_inserted = refl

five_row : Holds (as_table five "a.b" (2 ∷ 4 ∷ 1 ∷ 5 ∷ 3 ∷ []) 2 2 5)
unfolding five timetable
five_row = timetable-holds.1.1.1.1.1.1.1.1.1.1.1.1.1.0

five_gives : (std : Std) → (table : Sublist ℕ) × (build std (builder_of five) 0 ≡ Ok table) × (node_count table ≡ 5) × (match_into std table (bytes "a.b") [] ≡ Ok (2 ∷ 4 ∷ 1 ∷ 5 ∷ 3 ∷ []))
five_gives std =
    let b = build-accepted std five five_few (builder_of five) five_inserted 0 (omega (arith, five_row.0.2)) in
    (b.0, b.1, b.2 ∙ five_row.1.2, match_original std five five_few (builder_of five) five_inserted 0 b.0 b.1 (bytes "a.b") [] ∙ ap Ok five_row.0.0)

none_inserted : insert_all new (pairs []) ≡ subject.Ok (builder_of [])
none_inserted = refl

none_row : Holds (as_table [] "a" [] 1 1 1)
unfolding timetable
none_row = timetable-holds.1.1.1.1.1.1.1.1.1.1.1.1.1.1.0

none_gives : (std : Std) → (table : Sublist ℕ) × (build std (builder_of []) 0 ≡ Ok table) × (node_count table ≡ 1) × (match_into std table (bytes "a") [] ≡ Ok [])
none_gives std =
    let b = build-accepted std [] (omega arith) (builder_of []) none_inserted 0 (omega (arith, none_row.0.2)) in
    (b.0, b.1, b.2 ∙ none_row.1.2, match_original std [] (omega arith) (builder_of []) none_inserted 0 b.0 b.1 (bytes "a") [] ∙ ap Ok none_row.0.0)
