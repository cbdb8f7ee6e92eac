-- An accepted build's areas hold the tree of its entries.
use Prim.Native.Nat.{◌/◌}
use mathlib.Core.Path.{◌≡◌, sym, ap, subst}
use mathlib.Core.List.{List, [], ◌∷◌}
use lib.ListN.{length, get_or}
use Rattle.subject_rules.specs.Fnv.{fnv}
use Rattle.sublist_tree.specs.Table.{TableEntry, root_of}
use Rattle.sublist_walk_rules.specs.Holds.{Holds}
use Rattle.sublist_entries.specs.Entries.{read_from}
use Rattle.sublist_rules.specs.Building.{needed}
use Rattle.sublist_rules.specs.Passes.{node_words_in, target_words_in}
use Rattle.sublist_rules.proofs.Builds.{taken, build_stands}
use Rattle.sublist_snapshot.specs.Snapshot.{Table}
use Rattle.binding.specs.Built.{BuiltFrom}

pub table-holds : (t : Table) (es : List TableEntry) → BuiltFrom t es → Holds t.node_words t.nodes t.targets t.target_words (root_of fnv es)
table-holds t es f =
    let k = taken f.list f.store (length f.nodes_lent / 16) (length f.targets_lent) t.generation.0 (t.nodes ∷ f.worst_case ∷ t.generation.0 ∷ []) f.accepted in
    let n : needed f.store f.list ≡ t.nodes = ap (λ vs. get_or vs 0 0) (sym k.1) in
    subst (λ l. Holds t.node_words t.nodes t.targets t.target_words (root_of fnv l)) f.texts_read
    (subst (λ m. Holds t.node_words t.nodes m t.target_words (root_of fnv (read_from f.store f.list))) (sym f.one_each)
    (subst (λ x. Holds t.node_words x (length f.list) t.target_words (root_of fnv (read_from f.store f.list))) n
    (subst (λ g. Holds (node_words_in g) (needed f.store f.list) (length f.list) (target_words_in g) (root_of fnv (read_from f.store f.list))) f.areas_left
    (build_stands f.list f.store f.nodes_lent f.targets_lent k.0))))
