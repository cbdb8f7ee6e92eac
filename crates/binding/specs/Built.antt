-- "The tables come from accepted builds and are lent with their areas as build left them", of build's own definitions.
use Rattle.std.specs.Prelude.{ℕ, ◌/◌, ◌≡◌, List, [], ◌∷◌, length}
use Rattle.subject_rules.specs.Answers.{answer}
use Rattle.sublist_tree.specs.Table.{TableEntry}
use Rattle.sublist_entries.specs.declared.Entry.{Entry}
use Rattle.sublist_entries.specs.Entries.{read_from}
use Rattle.sublist_rules.specs.Building.{build_says}
use Rattle.sublist_rules.specs.Passes.{filling}
use Rattle.sublist_rules.specs.Leaving.{build_leaves}
use Rattle.sublist_snapshot.specs.Snapshot.{Table}

-- an accepted build read these entries and left this table
pub record BuiltFrom (t : Table) (es : List TableEntry) : Type 0 where
  -- what it was lent: the list of entries, the text store, the words for nodes and for targets
  pub list : List Entry
  pub store : List ℕ
  pub nodes_lent : List ℕ
  pub targets_lent : List ℕ
  pub worst_case : ℕ
  pub accepted :
      build_says list store (length nodes_lent / 16) (length targets_lent) t.generation.0
      ≡ answer 0 (t.nodes ∷ worst_case ∷ t.generation.0 ∷ [])
  pub areas_left : build_leaves list store nodes_lent targets_lent ≡ filling t.node_words t.target_words
  -- a target for each entry
  pub one_each : t.targets ≡ length list
  -- the entries with their texts as read then
  pub texts_read : read_from store list ≡ es
