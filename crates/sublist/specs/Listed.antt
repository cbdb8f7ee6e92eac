-- Only private contracts cite this file. A list of entries with the text store that holds its patterns.
use Rattle.std.specs.Prelude.{ℕ, List}
use Rattle.sublist_entries.specs.declared.Entry.{Entry}

pub record Listed : Type 0 where
  pub entries : List Entry
  pub store : List ℕ
