-- Only private contracts cite this file: what the copy of a table answers.
use Rattle.std.specs.Prelude.{Result, Ok, Err}
use Rattle.std.proofs.Math.Option.{Option, none, some}
use Rattle.subject_rules.specs.Answers.{Answer}
use Rattle.sublist_walk.specs.declared.Table.{Table as Walked}
use Rattle.sublist_snapshot.specs.declared.StoreError.{StoreError}
use Rattle.sublist_snapshot.specs.Snapshot.{Table}
use Rattle.sublist_snapshot.specs.Answers.{store_refusal}

-- the walk's table as one that is lent to be stored; its generation is no part of a copy
abbrev pub lent : Walked → Table
lent t = record {
  nodes = t.nodes;
  targets = t.targets;
  generation = record { 0 = 0 };
  node_words = t.node_words.now;
  target_words = t.target_words.now;
}

-- why the table was not copied, if it was not
abbrev pub copy_refusal : Result Unit StoreError → Option Answer
copy_refusal (Ok u) = none
copy_refusal (Err e) = some (store_refusal e)
