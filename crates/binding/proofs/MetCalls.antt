-- The instance's calls, through `interleaving`: each of them is answered as demanded.
use Rattle.binding.specs.Demand.{EachRight, start}
use Rattle.binding.specs.Timetable.{table_of, words_for, cabinet, five_entries, every_call}
use Rattle.binding.proofs.Interleaving.{interleaving}
use Rattle.binding.proofs.Instance.{met_premises, opened}

pub met-calls : EachRight (start five_entries (words_for (table_of 5 five_entries 1))) (cabinet 1 (table_of 5 five_entries 1)) every_call
met-calls = (interleaving (table_of 5 five_entries 1) five_entries every_call met_premises (words_for (table_of 5 five_entries 1)) (cabinet 1 (table_of 5 five_entries 1))).calls_right opened
