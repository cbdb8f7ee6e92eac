-- The premises can be met with whole moves among the calls: one on 01's five entries, one behind a store.
--
--   met_premises    the premises hold of these steps
--   met_steps       so each of them is answered as demanded
use native.Mathlib.Omega.{arith}
use mathlib.Core.Path.{refl}
use Rattle.subject_rules.specs.Fnv.{fnv, fnv_from}
use Rattle.binding.specs.Demand.{in_play, HashedApart, Premises, start}
use Rattle.binding.specs.Timetable.{table_of, words_for, cabinet, five_entries}
use Rattle.binding.proofs.Instance.{hashed_apart, five_built, other_built, opened}
use Rattle.whole_move_rules.specs.Steps.{EachRight, calls_in}
use Rattle.whole_move_rules.specs.Rows.{every_step}
use Rattle.whole_move_rules.proofs.Steps.{steps_right}

tokens-apart : HashedApart (in_play five_entries (calls_in every_step))
unfolding fnv fnv_from
tokens-apart = hashed_apart (in_play five_entries (calls_in every_step)) refl

pub met_premises : Premises (table_of 5 five_entries 1) five_entries (calls_in every_step)
met_premises = record {
  built = five_built;
  lent = (tt, (tt, (tt, (other_built, (tt, (tt, (tt, (tt, (tt, (tt, (tt, tt)))))))))));
  few = omega arith;
  apart = tokens-apart;
}

pub met_steps : EachRight (start five_entries (words_for (table_of 5 five_entries 1))) (cabinet 1 (table_of 5 five_entries 1)) every_step
met_steps = steps_right (table_of 5 five_entries 1) five_entries every_step met_premises (words_for (table_of 5 five_entries 1)) (cabinet 1 (table_of 5 five_entries 1)) opened
