-- Calls that write into a lent output: an answer, and the output afterwards.
use Rattle.std.specs.Prelude.{ℕ, zero, suc, List, ◌++◌, length, drop}
use Rattle.subject_rules.specs.Answers.{Answer, answer}

pub data Outcome : Type 0 where
  outcome : Answer → List ℕ → Outcome

-- a list written over the first places
abbrev pub over : List ℕ → List ℕ → List ℕ
over list out = list ++ drop (length list) out

-- what comes after an accepted text; a refused one leaves the output
abbrev pub if_parsed : Answer → List ℕ → Outcome → Outcome
if_parsed (answer zero values) out after = after
if_parsed (answer (suc k) values) out after = outcome (answer (suc k) values) out
