-- Answers as document 01 numbers them: 0 for success, else the number under "Why a call turns back", and behind it the
-- values that 01 names, in its order.
-- Each crate whose calls answer by an enum has an Answers.antt that lists number and values for each of its cases.
use Rattle.std.specs.Prelude.{ℕ, zero, suc, Bool, true, false, List, [], ◌∷◌}
use Rattle.std.proofs.Math.Option.{Option, none, some}

pub data Answer : Type 0 where
  answer : ℕ → List ℕ → Answer

-- yes is 1, no is 0
abbrev pub said : Bool → Answer
said true = answer 0 (1 ∷ [])
said false = answer 0 (0 ∷ [])

-- a refusal, where there is one, stands before what comes after
abbrev pub unless : Option Answer → Answer → Answer
unless none after = after
unless (some refused) after = refused

-- what comes after an accepted answer; a refused one stands
abbrev pub when_accepted : Answer → Answer → Answer
when_accepted (answer zero values) after = after
when_accepted (answer (suc n) values) after = answer (suc n) values
