-- The numbers and values of the answers: 0 with the length of the text made; 28; 21 with the length needed.
use Rattle.std.specs.Prelude.{ℕ, List, [], ◌∷◌, Result, Ok, Err}
use Rattle.subject_rules.specs.Answers.{Answer, answer}
use Rattle.load_maker_rules.specs.Load.{Making, made}
use Rattle.load_maker.specs.declared.MakeError.{MakeError}
use Rattle.load_maker.specs.declared.MakeError.TheVariants.{ZeroStart, OutShort}
use Rattle.load_maker.specs.declared.MadeText.{MadeText}

abbrev pub text_answer : Result ℕ MakeError → Answer
text_answer (Ok size) = answer 0 (size ∷ [])
text_answer (Err ZeroStart) = answer 28 []
text_answer (Err (OutShort needed)) = answer 21 (needed ∷ [])

-- with the state given back, and the output afterwards
abbrev pub made_by : MadeText → List ℕ → Making
made_by r out = made (text_answer r.answer) r.state out
