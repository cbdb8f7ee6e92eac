-- What 2026-13 asks, sentence by sentence, of any text, answer, state and output.
use Rattle.std.specs.Prelude.{ℕ, ◌+◌, ◌%◌, ◌^◌, ◌≤◌, ◌<◌, ◌≡◌, Bool, true, false, List, [], ◌∷◌, ◌++◌, length, get_or, drop}
use Rattle.subject_rules.specs.Text.{tokens}
use Rattle.subject_rules.specs.Answers.{answer}
use Rattle.load_maker_rules.specs.Xorshift.{draws}
use Rattle.load_maker_rules.specs.Load.{Making, made, make}

-- token i of a text, counted from 0, is one byte
abbrev pub IsByte : List ℕ → ℕ → ℕ → Type 0
IsByte text i byte = get_or (tokens text) i [] ≡ byte ∷ []

-- of the draws from a start, the first is for the count, and draw i + 2 for token i
abbrev pub for_count : ℕ → ℕ
for_count start = draws 1 start

abbrev pub for_token : ℕ → ℕ → ℕ
for_token start i = draws (i + 2) start

pub record Pattern (start : ℕ) (text : List ℕ) : Type 0 where
  -- "A pattern has 1 + draw mod 6 tokens."
  pub count : length (tokens text) ≡ 1 + for_count start % 6
  -- "Each token is draw mod 10: 0 is `*`;"
  pub star : (i : ℕ) → i < length (tokens text) → for_token start i % 10 ≡ 0 → IsByte text i 0x2a
  -- "1 is `>` in last position"
  pub last : (i : ℕ) → i + 1 ≡ length (tokens text) → for_token start i % 10 ≡ 1 → IsByte text i 0x3e
  -- "and `*` elsewhere;"
  pub elsewhere : (i : ℕ) → i + 1 < length (tokens text) → for_token start i % 10 ≡ 1 → IsByte text i 0x2a
  -- "2 to 9 are the letters a to h."
  pub letters : (i n : ℕ) → i < length (tokens text) → n ≤ 7 → for_token start i % 10 ≡ 2 + n
      → IsByte text i (0x61 + n)

pub record Subject (start : ℕ) (text : List ℕ) : Type 0 where
  -- "A subject's number of tokens is drawn anew by the same rule,"
  pub count : length (tokens text) ≡ 1 + for_count start % 6
  -- "and each token is the letter number draw mod 8 from a, which is 0."
  pub letters : (i : ℕ) → i < length (tokens text) → IsByte text i (0x61 + for_token start i % 8)

abbrev pub MadeFrom : Bool → ℕ → List ℕ → Type 0
MadeFrom true start text = Pattern start text
MadeFrom false start text = Subject start text

-- an answer, the state given back and the output afterwards, where `out` was lent
pub data Asked (wild : Bool) (start : ℕ) (out : List ℕ) (m : Making) : Type 0 where
  -- "28 ZeroStart, the start is 0, checked before 21 and before anything is written"
  zero_start : start ≡ 0 → m ≡ made (answer 28 []) start out → Asked wild start out m
  -- "too short an output is refusal 21 and draws nothing", with the length needed
  out_short : (text : List ℕ) → (start ≡ 0 → ⊥) → MadeFrom wild start text → length out < length text
      → m ≡ made (answer 21 (length text ∷ [])) start out → Asked wild start out m
  -- "Each call makes one pattern or subject and gives back the new state": one draw for the count, one for each token
  makes : (text : List ℕ) → (start ≡ 0 → ⊥) → MadeFrom wild start text → length text ≤ length out
      → m ≡ made (answer 0 (length text ∷ [])) (draws (1 + length (tokens text)) start) (text ++ drop (length text) out)
      → Asked wild start out m

-- "the state never becomes 0": a state of 64 bits that is not 0
pub record Live (state : ℕ) : Type 0 where
  pub fits : state < 2 ^ 64
  pub nonzero : state ≡ 0 → ⊥

-- a call, and the output that it is lent
pub data Call : Type 0 where
  call : (wild : Bool) (out : List ℕ) → Call

abbrev pub state_of : Making → ℕ
state_of (made says state out) = state

-- the state behind calls one after another, each lent the state that the last one gave back
abbrev pub state_after : ℕ → List Call → ℕ
state_after start [] = start
state_after start (call wild out ∷ calls) = state_after (state_of (make wild start out)) calls
