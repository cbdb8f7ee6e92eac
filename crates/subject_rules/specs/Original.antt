-- The original, IronBus's subject.rs, over values, to be read beside it. `subject.rs N-M` names the lines that a
-- definition stands for; the order of tests is theirs.
-- Names are the Rust's, with `-` for `_`. A `&str` is the list of its UTF-8 bytes, a `char` its code point,
-- a `usize` a number.
-- What a loop changes, and what its iterators have left, are arguments of the function that stands for the loop.
-- Nothing but `answer_of` cites another file of specs/.
use Rattle.std.specs.Prelude.{ℕ, zero, suc, ◌+◌, ◌*◌, ◌%◌, Bool, true, false, ◌||◌, List, [], ◌∷◌, eqb, ltb, length, get_or}
use Rattle.std.proofs.Math.Option.{Option, none, some}
use Rattle.subject_rules.specs.Answers.{Answer, answer}

infixr 1 when◌then◌else◌
infixl 3 ◌>>=◌
-- `if`
abbrev pub when◌then◌else◌ {ℓ} : {A : Type ℓ} → Bool → A → A → A
when true then a else b = a
when false then a else b = b

-- &str AND char

abbrev pub Str : Type 0
Str = List ℕ

abbrev pub Char : Type 0
Char = ℕ

-- `is_empty`
abbrev pub is_empty : Str → Bool
is_empty [] = true
is_empty (b ∷ bs) = false

-- `==`: the same bytes
abbrev pub equal : Str → Str → Bool
equal [] [] = true
equal [] (c ∷ cs) = false
equal (b ∷ bs) [] = false
equal (b ∷ bs) (c ∷ cs) = when eqb b c then equal bs cs else false

-- `chars`, by the table of RFC 3629, section 3. The first octet of a sequence is 0xxxxxxx, 110xxxxx, 1110xxxx or
-- 11110xxx, and tells how many follow it.
abbrev pub following : ℕ → ℕ
following first =
    when ltb first 0x80 then 0
    else when ltb first 0xe0 then 1
    else when ltb first 0xf0 then 2
    else 3

-- the bits marked x of the first octet
abbrev pub first_bits : ℕ → ℕ
first_bits first =
    when ltb first 0x80 then first
    else when ltb first 0xe0 then first % 0x20
    else when ltb first 0xf0 then first % 0x10
    else first % 0x08

-- behind the bits so far, the six of each octet that follows, 10xxxxxx
abbrev pub code_point : ℕ → ℕ → List ℕ → Char
code_point bits zero bs = bits
code_point bits (suc n) [] = bits
code_point bits (suc n) (b ∷ bs) = code_point (bits * 0x40 + b % 0x40) n bs

-- the characters; the first `skip` octets belong to the one before
abbrev pub chars_from : ℕ → Str → List Char
chars_from skip [] = []
chars_from (suc skip) (b ∷ bs) = chars_from skip bs
chars_from zero (b ∷ bs) = code_point (first_bits b) (following b) bs ∷ chars_from (following b) bs

abbrev pub chars : Str → List Char
chars text = chars_from 0 text

-- `split` at a character below 80, which is its one byte. Any other byte joins the first token of what is behind it.
abbrev pub join : ℕ → List Str → List Str
join b [] = (b ∷ []) ∷ []
join b (token ∷ rest) = (b ∷ token) ∷ rest

abbrev pub split : Char → Str → List Str
split sep [] = [] ∷ []
split sep (b ∷ bs) = when eqb b sep then [] ∷ split sep bs else join b (split sep bs)

-- ITERATORS AND RESULTS

-- what `next` gives, and what it leaves
abbrev pub next : List Str → Option Str
next [] = none
next (token ∷ rest) = some token

abbrev pub after_next : List Str → List Str
after_next [] = []
after_next (token ∷ rest) = rest

abbrev pub is_some : Option Str → Bool
is_some none = false
is_some (some token) = true

abbrev pub is_none : Option Str → Bool
is_none none = true
is_none (some token) = false

-- subject.rs 82-134: `SubjectError`
pub data Error : Type 0 where
  Empty : Error
  EmptyToken : (index : ℕ) → Error
  IllegalChar : (ch : Char) (index : ℕ) → Error
  ControlChar : (ch : Char) (index : ℕ) → Error
  WildcardNotAllowed : (ch : Char) (index : ℕ) → Error
  TailWildcardNotLast : (index : ℕ) → Error
  TooDeep : (depth : ℕ) → Error

-- `Result<A, SubjectError>`
pub data Result (A : Type 0) : Type 0 where
  Ok : A → Result A
  Err : Error → Result A

-- `?`: an error is returned at once
abbrev pub ◌>>=◌ : {A B : Type 0} → Result A → (A → Result B) → Result B
Ok a >>= on = on a
Err e >>= on = Err e

-- THE GRAMMAR

-- subject.rs 66-73
abbrev pub MAX_SUBJECT_DEPTH : ℕ
MAX_SUBJECT_DEPTH = 32

abbrev pub SEP : Char
SEP = 0x2e

abbrev pub WILDCARD_ONE : Char
WILDCARD_ONE = 0x2a

abbrev pub WILDCARD_TAIL : Char
WILDCARD_TAIL = 0x3e

-- subject.rs 178-180
abbrev pub is_control : Char → Bool
is_control ch = ltb ch 0x20 || eqb ch 0x7f

-- subject.rs 258-265
pub data TokenKind : Type 0 where
  Literal SingleWildcard TailWildcard : TokenKind

-- subject.rs 243-254
abbrev pub wildcard_or_reject : TokenKind → Char → ℕ → Bool → Result TokenKind
wildcard_or_reject kind ch index allow_wildcards =
    when allow_wildcards then Ok kind else Err (WildcardNotAllowed ch index)

-- subject.rs 223-236: the loop over the characters, and what stands behind it
abbrev pub each_char : ℕ → List Char → Result TokenKind
each_char index [] = Ok Literal
each_char index (ch ∷ rest) =
    when is_control ch then Err (ControlChar ch index)
    else when eqb ch SEP then Err (IllegalChar ch index)
    else when eqb ch WILDCARD_ONE || eqb ch WILDCARD_TAIL then Err (IllegalChar ch index)
    else each_char index rest

-- subject.rs 202-218: a token whose only byte is `only`; `literal` is what the loop gives
abbrev pub lone : ℕ → ℕ → Bool → Result TokenKind → Result TokenKind
lone only index allow_wildcards literal =
    when eqb only WILDCARD_ONE then wildcard_or_reject SingleWildcard WILDCARD_ONE index allow_wildcards
    else when eqb only WILDCARD_TAIL then wildcard_or_reject TailWildcard WILDCARD_TAIL index allow_wildcards
    else literal

-- subject.rs 188-237
abbrev pub classify_token : Str → ℕ → Bool → Result TokenKind
classify_token token index allow_wildcards =
    let literal = each_char index (chars token) in
    when is_empty token then Err (EmptyToken index)
    else when eqb (length token) 1 then lone (get_or token 0 0) index allow_wildcards literal
    else literal

-- subject.rs 295-297: `tail_seen_at` behind a token of this kind
abbrev pub seen : TokenKind → ℕ → Option ℕ → Option ℕ
seen Literal count tail-seen-at = tail-seen-at
seen SingleWildcard count tail-seen-at = tail-seen-at
seen TailWildcard count tail-seen-at = some count

-- subject.rs 281-303: the loop over the tokens, with `count` and `tail_seen_at`, and what stands behind it
abbrev pub each_token : Bool → ℕ → Option ℕ → List Str → Result ℕ
each_token allow_wildcards count tail-seen-at [] = Ok count
each_token allow_wildcards count (some at) (token ∷ rest) = Err (TailWildcardNotLast at)
each_token allow_wildcards count none (token ∷ rest) =
    when eqb count MAX_SUBJECT_DEPTH then Err (TooDeep (count + 1))
    else do
      kind ← classify_token token count allow_wildcards
      each_token allow_wildcards (count + 1) (seen kind count none) rest

-- subject.rs 273-304. `Subject::parse_literal` (326-329) is this with false, `SubjectPattern::parse` (384-387) with true;
-- both keep the text, and the count as `depth`.
abbrev pub validate : Str → Bool → Result ℕ
validate input allow_wildcards =
    when is_empty input then Err Empty
    else each_token allow_wildcards 0 none (split SEP input)

-- MATCHING

-- subject.rs 349-353 and 409-413, with 468-478: all that the `next` of `Tokens` gives
abbrev pub tokens : Str → List Str
tokens raw = split SEP raw

-- subject.rs 403-405. `rsplit` gives the tokens from the last on, so its `next` is the last.
abbrev pub last : List Str → Option Str
last [] = none
last (token ∷ []) = some token
last (token ∷ (other ∷ rest)) = last (other ∷ rest)

-- `== Some(">")`
abbrev pub is-tail : Option Str → Bool
is-tail none = false
is-tail (some token) = equal token (WILDCARD_TAIL ∷ [])

abbrev pub has_tail_wildcard : Str → Bool
has_tail_wildcard raw = is-tail (last (split SEP raw))

-- subject.rs 441-446: the arms below `Some(p)`; `again` is what the loop's next turn gives
abbrev pub one_token : Str → Option Str → Bool → Bool
one_token p (some s) again =
    when equal p (WILDCARD_ONE ∷ []) then again
    else when equal p s then again
    else false
one_token p none again = false

-- subject.rs 433-453: the loop, over what is left of `pat` and of `sub`
abbrev pub match_loop : List Str → List Str → Bool
match_loop (p ∷ pat) sub =
    when equal p (WILDCARD_TAIL ∷ []) then is_some (next sub)
    else one_token p (next sub) (match_loop pat (after_next sub))
match_loop [] sub = is_none (next sub)

-- subject.rs 429-454, of the text of a pattern and that of a subject
abbrev pub matches : Str → Str → Bool
matches pattern subject = match_loop (tokens pattern) (tokens subject)

-- NUMBERS

-- what document 01 answers: the number of each refusal, with the values that it names
abbrev pub answer_of : Result ℕ → Answer
answer_of (Ok count) = answer 0 (count ∷ [])
answer_of (Err Empty) = answer 3 []
answer_of (Err (TailWildcardNotLast index)) = answer 4 (index ∷ [])
answer_of (Err (TooDeep depth)) = answer 5 (depth ∷ [])
answer_of (Err (EmptyToken index)) = answer 6 (index ∷ [])
answer_of (Err (WildcardNotAllowed ch index)) = answer 7 (ch ∷ index ∷ [])
answer_of (Err (ControlChar ch index)) = answer 8 (ch ∷ index ∷ [])
answer_of (Err (IllegalChar ch index)) = answer 9 (ch ∷ index ∷ [])
