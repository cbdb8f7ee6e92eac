-- The grammar is the original's: where rules 1 and 2 do not apply, rules 3 to 9 give what its `validate` gives, and its `depth` is the number of tokens.
use Prim.Native.Nat.{ℕ, zero, suc, ◌+◌, ◌≤◌}
use native.Mathlib.Omega.{arith}
use mathlib.Core.Path.{◌≡◌, refl}
use mathlib.Core.Bool.{Bool, true, false, ◌||◌}
use mathlib.Core.List.{List, [], ◌∷◌}
use mathlib.Core.Option.{Option, none, some}
use lib.Dec.{eqb, ltb}
use lib.ListN.{length}
use borrow.Author.Tests.{eqb-true, eqb-false, ne_eqb, ltb-false, lt-ltb, le-ltb}
use Rattle.subject_rules.specs.Choice.{pick, or}
use Rattle.subject_rules.specs.Text.{cut_at, tokens, is_tail}
use Rattle.subject_rules.specs.Utf8.{first_bad}
use Rattle.subject_rules.specs.Answers.{Answer, answer, unless}
use Rattle.subject_rules.specs.Grammar.{bad_char, first_of, bad_chars, bad_token, tail_at, check, too_long, grammar}
use Rattle.subject_rules.specs.Original.{when◌then◌else◌, following, first_bits, code_point, chars_from, chars, SEP, WILDCARD_ONE, WILDCARD_TAIL, join, split, Error, IllegalChar, ControlChar, TooDeep, Result, Ok, Err, ◌>>=◌, is_control, TokenKind, SingleWildcard, TailWildcard, seen, wildcard_or_reject, each_char, classify_token, each_token, validate, answer_of}
use Rattle.subject_rules.proofs.Booleans.{or_same}
use Rattle.subject_rules.proofs.Decoding.{First, ascii, long, Decodes, utf8_decodes}
use Rattle.subject_rules.proofs.Pieces.{NoDot, Pieces, split_pieces}

-- the refusal of a token, if there is one
abbrev refused : Result TokenKind → Option Answer
refused (Ok kind) = none
refused (Err e) = some (answer_of (Err e))

never : {e : Error} {n : ℕ} {A : Type 0} → Err e ≡ Ok n → A
never q = absurd (cc)

-- no rule names a character or a byte of 80 or more
char_above : (index ch : ℕ) (rest : List ℕ) → 0x80 ≤ ch → each_char index (ch ∷ rest) ≡ each_char index rest
char_above index ch rest l =
    rw (le-ltb ch 0x20 (omega arith), ne_eqb ch 0x7f (λ e. omega arith), ne_eqb ch SEP (λ e. omega arith), ne_eqb ch WILDCARD_ONE (λ e. omega arith), ne_eqb ch WILDCARD_TAIL (λ e. omega arith))

byte_above : (index b : ℕ) → 0x80 ≤ b → bad_char index b ≡ none
byte_above index b l =
    rw (le-ltb b 0x20 (omega arith), ne_eqb b 0x7f (λ e. omega arith), ne_eqb b 0x2a (λ e. omega arith), ne_eqb b 0x3e (λ e. omega arith))

-- a byte below 80 that is no dot, as a character
char_below : (index b : ℕ) (rest bs : List ℕ) → eqb b SEP ≡ false → refused (each_char index rest) ≡ bad_chars index bs
    → refused (each_char index (b ∷ rest)) ≡ bad_chars index (b ∷ bs)
char_below index b rest bs d ih = rw (d, or_same (ltb b 0x20) (eqb b 0x7f), or_same (eqb b 0x2a) (eqb b 0x3e)) (go (or (ltb b 0x20) (eqb b 0x7f)) (or (eqb b 0x2a) (eqb b 0x3e)))
  where
    go : (c w : Bool)
        → refused (when c then Err (ControlChar b index) else when false then Err (IllegalChar b index) else when w then Err (IllegalChar b index) else each_char index rest)
        ≡ first_of (pick c (some (answer 8 (b ∷ index ∷ []))) (pick w (some (answer 9 (b ∷ index ∷ []))) none)) (bad_chars index bs)
    go true w = refl
    go false true = refl
    go false false = ih

-- the first offending character is the first offending byte
chars-bad : (index n : ℕ) (bs : List ℕ) → Decodes n bs → NoDot bs → refused (each_char index (chars_from n bs)) ≡ bad_chars index bs
chars-bad index zero [] d o = refl
chars-bad index (suc n) [] d o = refl
chars-bad index (suc n) (b ∷ bs) d o = rw (byte_above index b d.0) (chars-bad index n bs d.1 o.1)
chars-bad index zero (b ∷ bs) d o = go d.0 (chars-bad index (following b) bs d.1 o.1)
  where
    go : First b bs → refused (each_char index (chars_from (following b) bs)) ≡ bad_chars index bs → refused (each_char index (chars_from 0 (b ∷ bs))) ≡ bad_chars index (b ∷ bs)
    go (ascii l) ih = rw (lt-ltb b 0x80 l) (char_below index b (chars_from 0 bs) bs o.0 (rw (lt-ltb b 0x80 l) at ih))
    go (long l c) ih = rw (byte_above index b l, char_above index (code_point (first_bits b) (following b) bs) (chars_from (following b) bs) c) ih

-- one token
token_bad : (wild : Bool) (index : ℕ) (t : List ℕ) → Decodes 0 t → NoDot t → refused (classify_token t index wild) ≡ bad_token wild index t
token_bad wild index [] d o = refl
token_bad wild index (b ∷ []) d o = go (eqb b 0x2a) refl (eqb b 0x3e) refl wild
  where
    go : (s : Bool) → eqb b 0x2a ≡ s → (g : Bool) → eqb b 0x3e ≡ g → (wild : Bool)
        → refused (when s then wildcard_or_reject SingleWildcard WILDCARD_ONE index wild else when g then wildcard_or_reject TailWildcard WILDCARD_TAIL index wild else each_char index (chars (b ∷ [])))
        ≡ pick (or s g) (pick wild none (some (answer 7 (b ∷ index ∷ [])))) (bad_chars index (b ∷ []))
    go true e g f true = refl
    go true e g f false = rw (eqb-true b 0x2a e)
    go false e true f true = refl
    go false e true f false = rw (eqb-true b 0x3e f)
    go false e false f wild = chars-bad index 0 (b ∷ []) d o
token_bad wild index (b ∷ c ∷ bs) d o = rw (ne_eqb (length (b ∷ c ∷ bs)) 1 (λ e. omega arith)) (chars-bad index 0 (b ∷ c ∷ bs) d o)

-- a `>` is seen where the token is `>`
literal_seen : (index : ℕ) (cs : List ℕ) (kind : TokenKind) → each_char index cs ≡ Ok kind → seen kind index none ≡ none
literal_seen index [] kind e = cc
literal_seen index (ch ∷ cs) kind e = go (is_control ch) (eqb ch SEP) (eqb ch WILDCARD_ONE || eqb ch WILDCARD_TAIL) e (literal_seen index cs kind)
  where
    go : (a b c : Bool) → (when a then Err (ControlChar ch index) else when b then Err (IllegalChar ch index) else when c then Err (IllegalChar ch index) else each_char index cs) ≡ Ok kind
        → (each_char index cs ≡ Ok kind → seen kind index none ≡ none) → seen kind index none ≡ none
    go true b c e ih = cc
    go false true c e ih = cc
    go false false true e ih = cc
    go false false false e ih = ih e

token_seen : (wild : Bool) (index : ℕ) (t : List ℕ) (kind : TokenKind) → classify_token t index wild ≡ Ok kind → seen kind index none ≡ tail_at (is_tail t) index
token_seen wild index [] kind e = cc
token_seen wild index (b ∷ []) kind e = go (eqb b 0x2a) refl (eqb b 0x3e) refl wild e
  where
    go : (s : Bool) → eqb b 0x2a ≡ s → (g : Bool) → eqb b 0x3e ≡ g → (wild : Bool)
        → (when s then wildcard_or_reject SingleWildcard WILDCARD_ONE index wild else when g then wildcard_or_reject TailWildcard WILDCARD_TAIL index wild else each_char index (chars (b ∷ []))) ≡ Ok kind
        → seen kind index none ≡ tail_at g index
    go true q g r true e =
        let star : b ≡ 0x2a = eqb-true b 0x2a q in
        cc (ne_eqb b 0x3e (λ x. omega arith))
    go true q g r false e = cc
    go false q true r true e = cc
    go false q true r false e = cc
    go false q false r wild e = literal_seen index (chars (b ∷ [])) kind e
token_seen wild index (b ∷ c ∷ bs) kind e = literal_seen index (chars (b ∷ c ∷ bs)) kind (rw (ne_eqb (length (b ∷ c ∷ bs)) 1 (λ q. omega arith)) at e)

-- the walk over the tokens
tokens-checked : (wild : Bool) (count : ℕ) (passed : Option ℕ) (ts : List (List ℕ)) → Pieces ts → check wild passed count ts ≡ answer_of (each_token wild count passed ts)
tokens-checked wild count passed [] p = refl
tokens-checked wild count (some at) (t ∷ ts) p = refl
tokens-checked wild count none (t ∷ ts) p =
    go (eqb count 32) refl (classify_token t count wild) refl (token_bad wild count t p.0 p.1) (λ passed. tokens-checked wild (count + 1) passed ts p.2)
  where
    go : (w : Bool) → eqb count 32 ≡ w → (r : Result TokenKind) → classify_token t count wild ≡ r → refused r ≡ bad_token wild count t
        → ((passed : Option ℕ) → check wild passed (count + 1) ts ≡ answer_of (each_token wild (count + 1) passed ts))
        → pick w (answer 5 (33 ∷ [])) (unless (bad_token wild count t) (check wild (tail_at (is_tail t) count) (count + 1) ts)) ≡ answer_of (each_token wild count none (t ∷ ts))
    go true q r k b ih = let full : count ≡ 32 = eqb-true count 32 q in rw full
    go false q (Ok kind) k b ih = rw (q, k, ← b, token_seen wild count t kind k) (ih (tail_at (is_tail t) count))
    go false q (Err e) k b ih = rw (q, k, ← b)

-- both cut a text alike
cut_same : (w : Bool) (b : ℕ) (ts : List (List ℕ)) → (when w then [] ∷ ts else join b ts) ≡ cut_at w b ts
cut_same true b ts = refl
cut_same false b [] = refl
cut_same false b (t ∷ ts) = refl

pub split-tokens : (bs : List ℕ) → split SEP bs ≡ tokens bs
split-tokens [] = refl
split-tokens (b ∷ bs) = rw (split-tokens bs) (cut_same (eqb b 0x2e) b (tokens bs))

-- of a text that is UTF-8 of at most 4,096 bytes, the token count or the refusal is the original's
pub grammar_original : (wild : Bool) (bs : List ℕ) → length bs ≤ 4096 → first_bad bs ≡ none → grammar wild bs ≡ answer_of (validate bs wild)
unfolding grammar
grammar_original wild [] l u = rw u
grammar_original wild (b ∷ bs) l u =
    let short : too_long (b ∷ bs) ≡ false = le-ltb _ (length (b ∷ bs)) (omega arith) in
    rw (short, u, ne_eqb (length (b ∷ bs)) 0 (λ e. omega arith), ← split-tokens (b ∷ bs))
    (tokens-checked wild 0 none (split SEP (b ∷ bs)) (split_pieces (b ∷ bs) (utf8_decodes (b ∷ bs) u)))

-- a text that rule 1 or 2 refuses, or one that neither does
pub data TextKind (wild : Bool) (bs : List ℕ) : Type 0 where
  overlong : grammar wild bs ≡ answer 1 [] → TextKind wild bs
  wrong : (i : ℕ) → grammar wild bs ≡ answer 2 (i ∷ []) → TextKind wild bs
  plain : length bs ≤ 4096 → first_bad bs ≡ none → TextKind wild bs

pub kind_of : (wild : Bool) (bs : List ℕ) → TextKind wild bs
unfolding grammar
kind_of wild bs = go (too_long bs) refl (first_bad bs) refl
  where
    go : (b : Bool) → too_long bs ≡ b → (o : Option ℕ) → first_bad bs ≡ o → TextKind wild bs
    go true p o q = overlong (rw p)
    go false p (some i) q = wrong i (rw (p, q))
    go false p none q = plain (ltb-false 4096 (length bs) p) q

-- one count for each token, up to 32
tokens-counted : (wild : Bool) (count : ℕ) (passed : Option ℕ) (ts : List (List ℕ)) (n : ℕ) → each_token wild count passed ts ≡ Ok n
    → (count + length ts ≡ n) × (count ≤ 32 → n ≤ 32)
tokens-counted wild count passed [] n e = let z : count ≡ n = cc in omega arith
tokens-counted wild count (some at) (t ∷ ts) n e = never e
tokens-counted wild count none (t ∷ ts) n e = go (eqb count 32) refl (classify_token t count wild) e (λ passed. tokens-counted wild (count + 1) passed ts n)
  where
    go : (w : Bool) → eqb count 32 ≡ w → (r : Result TokenKind)
        → (when w then Err (TooDeep (count + 1)) else r >>= λ kind. each_token wild (count + 1) (seen kind count none) ts) ≡ Ok n
        → ((passed : Option ℕ) → each_token wild (count + 1) passed ts ≡ Ok n → (count + 1 + length ts ≡ n) × (count + 1 ≤ 32 → n ≤ 32))
        → (count + length (t ∷ ts) ≡ n) × (count ≤ 32 → n ≤ 32)
    go true q r e ih = never e
    go false q (Err x) e ih = never e
    go false q (Ok kind) e ih =
        let c = ih (seen kind count none) e in
        (omega arith, λ l. c.1 (omega (arith, eqb-false count 32 q)))

-- the count that the original keeps as `depth` is the number of tokens
pub depth_original : (wild : Bool) (bs : List ℕ) (n : ℕ) → validate bs wild ≡ Ok n → length (tokens bs) ≡ n
depth_original wild [] n e = cc
depth_original wild (b ∷ bs) n e = rw (← split-tokens (b ∷ bs)) (omega (arith, (tokens-counted wild 0 none (split SEP (b ∷ bs)) n e).0))

-- it is at most 32, so no sum of the original wraps
pub depth_bounded : (wild : Bool) (bs : List ℕ) (n : ℕ) → validate bs wild ≡ Ok n → n ≤ 32
depth_bounded wild [] n e = never e
depth_bounded wild (b ∷ bs) n e = (tokens-counted wild 0 none (split SEP (b ∷ bs)) n e).1 (omega arith)
