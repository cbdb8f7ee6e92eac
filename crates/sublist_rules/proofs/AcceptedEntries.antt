-- Entries of which none is refused lie in the text store, and their texts are patterns. Assumes nothing.
use Prim.Native.Nat.{ℕ, zero, suc, ◌+◌, ◌≤◌}
use native.Mathlib.Omega.{arith}
use mathlib.Core.Path.{◌≡◌, refl}
use mathlib.Core.Bool.{Bool, true, false}
use mathlib.Core.List.{List, [], ◌∷◌}
use mathlib.Core.Option.{Option, none, some}
use borrow.Author.Tests.{ltb-false}
use lib.Dec.{eqb, ltb}
use lib.ListN.{length}
use Rattle.subject_rules.specs.Choice.{pick, or}
use Rattle.subject_rules.specs.Text.{tokens, is_star, is_tail}
use Rattle.subject_rules.specs.Utf8.{first_bad}
use Rattle.subject_rules.specs.Answers.{Answer, answer, unless}
use Rattle.subject_rules.specs.Grammar.{bad_char, first_of, bad_chars, bad_token, tail_at, check, not_utf8, grammar}
use Rattle.subject_rules.proofs.Depths.{first_none}
use Rattle.sublist_tree.specs.Lists.{All}
use Rattle.sublist_entries.specs.declared.Entry.{Entry}
use Rattle.sublist_entries.specs.Entries.{text_of}
use Rattle.sublist_rules.specs.Building.{invalid, bad_entry, bad_entries}

-- an answer that accepts has one value
abbrev One : Answer → Type 0
One (answer zero []) = ⊥
One (answer zero (n ∷ [])) = Unit {0}
One (answer zero (n ∷ (m ∷ vs))) = ⊥
One (answer (suc k) vs) = Unit {0}

abbrev OneIn : Option Answer → Type 0
OneIn none = Unit {0}
OneIn (some a) = One a

one-pick : (b : Bool) (x y : Answer) → One x → One y → One (pick b x y)
one-pick true x y p q = p
one-pick false x y p q = q

one_in : (b : Bool) (x y : Option Answer) → OneIn x → OneIn y → OneIn (pick b x y)
one_in true x y p q = p
one_in false x y p q = q

one-first : (x y : Option Answer) → OneIn x → OneIn y → OneIn (first_of x y)
one-first none y p q = q
one-first (some a) y p q = p

one-unless : (o : Option Answer) (a : Answer) → OneIn o → One a → One (unless o a)
one-unless none a p q = q
one-unless (some r) a p q = p

one-chars : (index : ℕ) (bs : List ℕ) → OneIn (bad_chars index bs)
one-chars index [] = tt
one-chars index (b ∷ bs) =
    one-first (bad_char index b) (bad_chars index bs)
    (one_in (or (ltb b 0x20) (eqb b 0x7f)) (some (answer 8 (b ∷ index ∷ []))) (pick (or (eqb b 0x2a) (eqb b 0x3e)) (some (answer 9 (b ∷ index ∷ []))) none) tt
    (one_in (or (eqb b 0x2a) (eqb b 0x3e)) (some (answer 9 (b ∷ index ∷ []))) none tt tt))
    (one-chars index bs)

one_token : (wild : Bool) (index : ℕ) (t : List ℕ) → OneIn (bad_token wild index t)
one_token wild index [] = tt
one_token wild index (b ∷ bs) =
    one_in (or (is_star (b ∷ bs)) (is_tail (b ∷ bs))) (pick wild none (some (answer 7 (b ∷ index ∷ [])))) (bad_chars index (b ∷ bs))
    (one_in wild none (some (answer 7 (b ∷ index ∷ []))) tt tt)
    (one-chars index (b ∷ bs))

one-check : (wild : Bool) (passed : Option ℕ) (index : ℕ) (ts : List (List ℕ)) → One (check wild passed index ts)
one-check wild none index [] = tt
one-check wild (some at) index [] = tt
one-check wild (some at) index (t ∷ ts) = tt
one-check wild none index (t ∷ ts) =
    one-pick (eqb index 32) (answer 5 (33 ∷ [])) (unless (bad_token wild index t) (check wild (tail_at (is_tail t) index) (index + 1) ts)) tt
    (one-unless (bad_token wild index t) (check wild (tail_at (is_tail t) index) (index + 1) ts) (one_token wild index t) (one-check wild (tail_at (is_tail t) index) (index + 1) ts))

one_utf8 : (o : Option ℕ) → OneIn (not_utf8 o)
one_utf8 none = tt
one_utf8 (some index) = tt

one-grammar : (wild : Bool) (bs : List ℕ) → One (grammar wild bs)
unfolding grammar
one-grammar wild bs =
    one-pick (ltb 4096 (length bs)) (answer 1 []) (unless (not_utf8 (first_bad bs)) (pick (eqb (length bs) 0) (answer 3 []) (check wild none 0 (tokens bs)))) tt
    (one-unless (not_utf8 (first_bad bs)) (pick (eqb (length bs) 0) (answer 3 []) (check wild none 0 (tokens bs))) (one_utf8 (first_bad bs))
    (one-pick (eqb (length bs) 0) (answer 3 []) (check wild none 0 (tokens bs)) tt (one-check wild none 0 (tokens bs))))

-- a text that is not refused is accepted
pub not_invalid : (bs : List ℕ) → invalid (grammar true bs) ≡ none → (n : ℕ) × (grammar true bs ≡ answer 0 (n ∷ []))
not_invalid bs e = go (grammar true bs) (one-grammar true bs) e
  where
    go : (a : Answer) → One a → invalid a ≡ none → (n : ℕ) × (a ≡ answer 0 (n ∷ []))
    go (answer zero []) o e = absurd o
    go (answer zero (n ∷ [])) o e = (n, refl)
    go (answer zero (n ∷ (m ∷ vs))) o e = absurd o
    go (answer (suc k) vs) o e = absurd (cc)

-- the entry lies in the text store, and its text is a pattern
abbrev pub Sound : List ℕ → Entry → Type 0
Sound store e = (e.start + e.length ≤ length store) × ((n : ℕ) × (grammar true (text_of store e) ≡ answer 0 (n ∷ [])))

sound-entry : (store : List ℕ) (index : ℕ) (e : Entry) → bad_entry store index e ≡ none → Sound store e
sound-entry store index e q = go (ltb (length store) (e.start + e.length)) refl q
  where
    go : (b : Bool) → ltb (length store) (e.start + e.length) ≡ b → pick b (some (answer 12 (index ∷ []))) (invalid (grammar true (text_of store e))) ≡ none → Sound store e
    go true l q = absurd (cc)
    go false l q = (ltb-false (length store) (e.start + e.length) l, not_invalid (text_of store e) q)

pub sound-entries : (store : List ℕ) (index : ℕ) (es : List Entry) → bad_entries store index es ≡ none → All (Sound store) es
sound-entries store index [] q = tt
sound-entries store index (e ∷ es) q =
    let b = first_none (bad_entry store index e) (bad_entries store (index + 1) es) q in
    (sound-entry store index e b.0, sound-entries store (index + 1) es b.1)
