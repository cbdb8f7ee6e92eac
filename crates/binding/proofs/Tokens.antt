-- Tokens in play: no literal of a standing table shares its hash with a different token of a subject.
use Prim.Native.Nat.{ℕ, zero, suc, ◌+◌}
use mathlib.Core.Path.{◌≡◌, refl, sym, ap, subst}
use mathlib.Core.Bool.{Bool, true, false}
use mathlib.Core.List.{List, [], ◌∷◌, ◌++◌, Memᴰ}
use mathlib.Core.Option.{Option, none, some}
use lib.Dec.{eqb, ltb}
use lib.ListN.{length}
use Rattle.subject_rules.specs.Choice.{pick, or}
use Rattle.subject_rules.specs.Text.{tokens, is_star, is_tail}
use Rattle.subject_rules.specs.Utf8.{first_bad}
use Rattle.subject_rules.specs.Fnv.{fnv}
use Rattle.subject_rules.specs.Answers.{Answer, answer, unless}
use Rattle.subject_rules.specs.Grammar.{first_of, bad_chars, bad_token, tail_at, check, not_utf8, grammar}
use Rattle.sublist_tree.specs.Lists.{All}
use Rattle.sublist_tree.specs.Table.{TableEntry, literals, NoClash}
use Rattle.sublist_tree.proofs.Bytes.{All-map}
use Rattle.binding.specs.Demand.{tokens_of, HashedApart}

-- each is in play
abbrev pub Within : List (List ℕ) → List (List ℕ) → Type 0
Within pool ts = All (λ t. Memᴰ t pool) ts

all_at : {A : Type 0} (P : A → Type 0) (xs : List A) (x : A) → All P xs → Memᴰ x xs → P x
all_at P [] x a m = elim m [ ]
all_at P (y ∷ ys) x a (Memᴰ.head e) = subst P (sym e) a.0
all_at P (y ∷ ys) x a (Memᴰ.tail m) = all_at P ys x a.1 m

pub within_all : (pool ts : List (List ℕ)) → ((t : List ℕ) → Memᴰ t ts → Memᴰ t pool) → Within pool ts
within_all pool [] f = tt
within_all pool (t ∷ ts) f = (f t (Memᴰ.head refl), within_all pool ts (λ u m. f u (Memᴰ.tail m)))

pub all_left : {A : Type 0} (P : A → Type 0) (xs ys : List A) → All P (xs ++ ys) → All P xs
all_left P [] ys a = tt
all_left P (x ∷ xs) ys a = (a.0, all_left P xs ys a.1)

pub all_right : {A : Type 0} (P : A → Type 0) (xs ys : List A) → All P (xs ++ ys) → All P ys
all_right P [] ys a = a
all_right P (x ∷ xs) ys a = all_right P xs ys a.1

module _ (pool : List (List ℕ)) (apart : HashedApart pool) where
  hash_apart : (t u : List ℕ) → Memᴰ t pool → Memᴰ u pool → fnv t ≡ fnv u → t ≡ u
  hash_apart t u m n = all_at (λ v. fnv t ≡ fnv v → t ≡ v) pool u (all_at (λ v. All (λ w. fnv v ≡ fnv w → v ≡ w) pool) pool t apart m) n

  pub no_clash : (es : List TableEntry) (ss : List (List ℕ)) → Within pool (tokens_of es) → Within pool ss → NoClash fnv es ss
  no_clash [] ss w x = tt
  no_clash (e ∷ es) ss w x = (
    All-map (λ t. Memᴰ t pool) (λ p. All (λ s. fnv s ≡ fnv p → s ≡ p) ss) (literals (tokens e.pattern))
        (λ p m. All-map (λ t. Memᴰ t pool) (λ s. fnv s ≡ fnv p → s ≡ p) ss (λ s n. hash_apart s p n m) x)
        (all_left (λ t. Memᴰ t pool) (literals (tokens e.pattern)) (tokens_of es) w),
    no_clash es ss (all_right (λ t. Memᴰ t pool) (literals (tokens e.pattern)) (tokens_of es) w) x,
  )

-- every token of an accepted subject is literal
literal_token : (index : ℕ) (t : List ℕ) → bad_token false index t ≡ none → or (is_star t) (is_tail t) ≡ false
literal_token index [] e = absurd (cc)
literal_token index (b ∷ bs) e = go (or (is_star (b ∷ bs)) (is_tail (b ∷ bs))) e
  where
    go : (w : Bool) → pick w (some (answer 7 (b ∷ index ∷ []))) (bad_chars index (b ∷ bs)) ≡ none → w ≡ false
    go true e = absurd (cc)
    go false e = refl

-- what refuses a token is never number 0
chars_refuse : (index : ℕ) (bs values : List ℕ) → bad_chars index bs ≡ some (answer 0 values) → ⊥
chars_refuse index [] values e = cc
chars_refuse index (b ∷ bs) values e = go (or (ltb b 0x20) (eqb b 0x7f)) (or (eqb b 0x2a) (eqb b 0x3e)) e (chars_refuse index bs values)
  where
    go : (c d : Bool) → first_of (pick c (some (answer 8 (b ∷ index ∷ []))) (pick d (some (answer 9 (b ∷ index ∷ []))) none)) (bad_chars index bs) ≡ some (answer 0 values)
        → (bad_chars index bs ≡ some (answer 0 values) → ⊥) → ⊥
    go true d e ih = cc
    go false true e ih = cc
    go false false e ih = ih e

pub token_refuses : (wild : Bool) (index : ℕ) (t values : List ℕ) → bad_token wild index t ≡ some (answer 0 values) → ⊥
token_refuses wild index [] values e = cc
token_refuses wild index (b ∷ bs) values e = go (or (is_star (b ∷ bs)) (is_tail (b ∷ bs))) wild e
  where
    go : (w v : Bool) → pick w (pick v none (some (answer 7 (b ∷ index ∷ [])))) (bad_chars index (b ∷ bs)) ≡ some (answer 0 values) → ⊥
    go true true e = cc
    go true false e = cc
    go false v e = chars_refuse index (b ∷ bs) values e

check-literals : (passed : Option ℕ) (index : ℕ) (values : List ℕ) (ts : List (List ℕ)) → check false passed index ts ≡ answer 0 values → literals ts ≡ ts
check-literals passed index values [] e = refl
check-literals (some at) index values (t ∷ ts) e = absurd (cc)
check-literals none index values (t ∷ ts) e =
    go (eqb index 32) (bad_token false index t) refl e (check-literals (tail_at (is_tail t) index) (index + 1) values ts)
  where
    go : (b : Bool) (o : Option Answer) → bad_token false index t ≡ o
        → pick b (answer 5 (33 ∷ [])) (unless o (check false (tail_at (is_tail t) index) (index + 1) ts)) ≡ answer 0 values
        → (check false (tail_at (is_tail t) index) (index + 1) ts ≡ answer 0 values → literals ts ≡ ts)
        → literals (t ∷ ts) ≡ t ∷ ts
    go true o q e ih = absurd (cc)
    go false (some (answer zero vs)) q e ih = absurd (token_refuses false index t vs q)
    go false (some (answer (suc k) vs)) q e ih = absurd (cc)
    go false none q e ih = rw (literal_token index t q) (ap (λ l. t ∷ l) (ih e))

pub subject-literals : (bs values : List ℕ) → grammar false bs ≡ answer 0 values → literals (tokens bs) ≡ tokens bs
unfolding grammar
subject-literals bs values e = go (ltb 4096 (length bs)) (first_bad bs) (eqb (length bs) 0) e
  where
    go : (b : Bool) (o : Option ℕ) (c : Bool)
        → pick b (answer 1 []) (unless (not_utf8 o) (pick c (answer 3 []) (check false none 0 (tokens bs)))) ≡ answer 0 values
        → literals (tokens bs) ≡ tokens bs
    go true o c e = absurd (cc)
    go false (some i) c e = absurd (cc)
    go false none true e = absurd (cc)
    go false none false e = check-literals none 0 values (tokens bs) e
