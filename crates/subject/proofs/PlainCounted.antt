-- What one pass over a plain text has shown of its bytes and tokens.
use Rattle.std.proofs.Common.{◌≡◌, ℕ, ◌+◌, ◌<◌, ◌≤◌, Bool, true, false, eqb, ltb, leb, List, [], ◌∷◌, Option, None, Some, length, refl, arith, ltb-false, le-ltb, ne_eqb, leb-false}
use mathlib.Core.Option.{none}
use Rattle.subject_rules.specs.Choice.{pick, and, or}
use Rattle.subject_rules.specs.Text.{cut_at, tokens, is_star, is_tail}
use Rattle.subject_rules.specs.Grammar.{bad_char, bad_chars}
use Rattle.subject_rules.proofs.Booleans.{or_left, or_right}
use Rattle.subject.specs.Spelling.{is_dot, is_barred}
use Rattle.subject.specs.Plain.{one, plain_from}
use Rattle.subject.proofs.Sequences.{Ascii}

-- what is known of a byte that is not barred
pub record Fair (b : ℕ) : Type 0 where
  shown : 0x20 ≤ b
  ascii : b < 0x7f
  no_star : eqb b 0x2a ≡ false
  no_tail : eqb b 0x3e ≡ false

fair : (b : ℕ) → is_barred b ≡ false → Fair b
fair b e =
    let p = or_left (or (ltb b 0x20) (leb 0x7f b)) (or (eqb b 0x2a) (eqb b 0x3e)) e in
    let q = or_right (or (ltb b 0x20) (leb 0x7f b)) (or (eqb b 0x2a) (eqb b 0x3e)) e in
    record {
      shown = ltb-false b 0x20 (or_left (ltb b 0x20) (leb 0x7f b) p);
      ascii = leb-false 0x7f b (or_right (ltb b 0x20) (leb 0x7f b) p);
      no_star = or_left (eqb b 0x2a) (eqb b 0x3e) q;
      no_tail = or_right (eqb b 0x2a) (eqb b 0x3e) q;
    }

-- rules 8 and 9 have nothing to say of it
fair_char : (index b : ℕ) → Fair b → bad_char index b ≡ none
fair_char index b f = rw (le-ltb b 0x20 f.shown, ne_eqb b 0x7f (λ e. omega (arith, e, f.ascii)), f.no_star, f.no_tail)

-- bytes that are not barred
abbrev pub Fairs : List ℕ → Type 0
Fairs [] = Unit {0}
Fairs (b ∷ bs) = Fair b × Fairs bs

pub fair_chars : (index : ℕ) (bs : List ℕ) → Fairs bs → bad_chars index bs ≡ none
fair_chars index [] f = refl
fair_chars index (b ∷ bs) f = rw (fair_char index b f.0) (fair_chars index bs f.1)

pub no_wildcard : (b : ℕ) (bs : List ℕ) → Fair b → (is_star (b ∷ bs) ≡ false) × (is_tail (b ∷ bs) ≡ false)
no_wildcard b [] f = (f.no_star, f.no_tail)
no_wildcard b (c ∷ bs) f = (refl, refl)

-- tokens of such bytes, none of them empty
abbrev pub Legal : List ℕ → Type 0
Legal [] = ⊥
Legal (b ∷ bs) = Fair b × Fairs bs

abbrev pub Legals : List (List ℕ) → Type 0
Legals [] = Unit {0}
Legals (t ∷ ts) = Legal t × Legals ts

-- the same of the tokens of what is left of a text; in front of the first there is a dot, or else some of its bytes
abbrev pub Left : Bool → List (List ℕ) → Type 0
Left dot [] = ⊥
Left true (t ∷ ts) = Legal t × Legals ts
Left false (t ∷ ts) = Fairs t × Legals ts

pub left_all : (ts : List (List ℕ)) → Left true ts → Legals ts
left_all [] l = absurd l
left_all (t ∷ ts) l = l

-- a byte in front
left-joined : (dot : Bool) (b : ℕ) (ts : List (List ℕ)) → Fair b → Left false ts → Left dot (cut_at false b ts)
left-joined dot b [] f l = absurd l
left-joined true b (t ∷ ts) f l = ((f, l.0), l.1)
left-joined false b (t ∷ ts) f l = ((f, l.0), l.1)

length-joined : (b : ℕ) (ts : List (List ℕ)) → Left false ts → length (cut_at false b ts) ≡ length ts
length-joined b [] l = absurd l
length-joined b (t ∷ ts) l = refl

-- what a pass that gives r behind n dots has shown of the bytes left and their tokens
pub record Counted (dot : Bool) (n r : ℕ) (bs : List ℕ) (ts : List (List ℕ)) : Type 0 where
  pub left : Left dot ts
  pub count : r ≡ n + length ts
  pub most : n + length ts ≤ 32
  pub ascii : Ascii bs

-- a byte that is no dot in front
counted-joined : (dot : Bool) (n r b : ℕ) (bs : List ℕ) → is_barred b ≡ false → Counted false (n + 0) r bs (tokens bs) → Counted dot n r (b ∷ bs) (cut_at false b (tokens bs))
counted-joined dot n r b bs e m =
    let f = fair b e in
    let j = length-joined b (tokens bs) m.left in
    record { left = left-joined dot b (tokens bs) f m.left; count = omega (arith, j, m.count); most = omega (arith, j, m.most); ascii = (omega (arith, f.ascii), m.ascii) }

pub counted : (bs : List ℕ) (dot : Bool) (n r : ℕ) → plain_from dot n bs ≡ Some r → Counted dot n r bs (tokens bs)
counted [] dot n r h = go dot (leb 32 n) refl h
  where
    go : (d l : Bool) → leb 32 n ≡ l → pick (or d l) None (Some (n + 1)) ≡ Some r → Counted d n r [] ([] ∷ [])
    go true l e h = let y : ◌≡◌ {A = Option ℕ} None (Some r) = h in cc
    go false true e h = let y : ◌≡◌ {A = Option ℕ} None (Some r) = h in cc
    go false false e h = let y : n + 1 ≡ r = cc in record { left = (tt, tt); count = omega (arith, y); most = omega (arith, leb-false 32 n e); ascii = tt }
counted (b ∷ bs) dot n r h = go dot (is_barred b) refl (is_dot b) h (λ k. counted bs (is_dot b) (n + one (is_dot b)) r k)
  where
    go : (d o : Bool) → is_barred b ≡ o → (k : Bool) → pick (or o (and d k)) None (plain_from k (n + one k) bs) ≡ Some r
        → (plain_from k (n + one k) bs ≡ Some r → Counted k (n + one k) r bs (tokens bs))
        → Counted d n r (b ∷ bs) (cut_at k b (tokens bs))
    go d true e k h c = let y : ◌≡◌ {A = Option ℕ} None (Some r) = h in cc
    go true false e true h c = let y : ◌≡◌ {A = Option ℕ} None (Some r) = h in cc
    go false false e true h c =
        let m = c h in
        let f = fair b e in
        record { left = (tt, left_all (tokens bs) m.left); count = omega (arith, m.count); most = omega (arith, m.most); ascii = (omega (arith, f.ascii), m.ascii) }
    go true false e false h c = counted-joined true n r b bs e (c h)
    go false false e false h c = counted-joined false n r b bs e (c h)
