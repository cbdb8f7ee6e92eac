-- What two patterns' tokens have in common: both match it, nothing shorter is matched by both, and a position wild in both has the filler.
use Prim.Native.Nat.{ℕ, zero, suc, ◌≤◌}
use native.Mathlib.Omega.{arith}
use mathlib.Core.Path.{◌≡◌, refl, ap}
use mathlib.Core.Bool.{Bool, true, false}
use mathlib.Core.List.{List, [], ◌∷◌, map}
use mathlib.Core.Option.{Option, none, some}
use lib.ListN.{length}
use Rattle.subject_rules.specs.Choice.{pick, or}
use Rattle.subject_rules.specs.Text.{is_star, is_tail, same}
use Rattle.subject_rules.specs.Matching.{match_tokens}
use Rattle.subject_rules.proofs.Booleans.{or_true}
use Rattle.sublist_tree.specs.Lists.{All}
use Rattle.sublist_tree.proofs.Bytes.{same-sound, same_whole}
use Rattle.crossing_rules.specs.Crossing.{is_wild, plain, meet, followed, common}
use Rattle.crossing_rules.proofs.Meeting.{wild_star, by_meeting}

-- what is said of something that there may be: of nothing, everything
abbrev pub If : {A : Type 0} → (A → Type 0) → Option A → Type 0
If P none = Unit {0}
If P (some a) = P a

-- what is said of something that there is
abbrev pub Is : {A : Type 0} → (A → Type 0) → Option A → Type 0
Is P none = ⊥
Is P (some a) = P a

pub if_is : {A : Type 0} (P : A → Type 0) (o : Option A) (a : A) → If P o → o ≡ some a → P a
if_is P none a h e = absurd (cc)
if_is P (some b) a h e = let q : b ≡ a = cc in rw q at h

pub is_if : {A : Type 0} (P : A → Type 0) (o : Option A) → Is P o → If P o
is_if P none h = tt
is_if P (some a) h = h

-- by the way through `common` that two tokens take: a `>` of the first, one of the second, neither
module _ (filler p : List ℕ) (ps : List (List ℕ)) (q : List ℕ) (qs : List (List ℕ)) (P : Option (List (List ℕ)) → Type 0) where
  pub by_tokens : (is_tail p ≡ true → P (some (map (plain filler) (q ∷ qs))))
      → (is_tail p ≡ false → is_tail q ≡ true → P (some (map (plain filler) (p ∷ ps))))
      → (is_tail p ≡ false → is_tail q ≡ false → P (followed (meet filler p q) (common filler ps qs)))
      → P (common filler (p ∷ ps) (q ∷ qs))
  by_tokens x y z = go (is_tail p) refl (is_tail q) refl
    where
      go : (a : Bool) → is_tail p ≡ a → (b : Bool) → is_tail q ≡ b → P (pick a (some (map (plain filler) (q ∷ qs))) (pick b (some (map (plain filler) (p ∷ ps))) (followed (meet filler p q) (common filler ps qs))))
      go true e b f = x e
      go false e true f = y e f
      go false e false f = z e f

-- a token in place of a pattern's
plain_of : (filler t : List ℕ) (P : List ℕ → Type 0) → P filler → (is_wild t ≡ false → P t) → P (plain filler t)
plain_of filler t P f l = go (is_wild t) refl
  where
    go : (w : Bool) → is_wild t ≡ w → P (pick w filler t)
    go true e = f
    go false e = l e

-- ---- each of its tokens is the filler or a literal of one of the two

abbrev Literals : (List ℕ → Type 0) → List (List ℕ) → Type 0
Literals P ps = All (λ t. is_wild t ≡ false → P t) ps

not_wild : (t : List ℕ) → is_star t ≡ false → is_tail t ≡ false → is_wild t ≡ false
not_wild t s n = rw (s, n)

module _ (filler : List ℕ) (P : List ℕ → Type 0) (f : P filler) where
  rest_all : (ps : List (List ℕ)) → Literals P ps → All P (map (plain filler) ps)
  rest_all [] l = tt
  rest_all (p ∷ ps) l = (plain_of filler p P f l.0, rest_all ps l.1)

  followed_all : (o : Option (List ℕ)) (r : Option (List (List ℕ))) → If P o → If (All P) r → If (All P) (followed o r)
  followed_all none r x y = tt
  followed_all (some t) none x y = tt
  followed_all (some t) (some ts) x y = (x, y)

  pub common_all : (ps qs : List (List ℕ)) → Literals P ps → Literals P qs → If (All P) (common filler ps qs)
  common_all [] [] l m = tt
  common_all [] (q ∷ qs) l m = tt
  common_all (p ∷ ps) [] l m = tt
  common_all (p ∷ ps) (q ∷ qs) l m =
      let rest = common_all ps qs l.1 m.1 in
      by_tokens filler p ps q qs (If (All P))
      (λ e. rest_all (q ∷ qs) m)
      (λ e g. rest_all (p ∷ ps) l)
      (λ e g. followed_all (meet filler p q) (common filler ps qs)
      (by_meeting filler p q e g (If P) (λ s t. f) (λ s t. m.0 (not_wild q t g)) (λ s t. l.0 (not_wild p s e)) (λ s t u. l.0 (not_wild p s e)) (λ s t u. tt))
      rest)

-- ---- it has a token, and no more than the longer of the two

followed-length : (n : ℕ) (o : Option (List ℕ)) (r : Option (List (List ℕ))) → If (λ ts. length ts ≤ n) r → If (λ ts. length ts ≤ suc n) (followed o r)
followed-length n none r x = tt
followed-length n (some t) none x = tt
followed-length n (some t) (some ts) x = omega arith

followed_some : (o : Option (List ℕ)) (r : Option (List (List ℕ))) → If (λ ts. 1 ≤ length ts) (followed o r)
followed_some none r = tt
followed_some (some t) none = tt
followed_some (some t) (some ts) = omega arith

module _ (filler : List ℕ) where
  rest-length : (ps : List (List ℕ)) → length (map (plain filler) ps) ≡ length ps
  rest-length [] = refl
  rest-length (p ∷ ps) = ap suc (rest-length ps)

  pub common-most : (n : ℕ) (ps qs : List (List ℕ)) → length ps ≤ n → length qs ≤ n → If (λ ts. length ts ≤ n) (common filler ps qs)
  common-most n [] [] h k = omega arith
  common-most n [] (q ∷ qs) h k = tt
  common-most n (p ∷ ps) [] h k = tt
  common-most zero (p ∷ ps) (q ∷ qs) h k = absurd (omega arith)
  common-most (suc n) (p ∷ ps) (q ∷ qs) h k =
      by_tokens filler p ps q qs (If (λ ts. length ts ≤ suc n))
      (λ e. omega (arith, rest-length qs))
      (λ e g. omega (arith, rest-length ps))
      (λ e g. followed-length n (meet filler p q) (common filler ps qs) (common-most n ps qs (omega arith) (omega arith)))

  pub common_some : (ps qs : List (List ℕ)) → 1 ≤ length ps → If (λ ts. 1 ≤ length ts) (common filler ps qs)
  common_some [] qs h = absurd (omega arith)
  common_some (p ∷ ps) [] h = tt
  common_some (p ∷ ps) (q ∷ qs) h =
      by_tokens filler p ps q qs (If (λ ts. 1 ≤ length ts))
      (λ e. omega arith) (λ e g. omega arith) (λ e g. followed_some (meet filler p q) (common filler ps qs))

-- ---- both match it

abbrev pub fits : List ℕ → List ℕ → Bool
fits p t = or (is_star p) (same p t)

fits_itself : (t : List ℕ) → fits t t ≡ true
fits_itself t = rw (same_whole t) (or_true (is_star t))

star-fits : (p t : List ℕ) → is_star p ≡ true → fits p t ≡ true
star-fits p t e = rw e

module _ (filler : List ℕ) where
  plain_fits : (q : List ℕ) → is_tail q ≡ false → fits q (plain filler q) ≡ true
  plain_fits q n = rw (wild_star q n) (go (is_star q) refl)
    where
      go : (s : Bool) → is_star q ≡ s → fits q (pick s filler q) ≡ true
      go true e = star-fits q filler e
      go false e = fits_itself q

  match_on : (p t : List ℕ) (ps ts : List (List ℕ)) → fits p t ≡ true → match_tokens ps ts ≡ true → match_tokens (p ∷ ps) (t ∷ ts) ≡ true
  match_on p t ps ts f m = rw (f, m) (go (is_tail p))
    where
      go : (b : Bool) → pick b true true ≡ true
      go true = refl
      go false = refl

  tail-matches : (p t : List ℕ) (ps ts : List (List ℕ)) → is_tail p ≡ true → match_tokens (p ∷ ps) (t ∷ ts) ≡ true
  tail-matches p t ps ts e = rw e

  rest-matched : (qs : List (List ℕ)) → match_tokens qs (map (plain filler) qs) ≡ true
  rest-matched [] = refl
  rest-matched (q ∷ qs) = go (is_tail q) refl (rest-matched qs)
    where
      go : (b : Bool) → is_tail q ≡ b → match_tokens qs (map (plain filler) qs) ≡ true → match_tokens (q ∷ qs) (map (plain filler) (q ∷ qs)) ≡ true
      go true e m = tail-matches q (plain filler q) qs (map (plain filler) qs) e
      go false e m = match_on q (plain filler q) qs (map (plain filler) qs) (plain_fits q e) m

  abbrev Matched : List (List ℕ) → List (List ℕ) → List (List ℕ) → Type 0
  Matched ps qs ts = (match_tokens ps ts ≡ true) × (match_tokens qs ts ≡ true)

  followed-matched : (p q : List ℕ) (ps qs : List (List ℕ)) (o : Option (List ℕ)) (r : Option (List (List ℕ)))
      → If (λ t. (fits p t ≡ true) × (fits q t ≡ true)) o → If (Matched ps qs) r → If (Matched (p ∷ ps) (q ∷ qs)) (followed o r)
  followed-matched p q ps qs none r x y = tt
  followed-matched p q ps qs (some t) none x y = tt
  followed-matched p q ps qs (some t) (some ts) x y = (match_on p t ps ts x.0 y.0, match_on q t qs ts x.1 y.1)

  meet-fits : (p q : List ℕ) → is_tail p ≡ false → is_tail q ≡ false → If (λ t. (fits p t ≡ true) × (fits q t ≡ true)) (meet filler p q)
  meet-fits p q e g =
      by_meeting filler p q e g (If (λ t. (fits p t ≡ true) × (fits q t ≡ true)))
      (λ s t. (star-fits p filler s, star-fits q filler t))
      (λ s t. (star-fits p q s, fits_itself q))
      (λ s t. (fits_itself p, star-fits q p t))
      (λ s t u. (fits_itself p, rw (same-sound p q u) (fits_itself q)))
      (λ s t u. tt)

  pub common-matched : (ps qs : List (List ℕ)) → If (Matched ps qs) (common filler ps qs)
  common-matched [] [] = (refl, refl)
  common-matched [] (q ∷ qs) = tt
  common-matched (p ∷ ps) [] = tt
  common-matched (p ∷ ps) (q ∷ qs) =
      let rest = common-matched ps qs in
      by_tokens filler p ps q qs (If (Matched (p ∷ ps) (q ∷ qs)))
      (λ e. (tail-matches p (plain filler q) ps (map (plain filler) qs) e, rest-matched (q ∷ qs)))
      (λ e g. (rest-matched (p ∷ ps), tail-matches q (plain filler p) qs (map (plain filler) ps) g))
      (λ e g. followed-matched p q ps qs (meet filler p q) (common filler ps qs) (meet-fits p q e g) rest)
