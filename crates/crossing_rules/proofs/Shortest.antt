-- What two patterns' tokens have in common, beside any tokens that both match: it has no more bytes, and with the filler wherever both are
-- wild it is the only one that has no more.
use Prim.Native.Nat.{ℕ, zero, suc, ◌≤◌, ◌<◌}
use native.Mathlib.Omega.{arith}
use mathlib.Core.Path.{◌≡◌, refl, sym, ap, ◌∙◌}
use mathlib.Core.Bool.{Bool, true, false}
use mathlib.Core.List.{List, [], ◌∷◌, map}
use mathlib.Core.Option.{Option, none, some}
use lib.ListN.{length, get_or}
use Rattle.std.proofs.lemmas.Bool.{true≢false}
use Rattle.subject_rules.specs.Choice.{pick}
use Rattle.subject_rules.specs.Text.{is_star, is_tail}
use Rattle.subject_rules.specs.Matching.{match_tokens}
use Rattle.subject_rules.proofs.Booleans.{and_both, or_true}
use Rattle.sublist_tree.specs.Lists.{All}
use Rattle.sublist_tree.proofs.Bytes.{same-sound, same_whole}
use Rattle.crossing_rules.specs.Crossing.{plain, meet, followed, common}
use Rattle.crossing_rules.specs.Asked.{wild_at}
use Rattle.crossing_rules.proofs.Texts.{size}
use Rattle.crossing_rules.proofs.Legal.{TailLast}
use Rattle.crossing_rules.proofs.Common.{If, Is, by_tokens, fits}
use Rattle.crossing_rules.proofs.Meeting.{wild_star, by_meeting}

-- ---- one token

plain-tail : (filler q : List ℕ) → is_tail q ≡ true → plain filler q ≡ filler
plain-tail filler q e = rw (e, or_true (is_star q))

-- what a subject's token is that a pattern's token, not `>`, and the rest match
matched_on : (p u : List ℕ) (ps us : List (List ℕ)) → is_tail p ≡ false → match_tokens (p ∷ ps) (u ∷ us) ≡ true → (fits p u ≡ true) × (match_tokens ps us ≡ true)
matched_on p u ps us n m = and_both (fits p u) (match_tokens ps us) (rw n at m)

fits_literal : (p u : List ℕ) → is_star p ≡ false → fits p u ≡ true → p ≡ u
fits_literal p u s f = same-sound p u (rw s at f)

module _ (filler u : List ℕ) (P : List ℕ → Type 0) (at_u : P u) where
  -- in place of a pattern's token that matches u
  plain_with : (q : List ℕ) → is_tail q ≡ false → fits q u ≡ true → (is_star q ≡ true → P filler) → P (plain filler q)
  plain_with q n f w = rw (wild_star q n) (go (is_star q) refl)
    where
      go : (s : Bool) → is_star q ≡ s → P (pick s filler q)
      go true e = w e
      go false e = rw (fits_literal q u e f) at_u

  -- in common to two that match u
  meet_with : (p q : List ℕ) → is_tail p ≡ false → is_tail q ≡ false → fits p u ≡ true → fits q u ≡ true → (is_star p ≡ true → is_star q ≡ true → P filler)
      → Is P (meet filler p q)
  meet_with p q e g f h w =
      by_meeting filler p q e g (Is P) w
      (λ s t. rw (fits_literal q u t h) at_u)
      (λ s t. rw (fits_literal p u s f) at_u)
      (λ s t c. rw (fits_literal p u s f) at_u)
      (λ s t c. true≢false (sym (same_whole u) ∙ (rw (fits_literal p u s f, fits_literal q u t h) at c)))

-- ---- the fewest bytes

module _ (filler : List ℕ) (one : length filler ≡ 1) where
  abbrev Filled : List (List ℕ) → Type 0
  Filled us = All (λ u. 1 ≤ length u) us

  rest-short : (qs us : List (List ℕ)) → TailLast qs → match_tokens qs us ≡ true → Filled us → size (map (plain filler) qs) ≤ size us
  rest-short [] us l m a = omega arith
  rest-short (q ∷ qs) [] l m a = absurd (cc)
  rest-short (q ∷ qs) (u ∷ us) l m a = go (is_tail q) refl (λ x. rest-short qs us l.1 x a.1)
    where
      go : (b : Bool) → is_tail q ≡ b → (match_tokens qs us ≡ true → size (map (plain filler) qs) ≤ size us) → size (map (plain filler) (q ∷ qs)) ≤ size (u ∷ us)
      go true e h = rw (l.0 e) (omega (arith, ap length (plain-tail filler q e), one, a.0))
      go false e h =
          let r = matched_on q u qs us e m in
          let k : length (plain filler q) ≤ length u = plain_with filler u (λ t. length t ≤ length u) (omega arith) q e r.0 (λ s. omega (arith, a.0)) in
          omega (arith, h r.1)

  followed-short : (u : List ℕ) (us : List (List ℕ)) (o : Option (List ℕ)) (r : Option (List (List ℕ)))
      → Is (λ t. length t ≤ length u) o → Is (λ ts. size ts ≤ size us) r → Is (λ ts. size ts ≤ size (u ∷ us)) (followed o r)
  followed-short u us none r x y = x
  followed-short u us (some t) none x y = y
  followed-short u us (some t) (some ts) x y = omega arith

  -- where both match some tokens there is something in common, with no more bytes
  pub common-short : (ps qs us : List (List ℕ)) → TailLast ps → TailLast qs → match_tokens ps us ≡ true → match_tokens qs us ≡ true → Filled us
      → Is (λ ts. size ts ≤ size us) (common filler ps qs)
  common-short [] [] us l k m n a = omega arith
  common-short [] (q ∷ qs) [] l k m n a = cc
  common-short [] (q ∷ qs) (u ∷ us) l k m n a = cc
  common-short (p ∷ ps) [] [] l k m n a = cc
  common-short (p ∷ ps) [] (u ∷ us) l k m n a = cc
  common-short (p ∷ ps) (q ∷ qs) [] l k m n a = absurd (cc)
  common-short (p ∷ ps) (q ∷ qs) (u ∷ us) l k m n a =
      by_tokens filler p ps q qs (Is (λ ts. size ts ≤ size (u ∷ us)))
      (λ e. rest-short (q ∷ qs) (u ∷ us) k n a)
      (λ e g. rest-short (p ∷ ps) (u ∷ us) l m a)
      (λ e g.
      let x = matched_on p u ps us e m in
      let y = matched_on q u qs us g n in
      followed-short u us (meet filler p q) (common filler ps qs)
      (meet_with filler u (λ t. length t ≤ length u) (omega arith) p q e g x.0 y.0 (λ s t. omega (arith, a.0)))
      (common-short ps qs us l.1 k.1 x.1 y.1 a.1))

-- ---- the filler, and nothing else

-- tokens that have the filler where both patterns are wild
abbrev pub FilledAt : List ℕ → List (List ℕ) → List (List ℕ) → List (List ℕ) → Type 0
FilledAt filler ps qs us = (i : ℕ) → i < length us → wild_at ps i ≡ true → wild_at qs i ≡ true → get_or us i [] ≡ filler

wild_tail : (p : List ℕ) (ps : List (List ℕ)) (i : ℕ) → is_tail p ≡ true → wild_at (p ∷ ps) i ≡ true
wild_tail p ps zero e = rw e (or_true (is_star p))
wild_tail p ps (suc i) e = rw e

-- behind a token that is no `>`
wild_on : (p : List ℕ) (ps : List (List ℕ)) (i : ℕ) → is_tail p ≡ false → wild_at ps i ≡ true → wild_at (p ∷ ps) (suc i) ≡ true
wild_on p ps i n w = rw n w

wild_off : (p : List ℕ) (ps : List (List ℕ)) (i : ℕ) → is_tail p ≡ false → wild_at (p ∷ ps) (suc i) ≡ true → wild_at ps i ≡ true
wild_off p ps i n w = rw n at w

size_none : (us : List (List ℕ)) → size us ≤ 0 → us ≡ []
size_none [] h = refl
size_none (u ∷ us) h = absurd (omega arith)

module _ (filler : List ℕ) where
  rest-filled : (qs : List (List ℕ)) (i : ℕ) → TailLast qs → i < length (map (plain filler) qs) → wild_at qs i ≡ true → get_or (map (plain filler) qs) i [] ≡ filler
  rest-filled [] i l h w = absurd (omega arith)
  rest-filled (q ∷ qs) zero l h w = rw w
  rest-filled (q ∷ qs) (suc i) l h w = go (is_tail q) refl (rest-filled qs i l.1)
    where
      go : (b : Bool) → is_tail q ≡ b → (i < length (map (plain filler) qs) → wild_at qs i ≡ true → get_or (map (plain filler) qs) i [] ≡ filler)
          → get_or (map (plain filler) qs) i [] ≡ filler
      go true e r = absurd (omega (arith, h, ap (λ ts. length (map (plain filler) ts)) (l.0 e)))
      go false e r = r (omega arith) (wild_off q qs i e w)

  followed-filled : (p q : List ℕ) (ps qs : List (List ℕ)) → is_tail p ≡ false → is_tail q ≡ false → (o : Option (List ℕ)) (r : Option (List (List ℕ)))
      → If (λ t. is_star p ≡ true → is_star q ≡ true → t ≡ filler) o → If (FilledAt filler ps qs) r → If (FilledAt filler (p ∷ ps) (q ∷ qs)) (followed o r)
  followed-filled p q ps qs e g none r x y = tt
  followed-filled p q ps qs e g (some t) none x y = tt
  followed-filled p q ps qs e g (some t) (some ts) x y = go
    where
      go : FilledAt filler (p ∷ ps) (q ∷ qs) (t ∷ ts)
      go zero h v w = x (sym (wild_star p e) ∙ v) (sym (wild_star q g) ∙ w)
      go (suc i) h v w = y i (omega arith) (wild_off p ps i e v) (wild_off q qs i g w)

  -- a position wild in both has the filler
  pub common-filled : (ps qs : List (List ℕ)) → TailLast ps → TailLast qs → If (FilledAt filler ps qs) (common filler ps qs)
  common-filled [] [] l k = λ i h v w. absurd (omega arith)
  common-filled [] (q ∷ qs) l k = tt
  common-filled (p ∷ ps) [] l k = tt
  common-filled (p ∷ ps) (q ∷ qs) l k =
      let rest = common-filled ps qs l.1 k.1 in
      by_tokens filler p ps q qs (If (FilledAt filler (p ∷ ps) (q ∷ qs)))
      (λ e i h v w. rest-filled (q ∷ qs) i k h w)
      (λ e g i h v w. rest-filled (p ∷ ps) i l h v)
      (λ e g. followed-filled p q ps qs e g (meet filler p q) (common filler ps qs)
      (by_meeting filler p q e g (If (λ t. is_star p ≡ true → is_star q ≡ true → t ≡ filler))
      (λ s t u v. refl)
      (λ s t u v. absurd (cc))
      (λ s t u v. absurd (cc))
      (λ s t c u v. absurd (cc))
      (λ s t c. tt))
      rest)

  rest-only : (qs us : List (List ℕ)) → TailLast qs → match_tokens qs us ≡ true → ((i : ℕ) → i < length us → wild_at qs i ≡ true → get_or us i [] ≡ filler)
      → size us ≤ size (map (plain filler) qs) → us ≡ map (plain filler) qs
  rest-only [] [] l m f h = refl
  rest-only [] (u ∷ us) l m f h = absurd (cc)
  rest-only (q ∷ qs) [] l m f h = absurd (cc)
  rest-only (q ∷ qs) (u ∷ us) l m f h = go (is_tail q) refl (rest-only qs us l.1)
    where
      go : (b : Bool) → is_tail q ≡ b
          → (match_tokens qs us ≡ true → ((i : ℕ) → i < length us → wild_at qs i ≡ true → get_or us i [] ≡ filler) → size us ≤ size (map (plain filler) qs) → us ≡ map (plain filler) qs)
          → u ∷ us ≡ map (plain filler) (q ∷ qs)
      go true e r =
          let x : u ≡ filler = f 0 (omega arith) (wild_tail q qs 0 e) in
          let y = plain-tail filler q e in
          let z : map (plain filler) qs ≡ [] = rw (l.0 e) in
          let w : us ≡ [] = size_none us (omega (arith, h, ap length x, ap length y, ap size z)) in
          cc
      go false e r =
          let n = matched_on q u qs us e m in
          let x : u ≡ plain filler q =
          plain_with filler u (λ t. u ≡ t) refl q e n.0 (λ s. f 0 (omega arith) (wild_star q e ∙ s)) in
          let y = r n.1 (λ i k w. f (suc i) (omega arith) (wild_on q qs i e w)) (omega (arith, h, ap length x)) in
          cc

  followed-only : (u : List ℕ) (us : List (List ℕ)) (o : Option (List ℕ)) (r : Option (List (List ℕ)))
      → Is (λ t. u ≡ t) o → If (λ ts. size us ≤ size ts → us ≡ ts) r → If (λ ts. size (u ∷ us) ≤ size ts → u ∷ us ≡ ts) (followed o r)
  followed-only u us none r x y = tt
  followed-only u us (some t) none x y = tt
  followed-only u us (some t) (some ts) x y = λ h. let z = y (omega (arith, h, ap length x)) in cc

  -- tokens that both match, with the filler there and no more bytes, are these
  pub common-only : (ps qs us : List (List ℕ)) → TailLast ps → TailLast qs → match_tokens ps us ≡ true → match_tokens qs us ≡ true → FilledAt filler ps qs us
      → If (λ ts. size us ≤ size ts → us ≡ ts) (common filler ps qs)
  common-only [] [] us l k m n f = size_none us
  common-only [] (q ∷ qs) us l k m n f = tt
  common-only (p ∷ ps) [] us l k m n f = tt
  common-only (p ∷ ps) (q ∷ qs) [] l k m n f = absurd (cc)
  common-only (p ∷ ps) (q ∷ qs) (u ∷ us) l k m n f =
      by_tokens filler p ps q qs (If (λ ts. size (u ∷ us) ≤ size ts → u ∷ us ≡ ts))
      (λ e h. rest-only (q ∷ qs) (u ∷ us) k n (λ i x w. f i x (wild_tail p ps i e) w) h)
      (λ e g h. rest-only (p ∷ ps) (u ∷ us) l m (λ i x w. f i x w (wild_tail q qs i g)) h)
      (λ e g.
      let x = matched_on p u ps us e m in
      let y = matched_on q u qs us g n in
      followed-only u us (meet filler p q) (common filler ps qs)
      (meet_with filler u (λ t. u ≡ t) refl p q e g x.0 y.0 (λ s t. f 0 (omega arith) (wild_star p e ∙ s) (wild_star q g ∙ t)))
      (common-only ps qs us l.1 k.1 x.1 y.1 (λ i h v w. f (suc i) (omega arith) (wild_on p ps i e v) (wild_on q qs i g w))))
