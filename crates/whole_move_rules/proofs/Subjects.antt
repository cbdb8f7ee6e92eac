-- The scan for a subject's own refusal finds none exactly if every subject is sound, and else the earliest.
use Prim.Native.Nat.{ℕ, zero, suc, ◌+◌}
use native.Mathlib.Omega.{arith}
use native.Mathlib.Nat.{add-zero}
use mathlib.Core.Path.{◌≡◌, refl, sym, ◌∙◌, ap, subst}
use mathlib.Core.Logic.{◌⊎◌, inl, inr}
use mathlib.Core.Bool.{Bool, true, false}
use mathlib.Core.List.{List, [], ◌∷◌, ◌++◌}
use mathlib.Core.Option.{none, some}
use lib.Dec.{ltb}
use lib.ListN.{length}
use borrow.Author.Tests.{lt-ltb, le-ltb, ltb-true, ltb-false}
use Rattle.subject_rules.specs.Answers.{Answer, answer}
use Rattle.subject_rules.specs.Grammar.{grammar}
use Rattle.sublist_tree.specs.Lists.{All}
use Rattle.whole_move_rules.specs.Move.{Span, text_at, bad_subject, bad_subjects}
use Rattle.whole_move_rules.specs.Asked.{Sound, OwnRefusal, outside, text_refused}

-- the place of a subject behind one more
pub one_on : (place n : ℕ) → place + 1 + n ≡ place + suc n
one_on place n = omega arith

module _ (bytes : List ℕ) where
  -- one subject
  pub sound_passes : (place : ℕ) (x : Span) → Sound bytes x → bad_subject bytes place x ≡ none
  sound_passes place x s = rw (le-ltb (length bytes) (x.start + x.length) s.inside, s.accepted)

  pub own_refuses : (place : ℕ) (x : Span) (r : Answer) → OwnRefusal bytes x place r → bad_subject bytes place x ≡ some r
  own_refuses place x r (outside h e) = rw (lt-ltb (length bytes) (x.start + x.length) h, e)
  own_refuses place x r (text_refused n values h g e) = rw (le-ltb (length bytes) (x.start + x.length) h, g, e)

  subject-is : (place : ℕ) (x : Span) → Sound bytes x ⊎ ((r : Answer) × OwnRefusal bytes x place r)
  subject-is place x = go (ltb (length bytes) (x.start + x.length)) refl (grammar false (text_at bytes x)) refl
    where
      go : (b : Bool) → ltb (length bytes) (x.start + x.length) ≡ b → (g : Answer) → grammar false (text_at bytes x) ≡ g → Sound bytes x ⊎ ((r : Answer) × OwnRefusal bytes x place r)
      go true e g q = inr (answer 12 (place ∷ []), outside (ltb-true _ _ e) refl)
      go false e (answer zero values) q = inl (record { inside = ltb-false _ _ e; values = values; accepted = q })
      go false e (answer (suc n) values) q = inr (answer (suc n) (place ∷ values), text_refused n values (ltb-false _ _ e) q refl)

  pub passes_sound : (place : ℕ) (x : Span) → bad_subject bytes place x ≡ none → Sound bytes x
  passes_sound place x e = go (subject-is place x)
    where
      go : Sound bytes x ⊎ ((r : Answer) × OwnRefusal bytes x place r) → Sound bytes x
      go (inl s) = s
      go (inr o) = let q : some o.0 ≡ none = sym (own_refuses place x o.0 o.1) ∙ e in absurd (cc)

  -- all of them
  pub all_pass : (place : ℕ) (xs : List Span) → All (Sound bytes) xs → bad_subjects bytes place xs ≡ none
  all_pass place [] a = refl
  all_pass place (x ∷ xs) a = rw (sound_passes place x a.0) (all_pass (place + 1) xs a.1)

  pub earliest_refuses : (place : ℕ) (front rest : List Span) (x : Span) (r : Answer) → All (Sound bytes) front → OwnRefusal bytes x (place + length front) r
      → bad_subjects bytes place (front ++ (x ∷ rest)) ≡ some r
  earliest_refuses place [] rest x r a o =
      rw (own_refuses place x r (subst (λ p. OwnRefusal bytes x p r) (add-zero place) o))
  earliest_refuses place (y ∷ front) rest x r a o =
      rw (sound_passes place y a.0) (earliest_refuses (place + 1) front rest x r a.1 (subst (λ p. OwnRefusal bytes x p r) (sym (one_on place (length front))) o))

  -- the earliest subject that is not sound
  pub record Earliest (place : ℕ) (xs : List Span) : Type 0 where
    pub front : List Span
    pub rest : List Span
    pub at : Span
    pub refusal : Answer
    pub split : xs ≡ front ++ (at ∷ rest)
    pub sound : All (Sound bytes) front
    pub own : OwnRefusal bytes at (place + length front) refusal

  pub subjects_are : (place : ℕ) (xs : List Span) → All (Sound bytes) xs ⊎ Earliest place xs
  subjects_are place [] = inl tt
  subjects_are place (x ∷ xs) = go (subject-is place x) (subjects_are (place + 1) xs)
    where
      go : Sound bytes x ⊎ ((r : Answer) × OwnRefusal bytes x place r) → All (Sound bytes) xs ⊎ Earliest (place + 1) xs → All (Sound bytes) (x ∷ xs) ⊎ Earliest place (x ∷ xs)
      go (inl s) (inl a) = inl (s, a)
      go (inl s) (inr e) = inr (record {
        front = x ∷ e.front;
        rest = e.rest;
        at = e.at;
        refusal = e.refusal;
        split = ap (λ ys. x ∷ ys) e.split;
        sound = (s, e.sound);
        own = subst (λ p. OwnRefusal bytes e.at p e.refusal) (one_on place (length e.front)) e.own;
      })
      go (inr o) later = inr (record {
        front = [];
        rest = xs;
        at = x;
        refusal = o.0;
        split = refl;
        sound = tt;
        own = subst (λ p. OwnRefusal bytes x p o.0) (sym (add-zero place)) o.1;
      })
