-- Runs of stores from the first place of a list on, as far as it goes.
use Rattle.std.proofs.Common.{◌≡◌, ℕ, zero, suc, ◌+◌, ◌-◌, ◌<◌, ◌≤◌, min, List, [], ◌∷◌, ◌++◌, length, get_or, take, drop, refl, sym, ap, ◌∙◌, ⊎_elim, append-nil, zero-add, take_all, length-take, length-drop, drop_of_length-le, arith}
use lib.ListN.{set}
use lib.Seq.{sets, take-suc-set}
use borrow.Rule.Slice.PartMut.{post_of}
use Rattle.std.proofs.lemmas.Bool.{cases_lt}
use Rattle.std.proofs.lemmas.List.Edits.{paste_more}
use Rattle.std.proofs.lemmas.Slice.{between_to_end}
use Rattle.subject_rules.proofs.Stores.{sets-out, sets-append}

-- the first element alone
pub first_set : (l : List ℕ) (x : ℕ) → 0 < length l → take 1 (set l 0 x) ≡ x ∷ []
first_set l x h = take-suc-set l 0 x h

-- behind the first element
sets_cons : (x : ℕ) (l : List ℕ) (at : ℕ) (vs : List ℕ) → sets (x ∷ l) (suc at) vs ≡ x ∷ sets l at vs
sets_cons x l at [] = refl
sets_cons x [] at (v ∷ vs) = sets_cons x [] (suc at) vs
sets_cons x (y ∷ l) zero (v ∷ vs) = sets_cons x (v ∷ l) 1 vs
sets_cons x (y ∷ l) (suc at) (v ∷ vs) = sets_cons x (y ∷ set l at v) (suc (suc at)) vs

-- a run from place r on is one from the first place of what stands behind r elements
sets_at : (r : ℕ) (l vs : List ℕ) → take r l ++ sets (drop r l) 0 vs ≡ sets l r vs
sets_at zero l vs = refl
sets_at (suc r) [] vs = sets-out [] 0 vs (omega arith) ∙ sym (sets-out [] (suc r) vs (omega arith))
sets_at (suc r) (x ∷ l) vs = ap (λ xs. x ∷ xs) (sets_at r l vs) ∙ sym (sets_cons x l r vs)

-- where a place is past the list, any other past it does
sets_least : (l vs : List ℕ) (k r : ℕ) → r ≡ min (length l) k → sets l r vs ≡ sets l k vs
sets_least l vs k r e =
    ⊎_elim (λ h. let d : r ≡ k = omega arith in ap (λ x. sets l x vs) d)
    (λ h. sets-out l r vs (omega arith) ∙ sym (sets-out l k vs (omega arith)))
    (cases_lt k (length l))

-- a copy, one word more
pub copied_more : (words out : List ℕ) (i : ℕ) → i < length words → i < length out → set (take i words ++ drop i out) i (get_or words i 0) ≡ take (i + 1) words ++ drop (i + 1) out
copied_more words out i h k = simp zero-add at (paste_more out 0 words i 0 (omega arith) h)

-- a copy of as much as there is room for
front_stored : (n : ℕ) (words out : List ℕ) → n ≡ min (length words) (length out) → take n words ++ drop n out ≡ sets out 0 words
front_stored zero [] out e = refl
front_stored zero (w ∷ ws) [] e = sym (sets-out [] 0 (w ∷ ws) (omega arith))
front_stored zero (w ∷ ws) (o ∷ os) e = absurd (omega arith)
front_stored (suc n) [] out e = absurd (omega arith)
front_stored (suc n) (w ∷ ws) [] e = absurd (omega arith)
front_stored (suc n) (w ∷ ws) (o ∷ os) e = ap (λ xs. w ∷ xs) (front_stored n ws os (omega arith)) ∙ sym (sets_cons w os 0 ws)

-- the same, as a loop over the n words ends
pub all_copied : (n i : ℕ) (words out : List ℕ) → n ≡ min (length words) (length out) → length (take n words) ≤ i → i ≤ length (take n words) → take i (take n words) ++ drop i out ≡ sets out 0 words
all_copied n i words out e f g =
    let d : i ≡ n = omega (arith, length-take {A = ℕ}) in
    rw (d, take_all n (take n words) (omega (arith, length-take {A = ℕ}))) (front_stored n words out e)

-- a copy's turn and its end
pub ruleset copies = (copied_more, all_copied, length-take)

-- a run us from the first place on, and then a run vs into what is left behind it, which was lent for that
pub behind_stored : (l us vs now after : List ℕ) (r : ℕ) → r ≡ min (length now) (length us) → now ≡ sets l 0 us → after ≡ sets (take (length now - r) (drop r now)) 0 vs
    → take r now ++ (after ++ post_of r (length now - r) now) ≡ sets l 0 (us ++ vs)
behind_stored l us vs now after r e f g =
    let none : drop (length now - r) (drop r now) ≡ [] = drop_of_length-le (drop r now) (omega (arith, length-drop r now)) in
    ap (λ xs. take r now ++ (after ++ xs)) none ∙ ap (λ xs. take r now ++ xs) (append-nil after ∙ g ∙ ap (λ xs. sets xs 0 vs) (between_to_end now r (length now) (omega arith)))
    ∙ sets_at r now vs ∙ sets_least now vs (length us) r e ∙ ap (λ xs. sets xs (length us) vs) f
    ∙ sym (sets-append l 0 us vs ∙ ap (λ k. sets (sets l 0 us) k vs) (zero-add (length us)))
