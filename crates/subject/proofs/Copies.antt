-- A copy over the first of some items, as many as there is room for.
use Rattle.std.proofs.Common.{◌≡◌, ℕ, zero, suc, ◌+◌, ◌<◌, min, List, [], ◌∷◌, ◌++◌, length, get_or, take, drop, refl, ap, ◌∙◌, zero-add, append-nil, take_all, drop_of_length-le, arith, length-take}
use lib.ListN.{set}
use Rattle.std.proofs.lemmas.List.Edits.{paste_more}

module _ {A : Type 0} where
  -- one item more
  pub copied_more : (items out : List A) (i : ℕ) (d : A) → i < length items → i < length out
      → set (take i items ++ drop i out) i (get_or items i d) ≡ take (i + 1) items ++ drop (i + 1) out
  copied_more items out i d h k = simp zero-add at (paste_more out 0 items i d (omega arith) h)

  fronts : (n : ℕ) (items out : List A) → n ≡ min (length items) (length out) → take n items ++ drop n out ≡ take (length out) items ++ drop (length items) out
  fronts zero [] [] e = refl
  fronts zero [] (o ∷ os) e = refl
  fronts zero (x ∷ xs) [] e = refl
  fronts zero (x ∷ xs) (o ∷ os) e = absurd (omega arith)
  fronts (suc n) [] out e = absurd (omega arith)
  fronts (suc n) (x ∷ xs) [] e = absurd (omega arith)
  fronts (suc n) (x ∷ xs) (o ∷ os) e = ap (λ l. x ∷ l) (fronts n xs os (omega arith))

  -- as the loop over n of them ends
  pub all_copied : (n i : ℕ) (items out : List A) → n ≡ min (length items) (length out) → i ≡ n
      → take i (take n items) ++ drop i out ≡ take (length out) items ++ drop (length items) out
  all_copied n i items out e f =
      ap (λ k. take k (take n items) ++ drop k out) f ∙ ap (λ l. l ++ drop n out) (take_all n (take n items) (omega (arith, length-take n items))) ∙ fronts n items out e

  -- items of one number
  pub copied_whole : (items out after : List A) → after ≡ take (length out) items ++ drop (length items) out → length items ≡ length out → after ≡ items
  copied_whole items out after e f = e ∙ ap (λ l. take (length out) items ++ l) (drop_of_length-le out (omega arith)) ∙ append-nil (take (length out) items) ∙ take_all (length out) items (omega arith)

  pub ruleset copies = (copied_more, all_copied, copied_whole, length-take)
