-- A subject as it is put together, token by token.
use Rattle.std.proofs.Common.{◌≡◌, ℕ, ◌+◌, ◌-◌, ◌≤◌, ◌<◌, min, ◌⊎◌, Bool, true, false, ltb, List, [], ◌∷◌, ◌++◌, length, take, drop, refl, sym, ap, ◌∙◌, append_assoc, add_assoc, length-append, inl, inr, arith}
use Rattle.std.proofs.Math.Option.{Option, none, some}
use Rattle.std.proofs.lemmas.Bool.{cases_lt}
use Rattle.std.proofs.lemmas.List.{take-append-drop, take_all, length-take-le}
use Rattle.std.proofs.Math.Seq.{take-length, length-sets}
use Rattle.std.proofs.lemmas.List.Edits.{sets, sets-eq}
use Rattle.std.proofs.lemmas.Slice.{put_mid-paste}
use borrow.Rule.Slice.PartMut.{put_mid}
use borrow.Author.Tests.{lt-ltb, le-ltb, ltb-true}
use Rattle.subject_rules.specs.Choice.{pick}
use Rattle.subject_rules.proofs.Stores.{sets-out, sets-append}
use Rattle.crossing_rules.specs.Crossing.{followed}
use Rattle.crossing.specs.Writing.{Progress, upto, nowhere, dotted, progress}

-- bytes copied to where a list has a place for each
copied : (out bs ys : List ℕ) (at n : ℕ) → n ≡ length bs → at + n ≤ length out → ys ≡ bs → put_mid at n out ys ≡ sets out at bs
copied out bs ys at n l h q = put_mid-paste at n out ys bs n q refl l ∙ (rw (l, take-length bs) (sym (sets-eq bs out at (omega arith))))

-- no more than the first n bytes are stored where the list ends behind them
cut : (out bs : List ℕ) (at n : ℕ) → n ≤ length bs → length out ≤ at + n → sets out at (take n bs) ≡ sets out at bs
cut out bs at n h l =
    let k = length-take-le n bs h in
    sym (sets-out (sets out at (take n bs)) (at + length (take n bs)) (drop n bs) (omega (arith, length-sets out at (take n bs), k)))
    ∙ sym (sets-append out at (take n bs) (drop n bs))
    ∙ ap (sets out at) (take-append-drop n bs)

-- bytes copied to a place, as far as the list goes
pub written : (out bs ys : List ℕ) (at start end : ℕ) → start ≡ min at (length out) → end ≡ min (at + length bs) (length out) → ys ≡ take (end - start) bs
    → put_mid start (end - start) out ys ≡ sets out at bs
written out bs ys at start end s e q = go (cases_lt (length out) at) (cases_lt (length out) (at + length bs))
  where
    go : (length out < at) ⊎ (at ≤ length out) → (length out < at + length bs) ⊎ (at + length bs ≤ length out) → put_mid start (end - start) out ys ≡ sets out at bs
    go (inl h) o =
        let none : end - start ≡ 0 = omega arith in
        copied out [] ys start (end - start) none (omega arith) (rw none at q) ∙ sym (sets-out out at bs (omega arith))
    go (inr h) (inl l) =
        let here : start ≡ at = omega arith in
        copied out (take (end - start) bs) ys start (end - start) (sym (length-take-le (end - start) bs (omega arith))) (omega arith) q
        ∙ cut out bs start (end - start) (omega arith) (omega arith) ∙ ap (λ (k : ℕ). sets out k bs) here
    go (inr h) (inr l) =
        let here : start ≡ at = omega arith in
        copied out bs ys start (end - start) (omega arith) (omega arith) (q ∙ take_all (end - start) bs (omega arith)) ∙ ap (λ (k : ℕ). sets out k bs) here

-- a token and the dot behind it
module _ (t : List ℕ) (at : ℕ) (out : List ℕ) where
  pub put-long : 4096 < at + length t → nowhere ≡ progress (some (t ∷ [])) at out
  unfolding progress
  put-long h = rw (length-append t (0x2e ∷ []), lt-ltb 4097 (at + (length t + 1)) (omega arith))

  pub put_whole : at + length t ≤ 4096 → (n m : ℕ) (half after : List ℕ) → n ≡ at + length t → half ≡ sets out at t → m ≡ n + 1 → after ≡ sets half n (0x2e ∷ [])
      → upto m after ≡ progress (some (t ∷ [])) at out
  unfolding progress
  put_whole h n m half after a c b d =
      rw (length-append t (0x2e ∷ []), le-ltb 4097 (at + (length t + 1)) (omega arith), sets-append out at t (0x2e ∷ []), d, c, b, a, add_assoc at (length t) 1)

-- bytes are put behind `at` bytes, unless a subject may not have so many
abbrev stored : Bool → List ℕ → ℕ → List ℕ → Progress
stored long bs at out = pick long nowhere (upto (at + length bs) (sets out at bs))

-- more tokens are put behind those that were
abbrev pub onward : Progress → Option (List (List ℕ)) → Progress
onward (upto n out) rest = progress rest n out
onward nowhere rest = nowhere

onward_none : (p : Progress) → nowhere ≡ onward p none
unfolding progress
onward_none (upto n out) = refl
onward_none nowhere = refl

put_first : (t : List ℕ) (ts : List (List ℕ)) (at : ℕ) (out : List ℕ) → progress (some (t ∷ ts)) at out ≡ onward (progress (some (t ∷ [])) at out) (some ts)
unfolding progress
put_first t ts at out = rw (← append_assoc t (0x2e ∷ []) (dotted ts)) (go (t ++ (0x2e ∷ [])) _ refl)
  where
    go : (us : List ℕ) (long : Bool) → ltb 4097 (at + length us) ≡ long
        → stored (ltb 4097 (at + length (us ++ dotted ts))) (us ++ dotted ts) at out ≡ onward (stored long us at out) (some ts)
    go us true l = rw (lt-ltb 4097 (at + length (us ++ dotted ts)) (omega (arith, ltb-true 4097 (at + length us) l, length-append us (dotted ts))))
    go us false l = rw (length-append us (dotted ts), sets-append out at us (dotted ts), add_assoc at (length us) (length (dotted ts)))

-- a token, if there is one, and those behind it
pub put-followed : (o : Option (List ℕ)) (rest : Option (List (List ℕ))) (at : ℕ) (out : List ℕ)
    → progress (followed o rest) at out ≡ onward (progress (followed o (some [])) at out) rest
unfolding progress
put-followed none rest at out = refl
put-followed (some t) none at out = onward_none (progress (some (t ∷ [])) at out)
put-followed (some t) (some ts) at out = put_first t ts at out

-- each way through `put`
pub ruleset putting = (put-long, put_whole)
