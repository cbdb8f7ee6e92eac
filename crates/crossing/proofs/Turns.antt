-- What each way through a turn of the loops of `put_rest` and `put_crossing` makes of the subject.
use Rattle.std.proofs.Common.{◌≡◌, ℕ, ◌≤◌, Bool, true, false, List, [], ◌∷◌, map, sym, ◌∙◌, ap, add-zero}
use Rattle.std.proofs.Common as std
use Rattle.std.proofs.Math.Option.{Option, some}
use borrow.Author.Tests.{le-ltb}
use Rattle.subject_rules.specs.Text.{is_tail}
use Rattle.crossing_rules.specs.Crossing.{meet, followed, common}
use Rattle.crossing.specs.declared.Writer.{Writer}
use Rattle.crossing.specs.Writing.{upto, nowhere, progress}
use Rattle.crossing.specs.Puts.{reached_by}
use Rattle.crossing.proofs.Putting.{onward, put-followed}

-- no token is left to put
pub put_none : (n : ℕ) (out : List ℕ) → n ≤ 4097 → upto n out ≡ progress (some []) n out
unfolding progress
put_none n out h = rw (add-zero n, le-ltb 4097 n h)

-- a token, if there is one, was put behind `at` bytes; those behind it come next
module _ (o : Option (List ℕ)) (at : ℕ) (out : List ℕ) (r : std.Option (Unit {0})) (v : Writer) (p : reached_by r v ≡ progress (followed o (some [])) at out) (rest : Option (List (List ℕ))) where
  put_then : onward (reached_by r v) rest ≡ progress (followed o rest) at out
  put_then = ap (λ q. onward q rest) p ∙ sym (put-followed o rest at out)

  pub put-stops : r ≡ std.None → nowhere ≡ progress (followed o rest) at out
  put-stops h = rw h at put_then

  pub put_goes : {u : Unit {0}} → r ≡ std.Some u → progress rest v.at v.out.now ≡ progress (followed o rest) at out
  put_goes h = rw h at put_then

-- two patterns' next tokens, neither of them `>`
pub no_tail : (filler p q : List ℕ) (ps qs : List (List ℕ)) (tail last : Bool) → tail ≡ is_tail p → tail ≡ false → last ≡ is_tail q → last ≡ false
    → common filler (p ∷ ps) (q ∷ qs) ≡ followed (meet filler p q) (common filler ps qs)
no_tail filler p q ps qs tail last t n u m = rw (← t, n, ← u, m)

-- the same of a token that there is
module _ (t : List ℕ) (ts : List (List ℕ)) (at : ℕ) (out : List ℕ) (r : std.Option (Unit {0})) (v : Writer) where
  pub rest-stops : reached_by r v ≡ progress (some (t ∷ [])) at out → r ≡ std.None → progress (some (t ∷ ts)) at out ≡ nowhere
  rest-stops p h = sym (put-stops (some t) at out r v p (some ts) h)

  pub rest_goes : {u : Unit {0}} → reached_by r v ≡ progress (some (t ∷ [])) at out → r ≡ std.Some u → progress (some (t ∷ ts)) at out ≡ progress (some ts) v.at v.out.now
  rest_goes p h = sym (put_goes (some t) at out r v p (some ts) h)

-- each way through a turn
pub ruleset turns = (put_none, rest-stops, rest_goes, put-stops, put_goes, no_tail)
