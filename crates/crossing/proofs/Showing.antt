-- What `put_crossing` puts together is the subject that is shown, a dot behind it.
use Prim.Native.Nat.{ℕ, suc, ◌+◌, ◌-◌, ◌≤◌, ◌<◌}
use native.Mathlib.Nat.{zero-add}
use native.Mathlib.Numerals.{add-one}
use native.Mathlib.Omega.{arith}
use mathlib.Core.Path.{◌≡◌, refl, ◌∙◌}
use mathlib.Core.Bool.{Bool, true, false}
use mathlib.Core.List.{List, [], ◌∷◌, ◌++◌, append_assoc, append-nil}
use mathlib.Core.Option.{Option, none, some}
use lib.Dec.{ltb, leb-suc-suc}
use lib.ListN.{length, length-append, take, drop, drop_of_length-le}
use lib.Seq.{set_out, sets, length-sets, sets-eq, length-take-le}
use borrow.Author.Tests.{lt-ltb, le-ltb}
use Rattle.std.proofs.Common as std
use Rattle.subject_rules.specs.Choice.{pick}
use Rattle.subject_rules.specs.Text.{tokens, joined}
use Rattle.subject_rules.specs.Answers.{answer}
use Rattle.subject_rules.specs.Outputs.{outcome}
use Rattle.subject_rules.proofs.Depths.{tokens_some}
use Rattle.subject_rules.proofs.Stores.{sets-append}
use Rattle.crossing_rules.proofs.Common.{If, common_some}
use Rattle.crossing_rules.specs.Crossing.{common, of_tokens, shown_for, show_in}
use Rattle.crossing.specs.declared.Writer.{Writer}
use Rattle.crossing.specs.Writing.{Progress, upto, nowhere, reached, dotted, progress, dotted_in}
use Rattle.crossing.specs.Puts.{reached_by}

dotted-joined : (ts : List (List ℕ)) → 1 ≤ length ts → dotted ts ≡ joined ts ++ (0x2e ∷ [])
dotted-joined [] h = absurd (omega arith)
dotted-joined (t ∷ []) h = refl
dotted-joined (t ∷ (u ∷ ts)) h = rw (append_assoc t (0x2e ∷ joined (u ∷ ts)) (0x2e ∷ []), dotted-joined (u ∷ ts) (omega arith))

-- a text, if there is one, is put with a dot behind it
abbrev text_put : Option (List ℕ) → List ℕ → Progress
text_put none out = nowhere
text_put (some s) out = upto (suc (length s)) (sets out 0 (s ++ (0x2e ∷ [])))

joined-put : (o : Option (List (List ℕ))) → If (λ ts. 1 ≤ length ts) o → (out : List ℕ) → progress o 0 out ≡ text_put (of_tokens o) out
unfolding progress
joined-put none h out = refl
joined-put (some ts) h out =
    rw (dotted-joined ts h, length-append (joined ts) (0x2e ∷ []), zero-add (length (joined ts) + 1), add-one (length (joined ts)), leb-suc-suc 4097 (length (joined ts))) (go (ltb 4096 (length (joined ts))))
  where
    go : (b : Bool) → pick b nowhere (upto (suc (length (joined ts))) (sets out 0 (joined ts ++ (0x2e ∷ [])))) ≡ text_put (pick b none (some (joined ts))) out
    go true = refl
    go false = refl

shown-put : (filler first second out : List ℕ) → progress (common filler (tokens first) (tokens second)) 0 out ≡ text_put (shown_for filler first second) out
unfolding shown_for
shown-put filler first second out = joined-put (common filler (tokens first) (tokens second)) (common_some filler (tokens first) (tokens second) (tokens_some first)) out

-- what a writer put from the first place on
module _ (filler first second out : List ℕ) (r : std.Option (Unit {0})) (v : Writer) (e : reached_by r v ≡ progress (common filler (tokens first) (tokens second)) 0 out) where
  put_is : (o : Option (List ℕ)) → shown_for filler first second ≡ o → reached_by r v ≡ text_put o out
  put_is o s = rw s at (e ∙ shown-put filler first second out)

  pub together_none : r ≡ std.None → nowhere ≡ dotted_in (shown_for filler first second) out
  together_none h = go (shown_for filler first second) (rw h at (put_is _ refl))
    where
      go : (o : Option (List ℕ)) → nowhere ≡ text_put o out → nowhere ≡ dotted_in o out
      go none f = refl
      go (some s) f = absurd (cc)

  module _ {u : Unit {0}} (h : r ≡ std.Some u) where
    pub together_some : 1 ≤ v.at
    together_some = go (shown_for filler first second) (rw h at (put_is _ refl))
      where
        go : (o : Option (List ℕ)) → upto v.at v.out.now ≡ text_put o out → 1 ≤ v.at
        go none f = absurd (cc)
        go (some s) f = let z : v.at ≡ suc (length s) = cc in omega arith

    pub together : (after : List ℕ) → after ≡ v.out.now → upto (v.at - 1) after ≡ dotted_in (shown_for filler first second) out
    together after k = rw k (go (shown_for filler first second) (rw h at (put_is _ refl)))
      where
        go : (o : Option (List ℕ)) → upto v.at v.out.now ≡ text_put o out → upto (v.at - 1) v.out.now ≡ dotted_in o out
        go none f = absurd (cc)
        go (some s) f =
            let z : v.at ≡ suc (length s) = cc in
            let w : v.out.now ≡ sets out 0 (s ++ (0x2e ∷ [])) = cc in
            let n : v.at - 1 ≡ length s = omega arith in
            rw (n, w)

-- where the output has as many places as the text has bytes, the dot falls outside
sets_whole : (out s : List ℕ) → length out ≡ length s → sets out 0 (s ++ (0x2e ∷ [])) ≡ s
sets_whole out s h =
    sets-append out 0 s (0x2e ∷ []) ∙ set_out (sets out 0 s) (0 + length s) 0x2e (omega (arith, length-sets out 0 s))
    ∙ sets-eq s out 0 (omega arith) ∙ (rw (drop_of_length-le out {i = 0 + length s} (omega arith)) (append-nil s))

-- the subject, if there is one, was put in no place, which says how long it is
module _ (o : Option (List ℕ)) (out : List ℕ) where
  pub shown-none : nowhere ≡ dotted_in o [] → outcome (answer 0 (0 ∷ [])) out ≡ show_in o out
  shown-none e = go o e
    where
      go : (o : Option (List ℕ)) → nowhere ≡ dotted_in o [] → outcome (answer 0 (0 ∷ [])) out ≡ show_in o out
      go none e = refl
      go (some s) e = absurd (cc)

  module _ (size : ℕ) (rest : List ℕ) (e : upto size rest ≡ dotted_in o []) where
    pub shown-short : length out < size → outcome (answer 21 (size ∷ [])) out ≡ show_in o out
    shown-short h = go o e
      where
        go : (o : Option (List ℕ)) → upto size rest ≡ dotted_in o [] → outcome (answer 21 (size ∷ [])) out ≡ show_in o out
        go none e = absurd (cc)
        go (some s) e = let same : size ≡ length s = cc in rw (same, lt-ltb (length out) (length s) (omega arith))

    -- then in so many places
    pub shown_whole : size ≤ length out → (r : std.Option ℕ) (left : List ℕ) → reached r left ≡ dotted_in o (take size out)
        → outcome (answer 0 (1 ∷ size ∷ [])) (left ++ drop size out) ≡ show_in o out
    shown_whole h r left f = go o r e f
      where
        go : (o : Option (List ℕ)) (r : std.Option ℕ) → upto size rest ≡ dotted_in o [] → reached r left ≡ dotted_in o (take size out)
            → outcome (answer 0 (1 ∷ size ∷ [])) (left ++ drop size out) ≡ show_in o out
        go none r e f = absurd (cc)
        go (some s) std.None e f = absurd (cc)
        go (some s) (std.Some m) e f =
            let same : size ≡ length s = cc in
            let put : left ≡ sets (take size out) 0 (s ++ (0x2e ∷ [])) = cc in
            let whole : left ≡ s = put ∙ sets_whole (take size out) s (length-take-le size out h ∙ same) in
            rw (same, le-ltb (length out) (length s) (omega arith), whole)

-- each way through `put_together`
pub ruleset all_together = (together_none, together_some, together)

-- each way through what is shown
pub ruleset showing = (shown-none, shown-short, shown_whole)
