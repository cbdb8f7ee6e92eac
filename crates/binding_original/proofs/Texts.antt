-- A call with a subject on both sides: its text is refused by both, or by an added number of ours alone; then 21; then what it gives.
--
--   verdict_same       single_home list ≡ verdict_of (single-home list)
--   compared_handed    what ours gives for a text that is not empty is told by theirs → Compared of ours, which hands back the list or turns back, and theirs, behind `parse_literal`
use Prim.Native.Nat.{ℕ, ◌≤◌}
use mathlib.Core.Path.{◌≡◌, refl, sym, subst}
use mathlib.Core.Bool.{Bool, true, false}
use mathlib.Core.List.{List, [], ◌∷◌}
use lib.Dec.{ltb}
use lib.ListN.{length}
use Rattle.subject_rules.specs.Choice.{pick, or}
use Rattle.subject_rules.specs.Answers.{Answer, answer}
use Rattle.subject_rules.specs.Grammar.{grammar}
use Rattle.subject_rules.specs.Original as subject
use Rattle.subject_rules.specs.Original.{Error, Empty, EmptyToken, IllegalChar, ControlChar, WildcardNotAllowed, TailWildcardNotLast, TooDeep, validate, answer_of}
use Rattle.subject_rules.proofs.SameGrammar.{grammar_original, TextKind, overlong, wrong, plain, kind_of}
use Rattle.sublist_original.specs.Original.{Outcome, Ok}
use Rattle.resolve_cache_rules.specs.Cache.{Handed, turned_back, gives}
use Rattle.resolve_cache_rules.proofs.Faithful.{unless_text, fitting, accepted_some}
use Rattle.binding.specs.Verdict.{single_home}
use Rattle.binding.specs.Calls as ours
use Rattle.binding_original.specs.Original.{single-home}
use Rattle.binding_original.specs.Calls.{World, Told, refused, told, parsed, verdict_of, added, refusing, Answered, Compared}

-- the verdict on a list
pub verdict_same : (list : List ℕ) → single_home list ≡ verdict_of (single-home list)
verdict_same [] = refl
verdict_same (x ∷ []) = refl
verdict_same (x ∷ (y ∷ zs)) = refl

-- what is handed back, as a reply
abbrev pub reply_of : (List ℕ → ours.Reply) → Handed → ours.Reply
reply_of give (turned_back r) = ours.refused r
reply_of give (gives list) = give list

-- their call does not panic, and our answer is theirs if it is compared
abbrev pub Given : Bool → ours.Reply → Outcome (Told × World) → (World → Type 0) → Type 0
Given compared r given rest = (x : Told × World) × (given ≡ Ok x) × (pick compared ((more : List ℕ) × (r ≡ told more x.0)) (Unit {0})) × rest x.1

-- `Rest` is asked of what is there then, by what ours hands back; a call that turns back leaves what is there
pub compared_handed : (compared : Bool) (text list : List ℕ) (room : ℕ) (give : List ℕ → ours.Reply) (w : World) (theirs : Outcome (Told × World)) (Rest : Handed → World → Type 0)
    → ((r : Answer) → Rest (turned_back r) w) → added (give list) ≡ false → refusing (give list) ≡ false → (1 ≤ length text → Given compared (give list) theirs (Rest (gives list)))
    → Compared compared (reply_of give (unless_text (grammar false text) (fitting room list))) w (parsed (validate text false) w theirs) (Rest (unless_text (grammar false text) (fitting room list)))
compared_handed compared text list room give w theirs Rest here plainly calm accepted = go (kind_of false text)
  where
    Goal : Answer → Outcome (Told × World) → Type 0
    Goal a given = Compared compared (reply_of give (unless_text a (fitting room list))) w given (Rest (unless_text a (fitting room list)))

    same : (a : Answer) (e : Error) → ours.refused a ≡ told [] (refused e)
        → Answered compared (ours.refused a) (Ok (refused e, w)) (Rest (turned_back a))
    same a e q = ((refused e, w), refl, ([], q), here a)

    -- Kept: by `error-number` it would need bounds on the number, and a law of `added_number`: as long as the seven cases
    by_error : (e : Error) → Goal (answer_of (subject.Err e)) (Ok (refused e, w))
    by_error Empty = same (answer_of (subject.Err Empty)) Empty refl
    by_error (EmptyToken index) = same (answer_of (subject.Err (EmptyToken index))) (EmptyToken index) refl
    by_error (IllegalChar ch index) = same (answer_of (subject.Err (IllegalChar ch index))) (IllegalChar ch index) refl
    by_error (ControlChar ch index) = same (answer_of (subject.Err (ControlChar ch index))) (ControlChar ch index) refl
    by_error (WildcardNotAllowed ch index) = same (answer_of (subject.Err (WildcardNotAllowed ch index))) (WildcardNotAllowed ch index) refl
    by_error (TailWildcardNotLast index) = same (answer_of (subject.Err (TailWildcardNotLast index))) (TailWildcardNotLast index) refl
    by_error (TooDeep depth) = same (answer_of (subject.Err (TooDeep depth))) (TooDeep depth) refl

    by_room : 1 ≤ length text → (b : Bool) → Compared compared (reply_of give (pick b (turned_back (answer 21 (length list ∷ []))) (gives list))) w theirs
        (Rest (pick b (turned_back (answer 21 (length list ∷ []))) (gives list)))
    by_room filled true = here (answer 21 (length list ∷ []))
    by_room filled false = subst (λ d. pick d (Rest (gives list) w) (Answered compared (give list) theirs (Rest (gives list)))) (sym plainly)
        (subst (λ d. Given (or d compared) (give list) theirs (Rest (gives list))) (sym calm) (accepted filled))

    by_parse : (r : subject.Result ℕ) → grammar false text ≡ answer_of r → Goal (answer_of r) (parsed r w theirs)
    by_parse (subject.Ok n) e = by_room (accepted_some text (n ∷ []) e) (ltb room (length list))
    by_parse (subject.Err x) e = by_error x

    -- its text meets an added refusal, or ends as the original's parser says
    go : TextKind false text → Goal (grammar false text) (parsed (validate text false) w theirs)
    go (overlong e) = subst (λ a. Goal a (parsed (validate text false) w theirs)) (sym e) (here (answer 1 []))
    go (wrong i e) = subst (λ a. Goal a (parsed (validate text false) w theirs)) (sym e) (here (answer 2 (i ∷ [])))
    go (plain s u) =
        let e = grammar_original false text s u in
        subst (λ a. Goal a (parsed (validate text false) w theirs)) (sym e) (by_parse (validate text false) e)
