-- A plain text is accepted, as a subject and as a pattern, with as many tokens as one pass counts.
use Rattle.std.proofs.Common.{◌≡◌, ℕ, suc, ◌+◌, ◌≤◌, Bool, true, false, eqb, List, [], ◌∷◌, Option, None, Some, length, IfSome, refl, sym, ap, ◌∙◌, arith, le-ltb, ne_eqb}
use mathlib.Core.Option.{none}
use Rattle.subject_rules.specs.Text.{tokens}
use Rattle.subject_rules.specs.Answers.{answer}
use Rattle.subject_rules.specs.Grammar.{bad_token, check, grammar}
use Rattle.subject.specs.Plain.{plain_from}
use Rattle.subject.proofs.Sequences.{ascii_fine}
use Rattle.subject.proofs.PlainCounted.{fair_chars, no_wildcard, Legals, left_all, counted}

-- rules 4 to 9 accept such tokens
check_legals : (wild : Bool) (ts : List (List ℕ)) (index : ℕ) → Legals ts → index + length ts ≤ 32 → check wild none index ts ≡ answer 0 ((index + length ts) ∷ [])
check_legals wild [] index l h = ap (λ (n : ℕ). answer 0 (n ∷ [])) (let e : index ≡ index + 0 = omega arith in e)
check_legals wild ([] ∷ ts) index l h = absurd l.0
check_legals wild ((b ∷ bs) ∷ ts) index l h =
    let w = no_wildcard b bs l.0.0 in
    let deep : eqb index 32 ≡ false = ne_eqb index 32 (λ e. omega (arith, e, h)) in
    let bad : bad_token wild index (b ∷ bs) ≡ none = rw (w.0, w.1) (fair_chars index (b ∷ bs) l.0) in
    rw (deep, bad, w.1) (check_legals wild ts (index + 1) l.1 (omega (arith, h)) ∙ ap (λ (n : ℕ). answer 0 (n ∷ [])) (let e : index + 1 + length ts ≡ index + suc (length ts) = omega arith in e))

-- a plain text, by what its pass gives
pub plain-accepted : (text : List ℕ) (r : ℕ) → plain_from true 0 text ≡ Some r → length text ≤ 4096 → (wild : Bool) → grammar wild text ≡ answer 0 (r ∷ [])
unfolding grammar
plain-accepted [] r e l wild = let y : ◌≡◌ {A = Option ℕ} None (Some r) = e in cc
plain-accepted (b ∷ bs) r e l wild =
    let text = b ∷ bs in
    let c = counted text true 0 r e in
    rw (le-ltb 4096 (length text) l, ascii_fine text c.ascii, ne_eqb (length text) 0 (λ z. omega (arith, z)), c.count)
    (check_legals wild (tokens text) 0 (left_all (tokens text) c.left) c.most)

pub accepted_if : (text : List ℕ) (r : Option ℕ) → r ≡ plain_from true 0 text → length text ≤ 4096 → IfSome r (λ n. (wild : Bool) → grammar wild text ≡ answer 0 (n ∷ []))
accepted_if text None e l = tt
accepted_if text (Some n) e l = plain-accepted text n (sym e) l

-- `a.b` has two tokens; `.a`, `a.`, `a..b` have an empty one, `*` is barred
two_tokens : plain_from true 0 (0x61 ∷ 0x2e ∷ 0x62 ∷ []) ≡ Some 2
two_tokens = refl

empty-tokens : (plain_from true 0 (0x2e ∷ 0x61 ∷ []) ≡ None) × (plain_from true 0 (0x61 ∷ 0x2e ∷ []) ≡ None) × (plain_from true 0 (0x61 ∷ 0x2e ∷ 0x2e ∷ 0x62 ∷ []) ≡ None)
empty-tokens = (refl, refl, refl)

star_barred : plain_from true 0 (0x2a ∷ []) ≡ None
star_barred = refl
