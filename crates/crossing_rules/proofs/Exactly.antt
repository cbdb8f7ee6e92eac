-- The call `crossing` gives what 2026-01 asks, and nothing else would do.
use Prim.Native.Nat.{ℕ, zero, suc, ◌+◌, ◌≤◌}
use native.Mathlib.Omega.{arith}
use mathlib.Core.Path.{◌≡◌, refl, sym, ap, ◌∙◌}
use mathlib.Core.Bool.{Bool, true, false}
use mathlib.Core.List.{List, [], ◌∷◌}
use mathlib.Core.Option.{Option, none, some}
use lib.Dec.{ltb}
use lib.ListN.{length}
use borrow.Author.Tests.{ltb-true, ltb-false, lt-ltb, le-ltb}
use Rattle.subject_rules.specs.Choice.{pick}
use Rattle.subject_rules.specs.Text.{tokens, joined}
use Rattle.subject_rules.specs.Utf8.{sequence, first_bad}
use Rattle.subject_rules.specs.Answers.{Answer, answer, said, when_accepted}
use Rattle.subject_rules.specs.Grammar.{grammar}
use Rattle.subject_rules.specs.Matching.{match_tokens, matching}
use Rattle.subject_rules.specs.Outputs.{Outcome, outcome, over, if_parsed}
use Rattle.subject_rules.proofs.Depths.{passed, accepted-values, accepted_depth, tokens_some}
use Rattle.sublist_tree.specs.Lists.{All}
use Rattle.crossing_rules.specs.Crossing.{common, of_tokens, shown_for, show_in, crossing_with, crossing}
use Rattle.crossing_rules.specs.Asked.{BothMatch, Shown, Apart, Accepts, Asked, first_refused, second_refused, apart, out_short, shown}
use Rattle.crossing_rules.proofs.Texts.{joined-tokens, size, size_joined}
use Rattle.crossing_rules.proofs.Legal.{Literal, literals-last, legal_tokens, legal_accepted, Pattern, accepted-pattern, accepted-filled}
use Rattle.crossing_rules.proofs.Common.{Is, if_is, common_all, common-most, common_some, common-matched}
use Rattle.crossing_rules.proofs.Shortest.{FilledAt, common-short, common-filled, common-only}
use Rattle.crossing_rules.proofs.ByLimit.{by_limit}

-- ---- a match of two texts

-- what is accepted, where a match says yes
pub record Matching (pattern subject : List ℕ) : Type 0 where
  pub pattern_accepted : grammar true pattern ≡ answer 0 (length (tokens pattern) ∷ [])
  pub subject_accepted : grammar false subject ≡ answer 0 (length (tokens subject) ∷ [])
  pub tokens_match : match_tokens (tokens pattern) (tokens subject) ≡ true

matches_yes : (b : Bool) → said b ≡ said true → b ≡ true
matches_yes true e = refl
matches_yes false e = absurd (cc)

pub match_yes : (pattern subject : List ℕ) → matching pattern subject ≡ said true → Matching pattern subject
unfolding matching
match_yes pattern subject e = go (grammar true pattern) refl (grammar false subject) refl e
  where
    go : (g : Answer) → grammar true pattern ≡ g → (h : Answer) → grammar false subject ≡ h
        → when_accepted g (when_accepted h (said (match_tokens (tokens pattern) (tokens subject)))) ≡ said true → Matching pattern subject
    go (answer zero vs) p (answer zero ws) q e =
        record {
          pattern_accepted = p ∙ ap (answer 0) (accepted-values true pattern vs p);
          subject_accepted = q ∙ ap (answer 0) (accepted-values false subject ws q);
          tokens_match = matches_yes (match_tokens (tokens pattern) (tokens subject)) e;
        }
    go (answer zero vs) p (answer (suc n) ws) q e = absurd (cc)
    go (answer (suc n) vs) p h q e = absurd (cc)

pub yes_match : (pattern subject : List ℕ) → Matching pattern subject → matching pattern subject ≡ said true
unfolding matching
yes_match pattern subject m = rw (m.pattern_accepted, m.subject_accepted, m.tokens_match)

-- ---- two accepted patterns

module _ (filler first second : List ℕ) (f : Accepts first) (s : Accepts second) (x : Literal filler) where
  left : Pattern (tokens first)
  left = accepted-pattern first _ f

  right : Pattern (tokens second)
  right = accepted-pattern second _ s

  -- what they have in common, as a text of at most 4,096 bytes
  module _ (ts : List (List ℕ)) (e : common filler (tokens first) (tokens second) ≡ some ts) (short : length (joined ts) ≤ 4096) where
    literals : All Literal ts
    literals = if_is (All Literal) (common filler (tokens first) (tokens second)) ts (common_all filler Literal x (tokens first) (tokens second) left.literals right.literals) e

    some_token : 1 ≤ length ts
    some_token = if_is (λ us. 1 ≤ length us) (common filler (tokens first) (tokens second)) ts (common_some filler (tokens first) (tokens second) (tokens_some first)) e

    few : length ts ≤ 32
    few =
        if_is (λ us. length us ≤ 32) (common filler (tokens first) (tokens second)) ts
        (common-most filler 32 (tokens first) (tokens second) (accepted_depth true first _ f) (accepted_depth true second _ s)) e

    its_tokens : tokens (joined ts) ≡ ts
    its_tokens = legal_tokens false ts literals some_token

    -- the grammar accepts it
    joined-accepted : grammar false (joined ts) ≡ answer 0 (length (tokens (joined ts)) ∷ [])
    joined-accepted = rw its_tokens (legal_accepted false ts literals some_token (literals-last ts literals) few short)

    -- and both match it
    joined-matched : BothMatch first second (joined ts)
    joined-matched =
        let m = if_is (λ us. (match_tokens (tokens first) us ≡ true) × (match_tokens (tokens second) us ≡ true)) (common filler (tokens first) (tokens second)) ts (common-matched filler (tokens first) (tokens second)) e in (
          yes_match first (joined ts) (record { pattern_accepted = f; subject_accepted = joined-accepted; tokens_match = rw its_tokens m.0 }),
          yes_match second (joined ts) (record { pattern_accepted = s; subject_accepted = joined-accepted; tokens_match = rw its_tokens m.1 }),
        )

    -- with the filler where both are wild
    joined-filled : FilledAt filler (tokens first) (tokens second) (tokens (joined ts))
    joined-filled =
        rw its_tokens
        (if_is (FilledAt filler (tokens first) (tokens second)) (common filler (tokens first) (tokens second)) ts
        (common-filled filler (tokens first) (tokens second) left.tail_last right.tail_last) e)

  -- whatever the filler: a subject that is shown is accepted, both match it, and it has the filler where both are wild
  abbrev pub Fitting : List ℕ → Type 0
  Fitting t = (grammar false t ≡ answer 0 (length (tokens t) ∷ [])) × BothMatch first second t × FilledAt filler (tokens first) (tokens second) (tokens t)

  fitting_tokens : (t : List ℕ) (o : Option (List (List ℕ))) → common filler (tokens first) (tokens second) ≡ o → of_tokens o ≡ some t → Fitting t
  fitting_tokens t none p e = absurd (cc)
  fitting_tokens t (some ts) p e = by_limit ts (λ o. o ≡ some t → Fitting t) within (λ h q. absurd (cc)) e
    where
      within : length (joined ts) ≤ 4096 → some (joined ts) ≡ some t → Fitting t
      within short q =
          let same_text : joined ts ≡ t = cc in
          let r : Fitting (joined ts) = (joined-accepted ts p short, joined-matched ts p short, joined-filled ts p short) in
          rw same_text at r

  pub any_filler : (t : List ℕ) → shown_for filler first second ≡ some t → Fitting t
  unfolding shown_for
  any_filler t e = fitting_tokens t (common filler (tokens first) (tokens second)) refl e

  -- no filler is shorter than one of one byte
  module _ (one : length filler ≡ 1) where
    -- a subject that both match: there is something in common, with no more bytes
    no_longer : (t : List ℕ) → BothMatch first second t → Is (λ ts. size ts ≤ size (tokens t)) (common filler (tokens first) (tokens second))
    no_longer t m =
        let a = match_yes first t m.0 in
        common-short filler one (tokens first) (tokens second) (tokens t) left.tail_last right.tail_last
        a.tokens_match (match_yes second t m.1).tokens_match (accepted-filled false t _ a.subject_accepted)

    -- its length
    text_size : (t : List ℕ) → size (tokens t) ≡ length t + 1
    text_size t = size_joined (tokens t) (tokens_some t) ∙ ap (λ (bs : List ℕ). length bs + 1) (joined-tokens t)

    fits : (t : List ℕ) → BothMatch first second t → length t ≤ 4096
    fits t m = (passed false t _ (match_yes first t m.0).subject_accepted).short

    module _ (ts : List (List ℕ)) (e : common filler (tokens first) (tokens second) ≡ some ts) where
      shorter : (t : List ℕ) → BothMatch first second t → length (joined ts) ≤ length t
      shorter t m =
          let some' = if_is (λ us. 1 ≤ length us) (common filler (tokens first) (tokens second)) ts (common_some filler (tokens first) (tokens second) (tokens_some first)) e in
          let h : size ts ≤ size (tokens t) = rw e at (no_longer t m) in
          omega (arith, size_joined ts some', text_size t)

      shown_of : length (joined ts) ≤ 4096 → Shown filler first second (joined ts)
      shown_of short =
          record {
            accepted = joined-accepted ts e short;
            matched = joined-matched ts e short;
            shortest = shorter;
            filled = joined-filled ts e short;
          }

      -- a subject that is shown is this one
      only_this : (t : List ℕ) → Shown filler first second t → t ≡ joined ts
      only_this t w =
          let short : length (joined ts) ≤ 4096 = omega (arith, shorter t w.matched, fits t w.matched) in
          let least = w.shortest (joined ts) (joined-matched ts e short) in
          let h : size (tokens t) ≤ size ts =
          omega (arith, least, text_size t, size_joined ts (some_token ts e short)) in
          let only =
          if_is (λ us. size (tokens t) ≤ size us → tokens t ≡ us) (common filler (tokens first) (tokens second)) ts
          (common-only filler (tokens first) (tokens second) (tokens t) left.tail_last right.tail_last
          (match_yes first t w.matched.0).tokens_match (match_yes second t w.matched.1).tokens_match w.filled) e in
          sym (joined-tokens t) ∙ ap joined (only h)

    -- what is shown, or that there is none
    abbrev Right : Option (List ℕ) → Type 0
    Right none = Apart first second
    Right (some t) = Shown filler first second t

    right-tokens : (o : Option (List (List ℕ))) → common filler (tokens first) (tokens second) ≡ o → Right (of_tokens o)
    right-tokens none e = λ t m. rw e at (no_longer t m)
    right-tokens (some ts) e = by_limit ts Right (shown_of ts e) (λ h t m. omega (arith, h, shorter ts e t m, fits t m))

    pub shown-right : Right (shown_for filler first second)
    unfolding shown_for
    shown-right = right-tokens (common filler (tokens first) (tokens second)) refl

    -- where a subject meets all that is asked, it is shown
    only-tokens : (t : List ℕ) → Shown filler first second t → (o : Option (List (List ℕ))) → common filler (tokens first) (tokens second) ≡ o → of_tokens o ≡ some t
    only-tokens t w none e = absurd (rw e at (no_longer t w.matched))
    only-tokens t w (some ts) e =
        by_limit ts (λ o. o ≡ some t) (λ h. ap some (sym (only_this ts e t w)))
        (λ h. absurd (omega (arith, h, shorter ts e t w.matched, fits t w.matched)))

    pub shown-only : (t : List ℕ) → Shown filler first second t → shown_for filler first second ≡ some t
    unfolding shown_for
    shown-only t w = only-tokens t w (common filler (tokens first) (tokens second)) refl

    -- where no subject does, none is
    pub apart-only : Apart first second → shown_for filler first second ≡ none
    apart-only n = go (shown_for filler first second) shown-right
      where
        go : (o : Option (List ℕ)) → Right o → o ≡ none
        go none r = refl
        go (some t) r = absurd (n t r.matched)

-- ---- the call, on any texts

module _ (filler : List ℕ) (x : Literal filler) (one : length filler ≡ 1) (first second out : List ℕ) where
  accepts : (bs vs : List ℕ) → grammar true bs ≡ answer 0 vs → Accepts bs
  accepts bs vs e = e ∙ ap (answer 0) (accepted-values true bs vs e)

  asked_show : (f : Accepts first) (s : Accepts second) (o : Option (List ℕ)) → Right filler first second f s x one o → Asked filler first second out (show_in o out)
  asked_show f s none r = apart f s r refl
  asked_show f s (some t) r = go (ltb (length out) (length t)) refl
    where
      go : (b : Bool) → ltb (length out) (length t) ≡ b
          → Asked filler first second out (pick b (outcome (answer 21 (length t ∷ [])) out) (outcome (answer 0 (1 ∷ length t ∷ [])) (over t out)))
      go true h = out_short t f s r (ltb-true (length out) (length t) h) refl
      go false h = shown t f s r (ltb-false (length out) (length t) h) refl

  -- the call gives what is asked
  pub with_asked : Asked filler first second out (crossing_with filler first second out)
  unfolding crossing_with
  with_asked = go (grammar true first) refl (grammar true second) refl
    where
      go : (g : Answer) → grammar true first ≡ g → (h : Answer) → grammar true second ≡ h
          → Asked filler first second out (if_parsed g out (if_parsed h out (show_in (shown_for filler first second) out)))
      go (answer zero vs) p (answer zero ws) q =
          let f = accepts first vs p in
          let s = accepts second ws q in
          asked_show f s (shown_for filler first second) (shown-right filler first second f s x one)
      go (answer zero vs) p (answer (suc n) ws) q =
          second_refused (answer (suc n) ws) (accepts first vs p) (record { number = n; values = ws; says = q; refusal = refl }) refl
      go (answer (suc n) vs) p h q = first_refused (answer (suc n) vs) (record { number = n; values = vs; says = p; refusal = refl }) refl

  -- and nothing else is what is asked
  refused-first : (a : Answer) (after : Outcome) → (n : ℕ) (vs : List ℕ) → a ≡ answer (suc n) vs → if_parsed a out after ≡ outcome a out
  refused-first a after n vs e = rw e

  pub with_only : (o : Outcome) → Asked filler first second out o → o ≡ crossing_with filler first second out
  unfolding crossing_with
  with_only o (first_refused a r e) = rw (r.says, refused-first a (if_parsed (grammar true second) out (show_in (shown_for filler first second) out)) r.number r.values r.refusal) e
  with_only o (second_refused a f r e) = rw (f, r.says, refused-first a (show_in (shown_for filler first second) out) r.number r.values r.refusal) e
  with_only o (apart f s n e) = rw (f, s, apart-only filler first second f s x one n) e
  with_only o (out_short t f s w h e) = rw (f, s, shown-only filler first second f s x one t w, lt-ltb (length out) (length t) h) e
  with_only o (shown t f s w h e) = rw (f, s, shown-only filler first second f s x one t w, le-ltb (length out) (length t) h) e

-- ---- `x`

x_literal : Literal (0x78 ∷ [])
unfolding first_bad sequence
x_literal = record { utf8 = refl; undotted = (refl, tt); unbarred = λ index. refl }

module _ (first second out : List ℕ) where
  -- the call `crossing` gives what 2026-01 asks
  pub crossing-asked : Asked (0x78 ∷ []) first second out (crossing first second out)
  unfolding crossing
  crossing-asked = with_asked (0x78 ∷ []) x_literal refl first second out

  -- and what 2026-01 asks, nothing else gives
  pub crossing-only : (o : Outcome) → Asked (0x78 ∷ []) first second out o → o ≡ crossing first second out
  unfolding crossing
  crossing-only o a = with_only (0x78 ∷ []) x_literal refl first second out o a
