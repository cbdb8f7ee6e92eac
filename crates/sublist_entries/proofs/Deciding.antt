-- What an insert answers on each of its ways out.
use Rattle.std.proofs.Common.{Err}
use mathlib.Core.Path.{◌≡◌, refl, sym}
use Prim.Native.Nat.{ℕ, ◌-◌, ◌<◌, ◌≤◌, min}
use native.Mathlib.Omega.{arith}
use mathlib.Core.Bool.{Bool, true, false}
use mathlib.Core.List.{List, [], ◌∷◌}
use lib.Dec.{leb}
use lib.ListN.{length}
use borrow.Author.Tests.{lt-ltb, le-ltb, le-leb, lt-leb, leb-false}
use Rattle.subject_rules.specs.Answers.{answer}
use Rattle.subject_rules.specs.Grammar.{grammar}
use Rattle.subject_rules.proofs.Depths.{passed}
use Rattle.subject.specs.declared.SubjectError.{SubjectError}
use Rattle.subject.specs.Answers.{refusal}
use Rattle.subject.proofs.Refusals.{refused_stands}
use Rattle.sublist_entries.specs.declared.ListState.{ListState}
use Rattle.sublist_entries.specs.Entries.{max_entries}
use Rattle.sublist_entries.specs.Inserting.{with_pattern, list_numbers, insert_says}

-- an accepted pattern is not empty
pub some_text : (t : List ℕ) (n : ℕ) → answer 0 (n ∷ []) ≡ grammar true t → 0 < length t
some_text t n a = (passed _ _ _ (sym a)).filled

module _ (list : ListState) (places bytes : ℕ) (t : List ℕ) where
  -- 1 to 9
  pub says_invalid : (e : SubjectError) → refusal e ≡ grammar true t → insert_says list places bytes t ≡ refusal e
  unfolding insert_says
  says_invalid e a = rw (← a) (sym (refused_stands (Err e) e _ refl))

  module _ (n : ℕ) (a : answer 0 (n ∷ []) ≡ grammar true t) where
    -- 10
    pub says_full : min places max_entries ≤ list.entries → insert_says list places bytes t ≡ answer 10 []
    unfolding insert_says
    says_full h = go (leb max_entries list.entries) refl
      where
        go : (b : Bool) → leb max_entries list.entries ≡ b → insert_says list places bytes t ≡ answer 10 []
        go true e = rw (← a, e)
        go false e = rw (← a, e, le-leb places list.entries (omega (arith, leb-false max_entries list.entries e)))

    module _ (h : list.entries < min places max_entries) where
      -- 11
      pub says_text_full : bytes - list.used < length t → insert_says list places bytes t ≡ answer 11 []
      unfolding insert_says
      says_text_full k = rw (← a, lt-leb max_entries list.entries (omega arith), lt-leb places list.entries (omega arith), lt-ltb (bytes - list.used) (length t) k)

      pub says_done : length t ≤ bytes - list.used → insert_says list places bytes t ≡ answer 0 (list_numbers (with_pattern list (length t)))
      unfolding insert_says
      says_done k = rw (← a, lt-leb max_entries list.entries (omega arith), lt-leb places list.entries (omega arith), le-ltb (bytes - list.used) (length t) k)

-- every way out
pub ruleset insert_ways = (some_text, says_invalid, says_full, says_text_full, says_done)
