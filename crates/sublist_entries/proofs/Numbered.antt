-- Entries lent as plain numbers: how many there are, which one stands at a place, and that an insert on the numbers is
-- one on the entries.
--
--   in_length       one entry for each whole three
--   three_read      what the threes of the numbers hold at a place is the entry there
--   entry_put       an entry's numbers that are put at once in its place are the entry put there
--   put_entries     an entry put among the numbers is put among the entries
--   numbers_mean    insert_numbers on the numbers is insert_into on the entries that they hold
use mathlib.Core.Path.{◌≡◌, refl, sym, ◌∙◌, ap}
use mathlib.Core.Bool.{Bool, true, false}
use mathlib.Core.List.{List, [], ◌∷◌}
use Prim.Native.Nat.{ℕ, zero, suc, ◌*◌, ◌/◌, ◌%◌, ◌<◌}
use native.Mathlib.Omega.{arith}
use lib.Dec.{leb}
use lib.ListN.{length, get_or, set}
use lib.Seq.{sets, set_out}
use borrow.Author.Tests.{leb-true, lt-leb}
use borrow.Rule.Slice.PartMut.{put_mid}
use Rattle.std.proofs.lemmas.List.Edits.{sets-eq}
use Rattle.std.proofs.lemmas.List.{get_or_default}
use Rattle.std.proofs.lemmas.Slice.{put_mid-paste}
use Rattle.std.proofs.Math.Nat.{mod-mod}
use Rattle.std.specs.Simd.{first_chunks}
use Rattle.subject_rules.specs.Choice.{pick}
use Rattle.subject_rules.specs.Answers.{Answer, answer}
use Rattle.sublist_tree.specs.Lists.{put}
use Rattle.sublist_entries.specs.declared.Entry.{Entry}
use Rattle.sublist_entries.specs.declared.ListState.{ListState}
use Rattle.sublist_entries.specs.Entries.{with_word, entry_at}
use Rattle.sublist_entries.specs.Inserting.{insert_says, appended, after_answer, InsertOutcome, insert_by, insert_into}
use Rattle.sublist_entries.specs.Numbers.{entry_numbers, numbers_of, entries_in, put_entry, insert_numbers}

third : (n : ℕ) → suc (suc (suc n)) / 3 ≡ suc (n / 3)
third n = omega arith

three : (i : ℕ) → 3 * suc i ≡ suc (suc (suc (3 * i)))
three i = omega arith

-- one entry for each whole three
pub in_length : (ws : List ℕ) → length (entries_in ws) ≡ length ws / entry_numbers
in_length [] = refl
in_length (a ∷ []) = refl
in_length (a ∷ b ∷ []) = refl
in_length (a ∷ b ∷ c ∷ ws) = rw (third (length ws)) (ap suc (in_length ws))

-- the entry of three numbers
abbrev of_three : List ℕ → Entry
of_three t = record { start = get_or t 0 0; length = get_or t 1 0; target = get_or t 2 0 }

three_at : (ws : List ℕ) (i : ℕ)
    → of_three (get_or (first_chunks 3 (length ws / 3) ws) i (0 ∷ 0 ∷ 0 ∷ [])) ≡ entry_at (entries_in ws) i
three_at [] i = refl
three_at (a ∷ []) i = refl
three_at (a ∷ b ∷ []) i = refl
three_at (a ∷ b ∷ c ∷ ws) zero = rw (third (length ws)) refl
three_at (a ∷ b ∷ c ∷ ws) (suc i) = rw (third (length ws)) (three_at ws i)

-- t is what they hold at place i
pub three_read : (ws : List ℕ) (i : ℕ) (threes : List (List ℕ)) → threes ≡ first_chunks 3 (length ws / 3) ws → i < length threes
    → (t : List ℕ) → t ≡ get_or threes i t
    → with_word (record { start = get_or t 0 0; length = get_or t 1 0; target = get_or t 2 0 % 4294967296 })
    ≡ with_word (entry_at (entries_in ws) i)
three_read ws i threes e h t q =
    rw mod-mod (ap with_word (rw (← e, get_or_default threes i (0 ∷ 0 ∷ 0 ∷ []) t h, ← q) at (three_at ws i)))

-- the numbers of an entry written where those of entry i belong are entry i
module _ (e : Entry) where
  entry-written : (i : ℕ) (ws : List ℕ) → entries_in (sets ws (entry_numbers * i) (numbers_of e)) ≡ set (entries_in ws) i e
  entry-written zero [] = refl
  entry-written zero (x ∷ []) = refl
  entry-written zero (x ∷ y ∷ []) = refl
  entry-written zero (x ∷ y ∷ z ∷ ws) = rw (third (length ws))
  entry-written (suc i) [] = refl
  entry-written (suc i) (x ∷ []) = rw (three i)
  entry-written (suc i) (x ∷ y ∷ []) = rw (three i)
  entry-written (suc i) (x ∷ y ∷ z ∷ ws) =
      rw (three i, third (length (sets ws (3 * i) (numbers_of e))), third (length ws))
      (ap (λ (es : List Entry). record { start = x; length = y; target = z } ∷ es) (entry-written i ws))

  pub put_entries : (ws : List ℕ) (i : ℕ) → entries_in (put_entry ws i e) ≡ set (entries_in ws) i e
  unfolding put_entry
  put_entries ws i = go (leb (length ws / entry_numbers) i) refl
    where
      go : (b : Bool) → leb (length ws / entry_numbers) i ≡ b → entries_in (pick b ws (sets ws (entry_numbers * i) (numbers_of e))) ≡ set (entries_in ws) i e
      go true q = sym (set_out (entries_in ws) i e (rw (in_length ws) (leb-true (length ws / entry_numbers) i q)))
      go false q = entry-written i ws

-- ---- an insert on the numbers

through : {A B : Type 0} (f : A → B) (a : Answer) (new old : A) → f (after_answer a new old) ≡ after_answer a (f new) (f old)
through f (answer zero values) new old = refl
through f (answer (suc n) values) new old = refl

-- the outcome on the numbers, with the list read as entries
abbrev pub as_entries : InsertOutcome (List ℕ) → InsertOutcome (List Entry)
as_entries o = record { says = o.says; list = entries_in o.list; store = o.store }

pub numbers_mean : (list : ListState) (ws s t : List ℕ) (target : ℕ) → as_entries (insert_numbers list ws s t target) ≡ insert_into list (entries_in ws) s t target
unfolding insert_numbers insert_into
numbers_mean list ws s t target =
    let says = insert_says list (length ws / entry_numbers) (length s) t in
    let new = put_entry ws list.entries (appended list t target) in
    ap (λ (es : List Entry). record { says = says; list = es; store = after_answer says (put s list.used t) s }) (through entries_in says new ws ∙ ap (λ (es : List Entry). after_answer says es (entries_in ws)) (put_entries (appended list t target) ws list.entries))
    ∙ ap (λ (n : ℕ). insert_by (insert_says list n (length s) t) (set (entries_in ws) list.entries (appended list t target)) (entries_in ws) (put s list.used t) s) (sym (in_length ws))

-- an entry's numbers that are put at once in its place
pub entry_put : (ws ys : List ℕ) (i k : ℕ) (e : Entry) → ys ≡ numbers_of e → k ≡ 3 → i < length ws / 3 → put_mid (3 * i) k ws ys ≡ put_entry ws i e
unfolding put_entry
entry_put ws ys i k e q s l =
    rw (lt-leb (length ws / 3) i l)
    (put_mid-paste (3 * i) k ws ys (numbers_of e) 3 q (sym s) refl ∙ sym (sets-eq (numbers_of e) ws (3 * i) (omega (arith, l))))
