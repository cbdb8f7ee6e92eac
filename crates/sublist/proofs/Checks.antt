-- The entries of a list one by one: what the refusal of one makes of the list's, and what holds of each if none is refused.
use Rattle.std.proofs.Common.{◌≡◌, ℕ, zero, suc, ◌+◌, ◌<◌, ◌≤◌, Bool, true, false, List, [], ◌∷◌, ltb, length, take, drop, add-one, arith, drop-cons}
use mathlib.Core.Option.{Option, none, some}
use Rattle.subject_rules.specs.Answers.{Answer, answer}
use Rattle.subject_rules.specs.Choice.{pick}
use Rattle.subject_rules.specs.Text.{tokens}
use Rattle.subject_rules.proofs.Depths.{accepted_depth}
use Rattle.sublist_tree.specs.Lists.{All}
use Rattle.sublist_entries.specs.declared.Entry.{Entry}
use Rattle.sublist_entries.specs.Entries.{text_of, entry_at}
use Rattle.sublist_rules.specs.Core.{list_refused}
use Rattle.sublist_rules.proofs.AcceptedEntries.{Sound, sound-entries}

-- entry i, and those behind it
pub left_on : (es : List Entry) (i : ℕ) → i < length es → drop i es ≡ entry_at es i ∷ drop (i + 1) es
left_on es i h = rw (add-one i, drop-cons es i (record { start = 0; length = 0; target = 0 }) h)

-- what holds of all holds of each
All-at : (P : Entry → Type 0) (es : List Entry) → All P es → (i : ℕ) → i < length es → P (entry_at es i)
All-at P [] a i h = absurd (omega arith)
All-at P (e ∷ es) a zero h = a.0
All-at P (e ∷ es) a (suc i) h = All-at P es a.1 i (omega arith)

not_ten : (b : Bool) (o : Option Answer) → pick b (some (answer 10 [])) o ≡ none → o ≡ none
not_ten true o e = absurd (cc)
not_ten false o e = e

-- where the list is not refused
module _ (store : List ℕ) (es : List Entry) (ok : list_refused es store ≡ none) (i : ℕ) (h : i < length es) where
  sound_at : Sound store (entry_at es i)
  sound_at = All-at (Sound store) es (sound-entries store 0 es (not_ten (ltb 2048 (length es)) _ ok)) i h

  pub text_inside : (entry_at es i).start + (entry_at es i).length ≤ length store
  text_inside = sound_at.0

  pub text_depth : (start size : ℕ) → start ≡ (entry_at es i).start → size ≡ (entry_at es i).length → length (tokens (take size (drop start store))) ≤ 32
  text_depth start size p q = rw (p, q) (accepted_depth true (text_of store (entry_at es i)) sound_at.1.0 sound_at.1.1)
