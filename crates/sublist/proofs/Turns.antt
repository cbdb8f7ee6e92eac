-- What each way through the passes over the nodes makes of their definitions.
use Rattle.std.proofs.Common.{◌≡◌, ℕ, zero, suc, ◌+◌, ◌-◌, ◌%◌, ◌<◌, ◌≤◌, List, map, length, get_or, drop, add-one, sub-one, drop-cons, arith, refl}
use Rattle.std.proofs.lemmas.List.{drop_all}
use Rattle.sublist_area_rules.specs.Words.{word}
use Rattle.sublist_rules.specs.Passes.{told, settled, laid_at, laid, Filling, filled_by, filled}
use Rattle.sublist_rules.specs.Core.{targets_of}
use Rattle.sublist_entries.specs.declared.Entry.{Entry}
use Rattle.sublist_entries.specs.Entries.{target_word, entry_at}
use Rattle.sublist.specs.declared.LineEnd.{LineEnd}
use Rattle.sublist.specs.Told.{end_of}
use Rattle.sublist.proofs.Checks.{left_on}

-- a turn of the second pass, and its end
pub settle_on : (a : List ℕ) (i : ℕ) → 0 < i → settled a i ≡ settled (told a i (word a i 12)) (i - 1)
unfolding settled
settle_on a zero h = absurd (omega arith)
settle_on a (suc i) h = rw sub-one

pub settle_end : (a : List ℕ) (i : ℕ) → i ≤ 0 → settled a i ≡ a
unfolding settled
settle_end a i h = let z : i ≡ 0 = omega arith in rw z

-- a turn of the third pass, and its end
module _ (a : List ℕ) (i n from : ℕ) where
  pub lay_on : i < n → laid a i (n - i) from ≡ laid (laid_at a i from) (i + 1) (n - (i + 1)) ((from + word a i 5 + word a i 7) % 4294967296)
  unfolding laid
  lay_on h = let e : n - i ≡ suc (n - (i + 1)) = omega arith in rw (e, add-one i)

  pub lay_end : n ≤ i → laid a i (n - i) from ≡ a
  unfolding laid
  lay_end h = let e : n - i ≡ 0 = omega arith in rw e

-- a turn of the fourth pass, and its end
module _ (f : Filling) (es : List LineEnd) (xs : List Entry) (i : ℕ) where
  pub fill_on : (e : LineEnd) → i < length xs → i < length es
      → filled f (map end_of (drop i es)) (targets_of (drop i xs))
      ≡ filled (filled_by f (end_of (get_or es i e)) (target_word (entry_at xs i))) (map end_of (drop (i + 1) es)) (targets_of (drop (i + 1) xs))
  unfolding filled
  fill_on e h k = rw (left_on xs i h, add-one i, drop-cons es i e) refl

  pub fill_end : length es ≤ i → filled f (map end_of (drop i es)) (targets_of (drop i xs)) ≡ f
  unfolding filled
  fill_end h = rw (drop_all i es h) refl
