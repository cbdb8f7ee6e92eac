-- What each stage of the definition gives.
use Prim.Native.Nat.{ℕ, ◌≤◌, ◌<◌}
use mathlib.Core.Path.{◌≡◌}
use mathlib.Core.Bool.{true, false}
use mathlib.Core.List.{List, [], map}
use mathlib.Core.Option.{some}
use lib.ListN.{length}
use borrow.Author.Tests.{lt-ltb, le-ltb}
use Rattle.subject_rules.specs.Answers.{Answer, answer}
use Rattle.sublist_tree.specs.Lists.{All}
use Rattle.sublist_snapshot.specs.declared.Snapshot.{Snapshot}
use Rattle.sublist_snapshot.specs.Snapshot.{stands_in, walk_of}
use Rattle.whole_move_rules.specs.Move.{Span, text_at, bad_subjects, turned_down, Routes, routes, left, written, whole_move}
use Rattle.whole_move_rules.specs.Asked.{Sound}
use Rattle.whole_move_rules.proofs.Subjects.{all_pass}

module _ (s : Snapshot) (area bytes : List ℕ) (spans : List Span) (out : List ℕ) where
  pub large_is : 64 < length spans → whole_move s area bytes spans out ≡ left (turned_down (answer 22 [])) out
  unfolding whole_move
  large_is h = rw (lt-ltb 64 (length spans) h)

  pub refused-is : length spans ≤ 64 → (r : Answer) → bad_subjects bytes 0 spans ≡ some r → whole_move s area bytes spans out ≡ left (turned_down r) out
  unfolding whole_move
  refused-is h r e = rw (le-ltb 64 (length spans) h, e)

  module _ (few : length spans ≤ 64) (sound : All (Sound bytes) spans) where
    pub damaged-is : stands_in s area ≡ false → whole_move s area bytes spans out ≡ left (turned_down (answer 19 [])) out
    unfolding whole_move
    damaged-is e = rw (le-ltb 64 (length spans) few, all_pass bytes 0 spans sound, e)

    pub walked-is : stands_in s area ≡ true → (r : Routes) → routes (walk_of s area) 0 (map (text_at bytes) spans) ≡ r → whole_move s area bytes spans out ≡ written r out
    unfolding whole_move
    walked-is e r q = rw (le-ltb 64 (length spans) few, all_pass bytes 0 spans sound, e, q)
