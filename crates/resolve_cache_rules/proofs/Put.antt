-- A list with another written over a part of it.
use Prim.Native.Nat.{ℕ, ◌+◌, ◌-◌, ◌≤◌, ◌<◌}
use native.Mathlib.Omega.{arith}
use mathlib.Core.Path.{◌≡◌, sym, ◌∙◌, ap}
use mathlib.Core.List.{List, ◌++◌, append_assoc}
use lib.ListN.{length, take, drop, get_or, length-append, length-drop, take-append-drop, get_or-append}
use lib.Seq.{take-append_seam, take-append-le, drop-append-le, drop-append-add, get_or-take}
use lib.Seq.{drop-drop, length-take-le, drop_at}
use Rattle.sublist_walk_rules.specs.Walk.{part}
use Rattle.sublist_tree.specs.Lists.{put}

part_left : (ys zs : List ℕ) (at n : ℕ) → at + n ≤ length ys → part (ys ++ zs) at n ≡ part ys at n
part_left ys zs at n h =
    ap (take n) (drop-append-le at ys zs (omega arith))
    ∙ take-append-le n (drop at ys) zs (omega (arith, length-drop at ys))

part_right : (ys zs : List ℕ) (k n : ℕ) → part (ys ++ zs) (length ys + k) n ≡ part zs k n
part_right ys zs k n = ap (take n) (drop-append-add ys zs k)

module _ (xs : List ℕ) (from : ℕ) (new : List ℕ) (fits : from + length new ≤ length xs) where
  front : length (take from xs) ≡ from
  front = length-take-le from xs (omega arith)

  pub length-put : length (put xs from new) ≡ length xs
  length-put = simp (length-append, length-drop) (omega (arith, front))

  -- what was written
  pub part-put : part (put xs from new) from (length new) ≡ new
  part-put = ap (take (length new)) (drop_at (take from xs) (new ++ drop (from + length new) xs) from front) ∙ take-append_seam new (drop (from + length new) xs)

  -- what lies before it and behind it
  pub part-before : (at n : ℕ) → at + n ≤ from → part (put xs from new) at n ≡ part xs at n
  part-before at n h =
      part_left (take from xs) (new ++ drop (from + length new) xs) at n (omega (arith, front))
      ∙ sym (part_left (take from xs) (drop from xs) at n (omega (arith, front)))
      ∙ ap (λ l. part l at n) (take-append-drop from xs)

  both : length (take from xs ++ new) ≡ from + length new
  both = simp length-append (omega (arith, front))

  pub part_behind : (at n : ℕ) → from + length new ≤ at → part (put xs from new) at n ≡ part xs at n
  part_behind at n h =
      let e : at ≡ length (take from xs ++ new) + (at - (from + length new)) = omega (arith, both) in
      let f : at ≡ (from + length new) + (at - (from + length new)) = omega arith in
      ap (λ l. part l at n) (sym (append_assoc (take from xs) new (drop (from + length new) xs)))
      ∙ ap (λ k. part ((take from xs ++ new) ++ drop (from + length new) xs) k n) e
      ∙ part_right (take from xs ++ new) (drop (from + length new) xs) (at - (from + length new)) n
      ∙ ap (take n) (drop-drop (at - (from + length new)) (from + length new) xs)
      ∙ ap (λ k. part xs k n) (sym f)

  pub get_d_put-before : (j d : ℕ) → j < from → get_or (put xs from new) j d ≡ get_or xs j d
  get_d_put-before j d h =
      get_or-append (take from xs) (new ++ drop (from + length new) xs) d j (omega (arith, front))
      ∙ get_or-take from xs j d h
