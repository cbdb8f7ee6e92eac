-- A walk reads no target behind those that the table counts: with the targets cut to their count it is the same.
use Rattle.std.proofs.Common.{◌≡◌, ℕ, ◌+◌, ◌≤◌, Bool, true, false, leb, List, [], ◌∷◌, ◌++◌, length, take, refl, ap, ◌∙◌, length-take-le, leb-true}
use Rattle.subject_rules.specs.Choice.{pick}
use Rattle.sublist_area_rules.specs.Words.{word}
use Rattle.sublist_walk_rules.proofs.Narrow.{arrived-any, listed-any}
use Rattle.sublist_walk_rules.proofs.Parts.{part-take}
use Rattle.sublist_walk_rules.specs.declared.Failure.TheVariants.{Damaged}
use Rattle.sublist_walk_rules.specs.Walk.{part, Level, level, broken, Walk, at, stuck, root, collect, pushes, children, visit, visits, arrived, on_token, on_tokens, exact, listed, ended, walk_over}

module _ (k : ℕ) (a : List ℕ) (n m : ℕ) (ts : List ℕ) where
  collect_cut : (f i : ℕ) (s : Level) → collect a m (take m ts) f i s ≡ collect a m ts f i s
  unfolding collect
  collect_cut f i (broken why) = refl
  collect_cut f i (level next list) = go (leb (word a i f + word a i (f + 1)) m) refl
    where
      go : (t : Bool) → leb (word a i f + word a i (f + 1)) m ≡ t
          → pick t (level next (list ++ part (take m ts) (word a i f) (word a i (f + 1)))) (broken Damaged)
          ≡ pick t (level next (list ++ part ts (word a i f) (word a i (f + 1)))) (broken Damaged)
      go true e = ap (λ l. level next (list ++ l)) (part-take m ts (word a i f) (word a i (f + 1)) (leb-true (word a i f + word a i (f + 1)) m e))
      go false e = refl

  visits_cut : (h : ℕ) (s : Level) (is : List ℕ) → visits k a n m (take m ts) h s is ≡ visits k a n m ts h s is
  unfolding visits visit
  visits_cut h s [] = refl
  visits_cut h s (i ∷ is) =
      ap (λ l. visits k a n m (take m ts) h (pushes k l (children a n h i)) is) (collect_cut 6 i s) ∙ visits_cut h (visit k a n m ts h s i) is

  token_cut : (w : Walk) (h : ℕ) → on_token k a n m (take m ts) w h ≡ on_token k a n m ts w h
  unfolding on_token
  token_cut (at front list peak) h = ap (arrived k a n m (take m ts) peak) (visits_cut h (level [] list) front) ∙ arrived-any k k a n m (take m ts) ts peak (visits k a n m ts h (level [] list) front)
  token_cut (stuck why) h = refl

  tokens_cut : (w : Walk) (hs : List ℕ) → on_tokens k a n m (take m ts) w hs ≡ on_tokens k a n m ts w hs
  unfolding on_tokens
  tokens_cut w [] = refl
  tokens_cut w (h ∷ hs) = ap (λ v. on_tokens k a n m (take m ts) v hs) (token_cut w h) ∙ tokens_cut (on_token k a n m ts w h) hs

  exact_cut : (s : Level) (is : List ℕ) → exact k a n m (take m ts) s is ≡ exact k a n m ts s is
  unfolding exact
  exact_cut s [] = refl
  exact_cut s (i ∷ is) = ap (λ l. exact k a n m (take m ts) l is) (collect_cut 4 i s) ∙ exact_cut (collect a m ts 4 i s) is

  ended_cut : (w : Walk) → ended k a n m (take m ts) w ≡ ended k a n m ts w
  unfolding ended
  ended_cut (at front list peak) = ap (listed k a n m (take m ts) peak) (exact_cut (level [] list) front) ∙ listed-any k k a n m (take m ts) ts peak (exact k a n m ts (level [] list) front)
  ended_cut (stuck why) = refl

  pub walk_cut : (hs : List ℕ) → m ≤ length ts → walk_over k a n (length (take m ts)) (take m ts) hs ≡ walk_over k a n m ts hs
  unfolding walk_over
  walk_cut hs h =
      rw (length-take-le m ts h) (ap (ended k a n m (take m ts)) (tokens_cut root hs) ∙ ended_cut (on_tokens k a n m ts root hs))
