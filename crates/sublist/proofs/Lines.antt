-- What putting a pattern in makes of `line_in`, and each turn over the entries of `lines_in`.
use Rattle.std.proofs.Common.{◌≡◌, ℕ, ◌+◌, ◌<◌, ◌≤◌, Bool, true, false, List, [], ◌∷◌, ◌++◌, length, drop, Result, Ok, Err, sym, refl, ap, ◌∙◌}
use Rattle.std.proofs.lemmas.List.{drop_all}
use Rattle.subject_rules.specs.Choice.{pick}
use Rattle.subject_rules.specs.Text.{tokens, is_tail}
use Rattle.subject_rules.specs.Fnv.{fnv}
use Rattle.sublist_tree.specs.Tree.{Key, Line, line, onto, line_of}
use Rattle.sublist_area_rules.specs.declared.Placed.{Placed}
use Rattle.sublist_area_rules.specs.declared.PlaceError.{PlaceError}
use Rattle.sublist_area_rules.specs.Words.{token_key}
use Rattle.sublist_area_rules.specs.Growing.{placed_at, grown}
use Rattle.sublist_entries.specs.declared.Entry.{Entry}
use Rattle.sublist_entries.specs.Entries.{text_of, target_word, entry_at, lines_of}
use Rattle.sublist_rules.specs.Passes.{End, end, Growth, growth, stopped, counted, joined, line_in, lines_in}
use Rattle.sublist_rules.specs.Core.{reached, run_in}
use Rattle.sublist_rules.proofs.Entering.{stays}
use Rattle.sublist.specs.declared.Ended.{Ended}
use Rattle.sublist.specs.Told.{end_of, ended_as}
use Rattle.sublist.proofs.Checks.{left_on}

-- the end of a run counts it
counted-end : (p : Result Placed PlaceError) (b : List ℕ) (tail : Bool) (m : ℕ) (c : List ℕ) (j : ℕ) (t : Bool) → growth m c (end j t ∷ []) ≡ reached p b tail
    → growth m (counted c j t) (end j t ∷ []) ≡ joined (p, b) tail []
unfolding joined
counted-end (Ok q) b tail m c j t e = cc
counted-end (Err f) b tail m c j t e = absurd (cc)

stopped-end : (p : Result Placed PlaceError) (b : List ℕ) (tail : Bool) (c : List ℕ) → stopped c ≡ reached p b tail → stopped c ≡ joined (p, b) tail []
unfolding joined
stopped-end (Ok q) b tail c e = absurd (cc)
stopped-end (Err f) b tail c e = e

module _ (n : ℕ) (a : List ℕ) where
  pub line_ends : (l : Line ℕ) (m : ℕ) (c : List ℕ) (j : ℕ) (t : Bool) → growth m c (end j t ∷ []) ≡ run_in (placed_at 0 n, a) l
      → growth m (counted c j t) (end j t ∷ []) ≡ line_in (growth n a []) l
  unfolding run_in line_in
  line_ends (line ks tail x) m c j t e = counted-end (grown (placed_at 0 n, a) ks).0 (grown (placed_at 0 n, a) ks).1 tail m c j t e

  pub line_stops : (l : Line ℕ) (c : List ℕ) → stopped c ≡ run_in (placed_at 0 n, a) l → stopped c ≡ line_in (growth n a []) l
  unfolding run_in line_in
  line_stops (line ks tail x) c e = stopped-end (grown (placed_at 0 n, a) ks).0 (grown (placed_at 0 n, a) ks).1 tail c e

-- the same line with another target
abbrev retarget : Line ℕ → ℕ → Line ℕ
retarget (line ks tail x) y = line ks tail y

retarget_onto : (k : Key ℕ) (l : Line ℕ) (y : ℕ) → onto k (retarget l y) ≡ retarget (onto k l) y
retarget_onto k (line ks tail x) y = refl

line-target : (ts : List (List ℕ)) (x y : ℕ) → line_of fnv ts y ≡ retarget (line_of fnv ts x) y
line-target [] x y = refl
line-target (t ∷ ts) x y = go (is_tail t) (line-target ts x y)
  where
    k : Key ℕ
    k = token_key t

    go : (b : Bool) → line_of fnv ts y ≡ retarget (line_of fnv ts x) y
        → pick b (line [] true y) (onto k (line_of fnv ts y)) ≡ retarget (pick b (line [] true x) (onto k (line_of fnv ts x))) y
    go true e = refl
    go false e = rw e (retarget_onto k (line_of fnv ts x) y)

in_target : (g : Growth) (l : Line ℕ) (y : ℕ) → line_in g (retarget l y) ≡ line_in g l
unfolding line_in
in_target (growth n a ends) (line ks tail x) y = refl
in_target (stopped a) (line ks tail x) y = refl

-- the ends before it stand in front
joined_more : (p : Result Placed PlaceError) (b : List ℕ) (tail : Bool) (ends : List End) (m : ℕ) (c : List ℕ) (es : List End) → growth m c es ≡ joined (p, b) tail []
    → joined (p, b) tail ends ≡ growth m c (ends ++ es)
unfolding joined
joined_more (Ok q) b tail ends m c es e = cc
joined_more (Err f) b tail ends m c es e = absurd (cc)

joined_stop : (p : Result Placed PlaceError) (b : List ℕ) (tail : Bool) (ends : List End) (c : List ℕ) → stopped c ≡ joined (p, b) tail [] → joined (p, b) tail ends ≡ stopped c
unfolding joined
joined_stop (Ok q) b tail ends c e = absurd (cc)
joined_stop (Err f) b tail ends c e = sym e

module _ (n : ℕ) (a : List ℕ) (ends : List End) where
  more : (l : Line ℕ) (m : ℕ) (c : List ℕ) (es : List End) → growth m c es ≡ line_in (growth n a []) l → line_in (growth n a ends) l ≡ growth m c (ends ++ es)
  unfolding line_in
  more (line ks tail x) m c es e = joined_more (grown (placed_at 0 n, a) ks).0 (grown (placed_at 0 n, a) ks).1 tail ends m c es e

  stop : (l : Line ℕ) (c : List ℕ) → stopped c ≡ line_in (growth n a []) l → line_in (growth n a ends) l ≡ stopped c
  unfolding line_in
  stop (line ks tail x) c e = joined_stop (grown (placed_at 0 n, a) ks).0 (grown (placed_at 0 n, a) ks).1 tail ends c e

-- a line whose run was put in, and the lines behind it; r and c are what that gave
module _ (m : ℕ) (a : List ℕ) (ends : List End) (ts : List (List ℕ)) (y : ℕ) (ls : List (Line ℕ)) (r : Result Ended PlaceError) (c : List ℕ)
    (q : ended_as r c ≡ line_in (growth m a []) (line_of fnv ts 0)) where
  turn : lines_in (growth m a ends) (line_of fnv ts y ∷ ls) ≡ lines_in (line_in (growth m a ends) (line_of fnv ts 0)) ls
  unfolding lines_in
  turn = rw (line-target ts 0 y, in_target (growth m a ends) (line_of fnv ts 0) y) refl

  turn_on : (d : Ended) → r ≡ Ok d → lines_in (growth m a ends) (line_of fnv ts y ∷ ls) ≡ lines_in (growth d.count c (ends ++ (end_of d.end ∷ []))) ls
  turn_on d p = turn ∙ ap (λ g. lines_in g ls) (more m a ends (line_of fnv ts 0) d.count c (end_of d.end ∷ []) (rw p at q))

  turn_stop : (f : PlaceError) → r ≡ Err f → lines_in (growth m a ends) (line_of fnv ts y ∷ ls) ≡ stopped c
  turn_stop f p = turn ∙ ap (λ g. lines_in g ls) (stop m a ends (line_of fnv ts 0) c (rw p at q)) ∙ stays c ls

-- the entries from entry i on, where its run was put in
module _ (m : ℕ) (a : List ℕ) (ends : List End) (store : List ℕ) (xs : List Entry) (i : ℕ) (h : i < length xs) (text : List ℕ) (t : text ≡ text_of store (entry_at xs i))
    (r : Result Ended PlaceError) (c : List ℕ) (q : ended_as r c ≡ line_in (growth m a []) (line_of fnv (tokens text) 0)) where
  here : lines_of store (drop i xs) ≡ line_of fnv (tokens text) (target_word (entry_at xs i)) ∷ lines_of store (drop (i + 1) xs)
  here = rw (left_on xs i h, t) refl

  pub lines_stop : (f : PlaceError) → r ≡ Err f → lines_in (growth m a ends) (lines_of store (drop i xs)) ≡ stopped c
  lines_stop f p = rw here (turn_stop m a ends (tokens text) (target_word (entry_at xs i)) (lines_of store (drop (i + 1) xs)) r c q f p)

  pub lines_on : (d : Ended) → r ≡ Ok d
      → lines_in (growth m a ends) (lines_of store (drop i xs)) ≡ lines_in (growth d.count c (ends ++ (end_of d.end ∷ []))) (lines_of store (drop (i + 1) xs))
  lines_on d p = rw here (turn_on m a ends (tokens text) (target_word (entry_at xs i)) (lines_of store (drop (i + 1) xs)) r c q d p)

pub lines_end : (g : Growth) (store : List ℕ) (xs : List Entry) (i : ℕ) → length xs ≤ i → lines_in g (lines_of store (drop i xs)) ≡ g
unfolding lines_in
lines_end g store xs i h = rw (drop_all i xs h) refl
