-- What each way through `visit`, `visit_front` and `collect_exact` makes of a level: one node, then the frontier's nodes in turn.
use Rattle.std.proofs.Common.{◌≡◌, ℕ, suc, ◌+◌, ◌-◌, ◌<◌, min, Bool, true, false, ltb, leb, List, [], ◌∷◌, ◌++◌, length, get_or, take, drop, refl, sym, ap, ◌∙◌, append_assoc, append-nil, add-one, arith, length-append}
use lib.Seq.{take-suc, split_at}
use borrow.Rule.Slice.PartMut.{put_mid}
use Rattle.subject_rules.specs.Choice.{pick}
use Rattle.sublist_area_rules.specs.declared.Child.{Child}
use Rattle.sublist_area_rules.specs.declared.Child.TheVariants.{Node, Missing, Damaged}
use Rattle.sublist_area_rules.specs.Words.{word, literal_child, star_child}
use Rattle.sublist_walk_rules.specs.declared.Failure.{Failure}
use Rattle.sublist_walk_rules.specs.declared.Failure.TheVariants as failure
use Rattle.sublist_walk_rules.specs.Walk.{part, among, Level, level, broken, collect, push, pushes, children, visit, visits, exact}
use Rattle.sublist_walk.specs.Told.{Added}
use Rattle.sublist_walk.proofs.Stores.{behind_stored}

-- nothing yet
pub listed_none : (out : List ℕ) → Added (level [] []) [] 0 0 out out
listed_none out = record { list = []; is = refl; counts = refl; most = omega arith; stored = refl }

-- two lists, read at i and at j nodes, the second written behind the first
joined : (s s1 s2 : Level) (next next1 : List ℕ) (count count1 i j r : ℕ) (out now after : List ℕ)
    → r ≡ min (length now) count → (w : Added s next count i out now) (v : Added s1 next1 count1 j (take (length now - r) (drop r now)) after)
    → s2 ≡ level next1 (w.list ++ v.list) → Added s2 next1 (count + count1) (i + j) out (put_mid r (length now - r) now after)
joined s s1 s2 next next1 count count1 i j r out now after p w v e = record {
  list = w.list ++ v.list;
  is = e;
  counts = rw (length-append w.list v.list) (let x = w.counts in let y = v.counts in omega arith);
  most = let x = w.most in let y = v.most in omega arith;
  stored = behind_stored out w.list v.list now after r (rw w.counts at p) w.stored v.stored;
}

-- a level whose list comes behind another
unfoldable pub behind : List ℕ → Level → Level
behind l (level next list) = level next (l ++ list)
behind l (broken why) = broken why

behind_pick : (l : List ℕ) (t : Bool) (x y : Level) → behind l (pick t x y) ≡ pick t (behind l x) (behind l y)
behind_pick l true x y = refl
behind_pick l false x y = refl

behind_append : (l r : List ℕ) (s : Level) → behind (l ++ r) s ≡ behind l (behind r s)
unfolding behind
behind_append l r (level next list) = rw (append_assoc l r list)
behind_append l r (broken why) = refl

push_behind : (k : ℕ) (l : List ℕ) (s : Level) (c : Child) → push k (behind l s) c ≡ behind l (push k s c)
unfolding behind push
push_behind k l (level next list) (Node j) =
    sym (behind_pick l (among j next) (level next list) (pick (ltb (length next) k) (level (next ++ j ∷ []) list) (broken failure.Wide))
    ∙ ap (pick (among j next) (level next (l ++ list))) (behind_pick l (ltb (length next) k) (level (next ++ j ∷ []) list) (broken failure.Wide)))
push_behind k l (level next list) (Missing link) = refl
push_behind k l (level next list) Damaged = refl
push_behind k l (broken why) c = refl

pushes_behind : (k : ℕ) (l : List ℕ) (s : Level) (cs : List Child) → pushes k (behind l s) cs ≡ behind l (pushes k s cs)
pushes_behind k l s [] = refl
pushes_behind k l s (c ∷ cs) = ap (λ x. pushes k x cs) (push_behind k l s c) ∙ pushes_behind k l (push k s c) cs

-- what a node's words say does not hang on the level so far
module _ (a : List ℕ) (m : ℕ) (ts : List ℕ) (f i : ℕ) where
  outside_too : (next list : List ℕ) (why : Failure) → collect a m ts f i (level [] []) ≡ broken why → collect a m ts f i (level next list) ≡ broken why
  unfolding collect
  outside_too next list why e = go (leb (word a i f + word a i (f + 1)) m) e
    where
      new : List ℕ
      new = part ts (word a i f) (word a i (f + 1))

      go : (t : Bool) → pick t (level [] ([] ++ new)) (broken failure.Damaged) ≡ broken why
          → pick t (level next (list ++ new)) (broken failure.Damaged) ≡ broken why
      go true w = cc
      go false w = w

  collect-new : (next list new : List ℕ) → collect a m ts f i (level [] []) ≡ level [] new → collect a m ts f i (level next list) ≡ level next (list ++ new)
  unfolding collect
  collect-new next list new e = go (leb (word a i f + word a i (f + 1)) m) e
    where
      now : List ℕ
      now = part ts (word a i f) (word a i (f + 1))

      go : (t : Bool) → pick t (level [] ([] ++ now)) (broken failure.Damaged) ≡ level [] new
          → pick t (level next (list ++ now)) (broken failure.Damaged) ≡ level next (list ++ new)
      go true w = cc
      go false w = cc

  collect_behind : (next list : List ℕ) → collect a m ts f i (level next list) ≡ behind list (collect a m ts f i (level next []))
  unfolding collect behind
  collect_behind next list =
      sym (behind_pick list (leb (word a i f + word a i (f + 1)) m) (level next ([] ++ part ts (word a i f) (word a i (f + 1)))) (broken failure.Damaged))

  collect_through : (l : List ℕ) (s : Level) → collect a m ts f i (behind l s) ≡ behind l (collect a m ts f i s)
  unfolding collect behind
  collect_through l (level next list) =
      collect_behind next (l ++ list) ∙ behind_append l list (collect a m ts f i (level next [])) ∙ ap (behind l) (sym (collect_behind next list))
  collect_through l (broken why) = refl

module _ (k : ℕ) (a : List ℕ) (n m : ℕ) (ts : List ℕ) (h : ℕ) where
  -- one node, from a frontier with nothing listed: `joins` is what its children make of the frontier
  module _ (next : List ℕ) (i : ℕ) where
    pub visit_outside : (why : Failure) → collect a m ts 6 i (level [] []) ≡ broken why → visit k a n m ts h (level next []) i ≡ broken why
    unfolding visit push
    visit_outside why e = rw (outside_too a m ts 6 i next [] why e)

    -- the literal child and the `*` child, as lookups find them
    module _ (first second : Child) (c1 : first ≡ literal_child a n i h) (c2 : second ≡ star_child a n i) (count : ℕ) (out after : List ℕ)
        (w : Added (collect a m ts 6 i (level [] [])) [] count 1 out after) where
      visit_behind : visit k a n m ts h (level next []) i ≡ behind w.list (push k (push k (level next []) first) second)
      unfolding visit behind
      visit_behind =
          rw (collect-new a m ts 6 i next [] w.list w.is, c1, c2)
          (rw append-nil at (pushes_behind k w.list (level next []) (children a n h i)))

      pub visit_first : (why : Failure) → push k (level next []) first ≡ broken why → visit k a n m ts h (level next []) i ≡ broken why
      unfolding behind push
      visit_first why e = visit_behind ∙ rw e

      module _ (next1 : List ℕ) (e : push k (level next []) first ≡ level next1 []) where
        pub visit_second : (why : Failure) → push k (level next1 []) second ≡ broken why → visit k a n m ts h (level next []) i ≡ broken why
        unfolding behind
        visit_second why f = visit_behind ∙ rw (e, f)

        pub visit_on : (next2 : List ℕ) → push k (level next1 []) second ≡ level next2 [] → Added (visit k a n m ts h (level next []) i) next2 count 1 out after
        unfolding behind
        visit_on next2 f = record {
          list = w.list;
          is = visit_behind ∙ rw (e, f, append-nil);
          counts = w.counts;
          most = w.most;
          stored = w.stored;
        }

  -- one node, behind a list
  module _ (next list : List ℕ) (i : ℕ) where
    visit_through : visit k a n m ts h (level next list) i ≡ behind list (visit k a n m ts h (level next []) i)
    unfolding visit
    visit_through =
        rw (collect_behind a m ts 6 i next list) (pushes_behind k list (collect a m ts 6 i (level next [])) (children a n h i))

  visit_through_all : (l : List ℕ) (s : Level) (i : ℕ) → visit k a n m ts h (behind l s) i ≡ behind l (visit k a n m ts h s i)
  unfolding visit collect push behind
  visit_through_all l (level next list) i =
      visit_through next (l ++ list) i ∙ behind_append l list (visit k a n m ts h (level next []) i) ∙ ap (behind l) (sym (visit_through next list i))
  visit_through_all l (broken why) i = refl

  visit_broken : (why : Failure) (i : ℕ) → visit k a n m ts h (broken why) i ≡ broken why
  unfolding visit collect push
  visit_broken why i = refl

pub ruleset one_node = (visit_outside, visit_first, visit_second, visit_on)

-- a step of one node, which lists behind what is listed, and the steps of several nodes in turn
pub record Turns (step : Level → ℕ → Level) (steps : Level → List ℕ → Level) : Type 0 where
  pub none : (s : Level) → steps s [] ≡ s
  pub more : (s : Level) (i : ℕ) (is : List ℕ) → steps s (i ∷ is) ≡ steps (step s i) is
  pub breaks : (why : Failure) (i : ℕ) → step (broken why) i ≡ broken why
  pub passes : (l : List ℕ) (s : Level) (i : ℕ) → step (behind l s) i ≡ behind l (step s i)

-- the nodes of a frontier with a token's hash
pub visiting : (k : ℕ) (a : List ℕ) (n m : ℕ) (ts : List ℕ) (h : ℕ) → Turns (visit k a n m ts h) (visits k a n m ts h)
unfolding visits
visiting k a n m ts h = record {
  none = λ s. refl;
  more = λ s i is. refl;
  breaks = visit_broken k a n m ts h;
  passes = visit_through_all k a n m ts h;
}

-- the exact targets of the nodes of a frontier
pub collecting : (k : ℕ) (a : List ℕ) (n m : ℕ) (ts : List ℕ) → Turns (λ s i. collect a m ts 4 i s) (exact k a n m ts)
unfolding exact collect
collecting k a n m ts = record {
  none = λ s. refl;
  more = λ s i is. refl;
  breaks = λ why i. refl;
  passes = λ l s i. collect_through a m ts 4 i l s;
}

module _ (step : Level → ℕ → Level) (steps : Level → List ℕ → Level) (t : Turns step steps) where
  steps-append : (s : Level) (is js : List ℕ) → steps s (is ++ js) ≡ steps (steps s is) js
  steps-append s [] js = rw (t.none s) refl
  steps-append s (i ∷ is) js = rw (t.more s i (is ++ js), t.more s i is) (steps-append (step s i) is js)

  steps-failed : (why : Failure) (is : List ℕ) → steps (broken why) is ≡ broken why
  steps-failed why [] = t.none (broken why)
  steps-failed why (i ∷ is) = rw (t.more (broken why) i is, t.breaks why i) (steps-failed why is)

  steps-through : (l : List ℕ) (s : Level) (is : List ℕ) → steps (behind l s) is ≡ behind l (steps s is)
  steps-through l s [] = rw (t.none (behind l s), t.none s) refl
  steps-through l s (i ∷ is) = rw (t.more (behind l s) i is, t.more s i is, t.passes l s i) (steps-through l (step s i) is)

  steps-with : (next list is : List ℕ) → steps (level next list) is ≡ behind list (steps (level next []) is)
  unfolding behind
  steps-with next list is = rw append-nil at (steps-through list (level next []) is)

  -- a whole frontier, behind a list
  module _ (list is : List ℕ) where
    pub all_failed : (why : Failure) → steps (level [] []) is ≡ broken why → steps (level [] list) is ≡ broken why
    unfolding behind
    all_failed why e = steps-with [] list is ∙ rw e

    pub all_on : (next new : List ℕ) → steps (level [] []) is ≡ level next new → steps (level [] list) is ≡ level next (list ++ new)
    unfolding behind
    all_on next new e = steps-with [] list is ∙ rw e

  -- the first i nodes of a frontier give a level; then the next one
  module _ (l next list : List ℕ) (i : ℕ) (w : steps (level [] []) (take i l) ≡ level next list) (q : i < length l) where
    first-behind : (js : List ℕ) → steps (level [] []) (take i l ++ get_or l i 0 ∷ js) ≡ steps (behind list (step (level next []) (get_or l i 0))) js
    unfolding behind
    first-behind js =
        steps-append (level [] []) (take i l) (get_or l i 0 ∷ js) ∙ ap (λ s. steps s (get_or l i 0 ∷ js)) w
        ∙ t.more (level next list) (get_or l i 0) js ∙ ap (λ s. steps s js) (rw append-nil at (t.passes list (level next []) (get_or l i 0)))

    next_failed : (why : Failure) → step (level next []) (get_or l i 0) ≡ broken why → steps (level [] []) l ≡ broken why
    unfolding behind
    next_failed why e =
        ap (steps (level [] [])) (split_at l i 0 q) ∙ first-behind (drop (suc i) l)
        ∙ rw e (steps-failed why (drop (suc i) l))

  next_on : (l next : List ℕ) (count i : ℕ) (out now : List ℕ) (w : Added (steps (level [] []) (take i l)) next count i out now) → i < length l
      → (next1 : List ℕ) (count1 r : ℕ) (after : List ℕ) → r ≡ min (length now) count
      → Added (step (level next []) (get_or l i 0)) next1 count1 1 (take (length now - r) (drop r now)) after
      → Added (steps (level [] []) (take (i + 1) l)) next1 (count + count1) (i + 1) out (put_mid r (length now - r) now after)
  unfolding behind
  next_on l next count i out now w q next1 count1 r after p v =
      joined _ _ _ next next1 count count1 i 1 r out now after p w v
      (rw (add-one i, take-suc l i 0 q) (first-behind l next w.list i w.is q [] ∙ t.none _ ∙ rw v.is))

-- a level's list, and why it is broken: where a lemma names them so, a step's level alone tells the check its arguments
abbrev pub list_of : Level → List ℕ
list_of (level next list) = list
list_of (broken why) = []

abbrev pub why_of : Level → Failure
why_of (level next list) = failure.Damaged
why_of (broken why) = why

-- one node more with a token's hash; one more's exact targets
module _ (k : ℕ) (a : List ℕ) (n m : ℕ) (ts : List ℕ) (h : ℕ) (l next : List ℕ) (i : ℕ) where
  pub visits_on : (count : ℕ) (out now : List ℕ) → Added (visits k a n m ts h (level [] []) (take i l)) next count i out now → i < length l
      → (next1 : List ℕ) (count1 r : ℕ) (after : List ℕ) → r ≡ min (length now) count
      → Added (visit k a n m ts h (level next []) (get_or l i 0)) next1 count1 1 (take (length now - r) (drop r now)) after
      → Added (visits k a n m ts h (level [] []) (take (i + 1) l)) next1 (count + count1) (i + 1) out (put_mid r (length now - r) now after)
  visits_on count out now w q = next_on _ _ (visiting k a n m ts h) l next count i out now w q

  abbrev met : Level
  met = visits k a n m ts h (level [] []) (take i l)

  pub visits_failed : met ≡ level next (list_of met) → i < length l
      → visit k a n m ts h (level next []) (get_or l i 0) ≡ broken (why_of (visit k a n m ts h (level next []) (get_or l i 0)))
      → visit k a n m ts h (level next []) (get_or l i 0) ≡ visits k a n m ts h (level [] []) l
  visits_failed w q e = e ∙ sym (next_failed _ _ (visiting k a n m ts h) l next _ i w q _ e)

module _ (a : List ℕ) (m : ℕ) (ts l : List ℕ) (i : ℕ) where
  pub exact_on : (count : ℕ) (out now : List ℕ) → Added (exact 0 a 0 m ts (level [] []) (take i l)) [] count i out now → i < length l
      → (count1 r : ℕ) (after : List ℕ) → r ≡ min (length now) count
      → Added (collect a m ts 4 (get_or l i 0) (level [] [])) [] count1 1 (take (length now - r) (drop r now)) after
      → Added (exact 0 a 0 m ts (level [] []) (take (i + 1) l)) [] (count + count1) (i + 1) out (put_mid r (length now - r) now after)
  exact_on count out now w q = next_on _ _ (collecting 0 a 0 m ts) l [] count i out now w q []

  abbrev met_last : Level
  met_last = exact 0 a 0 m ts (level [] []) (take i l)

  pub exact_failed : met_last ≡ level [] (list_of met_last) → i < length l
      → collect a m ts 4 (get_or l i 0) (level [] []) ≡ broken (why_of (collect a m ts 4 (get_or l i 0) (level [] [])))
      → collect a m ts 4 (get_or l i 0) (level [] []) ≡ exact 0 a 0 m ts (level [] []) l
  exact_failed w q e = e ∙ sym (next_failed _ _ (collecting 0 a 0 m ts) l [] _ i w q _ e)

pub ruleset fronts = (visits_on, visits_failed, exact_on, exact_failed)
