-- A walk that never passes a limit k is the same within a larger limit l.
use Prim.Native.Nat.{ℕ, ◌≤◌}
use native.Mathlib.Omega.{arith}
use mathlib.Core.Path.{◌≡◌, refl, ap, ◌∙◌}
use mathlib.Core.Bool.{Bool, true, false}
use mathlib.Core.List.{List, [], ◌∷◌, ◌++◌}
use lib.Dec.{ltb}
use lib.ListN.{length}
use borrow.Author.Tests.{lt-ltb, ltb-true}
use Rattle.subject_rules.specs.Choice.{pick}
use Rattle.sublist_area_rules.specs.declared.Child.{Child}
use Rattle.sublist_area_rules.specs.declared.Child.TheVariants.{Node, Missing, Damaged}
use Rattle.sublist_walk_rules.specs.declared.Failure.TheVariants as failure
use Rattle.sublist_walk_rules.specs.Walk.{among, Level, level, broken, Walk, at, stuck, root, failed, collect, push, pushes, children, visit, visits, arrived, on_token, on_tokens, exact, listed, ended, walk_over}

-- to the exact targets neither limit nor node count matters
pub exact-any : (k : ℕ) (a : List ℕ) (n m : ℕ) (ts : List ℕ) (s : Level) (is : List ℕ) → exact k a n m ts s is ≡ exact 0 a 0 m ts s is
unfolding exact
exact-any k a n m ts s [] = refl
exact-any k a n m ts s (i ∷ is) = exact-any k a n m ts (collect a m ts 4 i s) is

-- nor does any of these, or a target, to what a frontier and a list become
module _ (k l : ℕ) (a : List ℕ) (n m : ℕ) (ts us : List ℕ) (peak : ℕ) where
  pub arrived-any : (s : Level) → arrived k a n m ts peak s ≡ arrived l a n m us peak s
  unfolding arrived
  arrived-any (level next list) = refl
  arrived-any (broken why) = refl

  pub listed-any : (s : Level) → listed k a n m ts peak s ≡ listed l a n m us peak s
  unfolding listed
  listed-any (level next list) = refl
  listed-any (broken why) = refl

-- t is s, unless s is `wide`: it has passed its limit
abbrev Agrees : {A : Type 0} → A → A → A → Type 0
Agrees wide s t = (s ≡ wide → ⊥) → t ≡ s

-- steps that agree, from places that do
onward : {A B : Type 0} (f g : A → B) (wide : A) (wider : B) → f wide ≡ wider → ((s : A) → Agrees wider (f s) (g s)) → (s t : A) → Agrees wide s t → Agrees wider (f s) (g t)
onward f g wide wider w h s t e never = ap g (e (λ q. never (ap f q ∙ w))) ∙ h s never

module _ (k l : ℕ) (small : k ≤ l) where
  push_agrees : (s : Level) (c : Child) → Agrees (broken failure.Wide) (push k s c) (push l s c)
  unfolding push
  push_agrees (level next list) (Node j) = go (among j next) (ltb (length next) k) refl
    where
      go : (b d : Bool) → ltb (length next) k ≡ d
          → Agrees (broken failure.Wide) (pick b (level next list) (pick d (level (next ++ j ∷ []) list) (broken failure.Wide)))
          (pick b (level next list) (pick (ltb (length next) l) (level (next ++ j ∷ []) list) (broken failure.Wide)))
      go true d q never = refl
      go false true q never = rw (lt-ltb (length next) l (omega (arith, ltb-true (length next) k q)))
      go false false q never = absurd (never refl)
  push_agrees (level next list) (Missing link) = λ never. refl
  push_agrees (level next list) Damaged = λ never. refl
  push_agrees (broken why) c = λ never. refl

  pushes_agrees : (s t : Level) (cs : List Child) → Agrees (broken failure.Wide) s t → Agrees (broken failure.Wide) (pushes k s cs) (pushes l t cs)
  unfolding push
  pushes_agrees s t [] e = e
  pushes_agrees s t (c ∷ cs) e =
      pushes_agrees (push k s c) (push l t c) cs (onward (λ x. push k x c) (λ x. push l x c) _ _ refl (λ x. push_agrees x c) s t e)

  module _ (a : List ℕ) (n m : ℕ) (ts : List ℕ) where
    visits_agrees : (h : ℕ) (s t : Level) (is : List ℕ) → Agrees (broken failure.Wide) s t
        → Agrees (broken failure.Wide) (visits k a n m ts h s is) (visits l a n m ts h t is)
    unfolding visits visit collect
    visits_agrees h s t [] e = e
    visits_agrees h s t (i ∷ is) e =
        visits_agrees h (visit k a n m ts h s i) (visit l a n m ts h t i) is
        (pushes_agrees (collect a m ts 6 i s) (collect a m ts 6 i t) (children a n h i)
        (onward (collect a m ts 6 i) (collect a m ts 6 i) _ _ refl (λ x never. refl) s t e))

    token_agrees : (w : Walk) (h : ℕ) → Agrees (stuck failure.Wide) (on_token k a n m ts w h) (on_token l a n m ts w h)
    unfolding on_token arrived
    token_agrees (at front list peak) h =
        onward (arrived k a n m ts peak) (arrived l a n m ts peak) (broken failure.Wide) _ refl (λ s never. arrived-any l k a n m ts ts peak s) _ _
        (visits_agrees h (level [] list) (level [] list) front (λ never. refl))
    token_agrees (stuck why) h = λ never. refl

    tokens_agrees : (w v : Walk) (hs : List ℕ) → Agrees (stuck failure.Wide) w v
        → Agrees (stuck failure.Wide) (on_tokens k a n m ts w hs) (on_tokens l a n m ts v hs)
    unfolding on_tokens on_token
    tokens_agrees w v [] e = e
    tokens_agrees w v (h ∷ hs) e =
        tokens_agrees (on_token k a n m ts w h) (on_token l a n m ts v h) hs
        (onward (λ x. on_token k a n m ts x h) (λ x. on_token l a n m ts x h) _ _ refl (λ x. token_agrees x h) w v e)

    ended-same : (w : Walk) → ended l a n m ts w ≡ ended k a n m ts w
    unfolding ended
    ended-same (at front list peak) =
        rw (exact-any k a n m ts (level [] list) front, exact-any l a n m ts (level [] list) front) (listed-any l k a n m ts ts peak (exact 0 a 0 m ts (level [] list) front))
    ended-same (stuck why) = refl

    pub narrow : (hs : List ℕ) → (walk_over k a n m ts hs ≡ failed failure.Wide → ⊥) → walk_over l a n m ts hs ≡ walk_over k a n m ts hs
    unfolding walk_over ended
    narrow hs =
        onward (ended k a n m ts) (ended l a n m ts) (stuck failure.Wide) _ refl (λ w never. ended-same w) _ _ (tokens_agrees root root hs (λ never. refl))
