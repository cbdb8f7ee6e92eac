-- 01's numbers from both sides: the counts (19), the frontier (19) and the output (21), each at its limit and one beyond.
use Prim.Native.Nat.{ℕ, ◌+◌, ◌*◌, ◌/◌, ◌≤◌, ◌<◌}
use native.Mathlib.Omega.{arith}
use mathlib.Core.Path.{◌≡◌, refl, sym, ◌∙◌}
use mathlib.Core.Bool.{Bool, true, false}
use mathlib.Core.List.{List, [], ◌∷◌, ◌++◌, map}
use lib.Dec.{eqb, ltb, leb}
use lib.ListN.{length, drop, length-append}
use borrow.Author.Tests.{lt-ltb, le-ltb, le-leb, lt-leb, ltb-true, eq-eqb, ne_eqb}
use Rattle.subject_rules.specs.Choice.{pick, and, or}
use Rattle.subject_rules.specs.Text.{tokens}
use Rattle.subject_rules.specs.Fnv.{fnv}
use Rattle.subject_rules.specs.Answers.{answer}
use Rattle.subject_rules.specs.Grammar.{grammar}
use Rattle.sublist_area_rules.specs.declared.Child.{Child}
use Rattle.sublist_area_rules.specs.declared.Child.TheVariants.{Node, Missing, Damaged}
use Rattle.sublist_area_rules.specs.Words.{word}
use Rattle.sublist_tree.specs.Lists.{All}
use Rattle.sublist_tree.specs.Tree.{Line, walk, peak}
use Rattle.sublist_walk_rules.specs.declared.Failure.TheVariants as failure
use Rattle.sublist_walk_rules.specs.Walk.{part, among, Level, level, broken, Walk, at, stuck, root, Walked, found, failed, collect, push, pushes, children, visit, visits, arrived, on_token, on_tokens, exact, listed, ended, walk_over}
use Rattle.subject_rules.specs.Outputs.{outcome, if_parsed}
use Rattle.sublist_walk_rules.specs.Matching.{counts_fit, written, match_table}
use Rattle.sublist_walk_rules.specs.Holds.{Narrow, Holds}
use Rattle.sublist_walk_rules.proofs.Parts.{among_snoc}
use Rattle.sublist_walk_rules.proofs.Narrow.{narrow}
use Rattle.sublist_walk_rules.proofs.Frontiers.{walk-holds}
use Rattle.sublist_walk_rules.proofs.Held.{counts_hold, hashes_fit}

-- 19 on the counts
module _ (n m : ℕ) (a ts : List ℕ) where
  pub counts_within : 0 < n → n ≤ length a / 16 → m ≤ length ts → counts_fit n m a ts ≡ true
  counts_within some h k = rw (lt-ltb 0 n some, le-leb (n * 16) (length a) (omega arith), le-leb m (length ts) k)

  pub no_node : n ≡ 0 → counts_fit n m a ts ≡ false
  no_node e = rw e

  pub nodes-over : length a / 16 < n → counts_fit n m a ts ≡ false
  nodes-over h = rw (lt-ltb 0 n (omega arith), lt-leb (n * 16) (length a) (omega arith))

  pub targets-over : length ts < m → counts_fit n m a ts ≡ false
  targets-over h = rw (lt-leb m (length ts) h) (go (ltb 0 n) (leb (n * 16) (length a)))
    where
      go : (x y : Bool) → and x (and y false) ≡ false
      go true true = refl
      go true false = refl
      go false y = refl

-- 21: a list of the output's length is written, one longer is refused with its length
module _ (list : List ℕ) (peak : ℕ) (out : List ℕ) where
  pub list-within : length list ≤ length out → written (found list peak) out ≡ outcome (answer 0 (length list ∷ peak ∷ [])) (list ++ drop (length list) out)
  list-within h = rw (le-ltb (length out) (length list) h)

  pub list_over : length out < length list → written (found list peak) out ≡ outcome (answer 21 (length list ∷ [])) out
  list_over h = rw (lt-ltb (length out) (length list) h)

-- none twice
abbrev pub Once : List ℕ → Type 0
Once [] = Unit {0}
Once (x ∷ xs) = (among x xs ≡ false) × Once xs

once_snoc : (xs : List ℕ) (j : ℕ) → Once xs → among j xs ≡ false → Once (xs ++ (j ∷ []))
once_snoc [] j o f = (refl, tt)
once_snoc (x ∷ xs) j o f = (among_snoc x xs j ∙ rw (o.0, ne_eqb x j other), once_snoc xs j o.1 (rest (eqb j x) f))
  where
    other : x ≡ j → ⊥
    other e = let z : ◌≡◌ {A = Bool} true false = rw (eq-eqb j x (sym e)) at f in grind arith

    rest : (b : Bool) → or b (among j xs) ≡ false → among j xs ≡ false
    rest true g = cc
    rest false g = g

-- a frontier of at most k nodes, none twice
abbrev pub Fits : ℕ → Level → Type 0
Fits k (level next list) = (length next ≤ k) × Once next
Fits k (broken why) = Unit {0}

abbrev FitsWalk : ℕ → Walk → Type 0
FitsWalk k (at front list peak) = peak ≤ k
FitsWalk k (stuck why) = Unit {0}

abbrev pub FitsEnd : ℕ → Walked → Type 0
FitsEnd k (found list peak) = peak ≤ k
FitsEnd k (failed why) = Unit {0}

module _ (k : ℕ) where
  collect-fits : (a : List ℕ) (m : ℕ) (ts : List ℕ) (f i : ℕ) (s : Level) → Fits k s → Fits k (collect a m ts f i s)
  unfolding collect
  collect-fits a m ts f i (level next list) o = go (leb (word a i f + word a i (f + 1)) m)
    where
      go : (b : Bool) → Fits k (pick b (level next (list ++ part ts (word a i f) (word a i (f + 1)))) (broken failure.Damaged))
      go true = o
      go false = tt
  collect-fits a m ts f i (broken why) o = tt

  push-fits : (s : Level) (c : Child) → Fits k s → Fits k (push k s c)
  unfolding push
  push-fits (level next list) (Node j) o = go (among j next) refl (ltb (length next) k) refl
    where
      go : (b : Bool) → among j next ≡ b → (d : Bool) → ltb (length next) k ≡ d
          → Fits k (pick b (level next list) (pick d (level (next ++ (j ∷ [])) list) (broken failure.Wide)))
      go true p d q = o
      go false p true q = (omega (arith, length-append next (j ∷ []), ltb-true (length next) k q), once_snoc next j o.1 p)
      go false p false q = tt
  push-fits (level next list) (Missing link) o = o
  push-fits (level next list) Damaged o = tt
  push-fits (broken why) c o = tt

  pushes-fits : (s : Level) (cs : List Child) → Fits k s → Fits k (pushes k s cs)
  pushes-fits s [] o = o
  pushes-fits s (c ∷ cs) o = pushes-fits (push k s c) cs (push-fits s c o)

  module _ (a : List ℕ) (n m : ℕ) (ts : List ℕ) where
    visits-fits : (h : ℕ) (s : Level) (is : List ℕ) → Fits k s → Fits k (visits k a n m ts h s is)
    unfolding visits visit
    visits-fits h s [] o = o
    visits-fits h s (i ∷ is) o = visits-fits h (visit k a n m ts h s i) is (pushes-fits (collect a m ts 6 i s) (children a n h i) (collect-fits a m ts 6 i s o))

    -- the frontier that a token leads to: no node twice, and no more than the limit. Of any table
    pub frontier_fits : (h : ℕ) (front list : List ℕ) → Fits k (visits k a n m ts h (level [] list) front)
    frontier_fits h front list = visits-fits h (level [] list) front (omega arith, tt)

    token_fits : (w : Walk) (h : ℕ) → FitsWalk k w → FitsWalk k (on_token k a n m ts w h)
    unfolding on_token arrived
    token_fits (at front list peak) h o = go (visits k a n m ts h (level [] list) front) (frontier_fits h front list)
      where
        go : (s : Level) → Fits k s → FitsWalk k (arrived k a n m ts peak s)
        go (level next new) f = omega (arith, f.0, o)
        go (broken why) f = tt
    token_fits (stuck why) h o = tt

    tokens_fit : (w : Walk) (hs : List ℕ) → FitsWalk k w → FitsWalk k (on_tokens k a n m ts w hs)
    unfolding on_tokens
    tokens_fit w [] o = o
    tokens_fit w (h ∷ hs) o = tokens_fit (on_token k a n m ts w h) hs (token_fits w h o)

    ended-fits : (w : Walk) → FitsWalk k w → FitsEnd k (ended k a n m ts w)
    unfolding ended listed
    ended-fits (at front list peak) o = go (exact k a n m ts (level [] list) front)
      where
        go : (s : Level) → FitsEnd k (listed k a n m ts peak s)
        go (level next new) = o
        go (broken why) = tt
    ended-fits (stuck why) o = tt

    -- so is the peak
    pub peak-fits : 0 < k → (hs : List ℕ) → FitsEnd k (walk_over k a n m ts hs)
    unfolding walk_over
    peak-fits some hs = ended-fits (on_tokens k a n m ts root hs) (tokens_fit root hs (omega arith))

    -- where the tree's walk has more nodes in a frontier than the limit, the area's walk would pass it
    pub walk_passes : (ls : List (Line ℕ)) → Holds a n m ts ls → (hs : List ℕ) → All Narrow hs → 0 < k → k < peak eqb hs (ls ∷ [])
        → walk_over k a n m ts hs ≡ failed failure.Wide
    walk_passes ls H hs smalls some passes = go (walk_over k a n m ts hs) refl (peak-fits some hs)
      where
        top : ℕ
        top = peak eqb hs (ls ∷ [])

        whole : walk_over top a n m ts hs ≡ found (walk eqb hs (ls ∷ [])) top
        whole = walk-holds top a n m ts ls H hs smalls (omega arith)

        same : (walk_over k a n m ts hs ≡ failed failure.Wide → ⊥) → walk_over top a n m ts hs ≡ walk_over k a n m ts hs
        same never = narrow k top (omega (arith, passes)) a n m ts hs never

        go : (w : Walked) → walk_over k a n m ts hs ≡ w → FitsEnd k w → w ≡ failed failure.Wide
        go (found list p) e f =
            let s = same (λ x. grind arith) in
            let q : p ≡ top = cc (whole, s, e) in
            absurd (omega (arith, q, f, passes))
        go (failed failure.Wide) e f = refl
        go (failed failure.Damaged) e f = let s = same (λ x. grind arith) in cc (whole, s, e)

-- 19 in the walk: up to 1,024 nodes in a frontier it is none (Held.match_holds), from the 1,025th on it is
pub match_passes : (a : List ℕ) (n m : ℕ) (ts : List ℕ) (ls : List (Line ℕ)) → Holds a n m ts ls → (subject out : List ℕ)
    → 1024 < peak eqb (map fnv (tokens subject)) (ls ∷ []) → match_table n m a ts subject out ≡ if_parsed (grammar false subject) out (outcome (answer 19 []) out)
unfolding match_table
match_passes a n m ts ls H subject out passes =
    rw (counts_hold a n m ts ls H, walk_passes 1024 a n m ts ls H (map fnv (tokens subject)) (hashes_fit (tokens subject)) (omega arith) (omega (arith, passes)))
