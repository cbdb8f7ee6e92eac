-- On an area that holds the tree of some lines, the walk is that of the tree: frontier by frontier, the nodes stand for the tree's nodes.
use Prim.Native.Nat.{ℕ, ◌+◌, ◌≤◌, ◌<◌, max}
use native.Mathlib.Omega.{arith}
use mathlib.Core.Path.{◌≡◌, refl, sym, ap, ◌∙◌}
use mathlib.Core.Bool.{Bool, true, false}
use mathlib.Core.List.{List, [], ◌∷◌, ◌++◌, map, map-append, append_assoc}
use lib.Dec.{eqb}
use lib.ListN.{length, length-append, length-map}
use borrow.Author.Tests.{lt-ltb, le-leb, eqb-true}
use Rattle.std.proofs.lemmas.List.{append-nil, map-append}
use Rattle.subject_rules.specs.Choice.{or}
use Rattle.sublist_tree.specs.Lists.{concat, All}
use Rattle.sublist_tree.specs.Tree.{Key, star, lit, Line, below, ends, present, step, walk, peak, left_at}
use Rattle.sublist_tree.proofs.Bytes.{All-map}
use Rattle.sublist_area_rules.specs.declared.Child.{Child}
use Rattle.sublist_area_rules.specs.declared.Child.TheVariants.{Node, Missing, Damaged}
use Rattle.sublist_area_rules.specs.Words.{word, child_of}
use Rattle.sublist_walk_rules.specs.Walk.{among, Level, level, Walk, at, stuck, root, found, collect, push, visit, visits, arrived, on_token, on_tokens, exact, listed, ended, walk_over, visit_by, visits_by, on_token_by, on_tokens_by, walk_by}
use Rattle.sublist_walk_rules.specs.Holds.{Narrow, Leads, HoldsBy, Holds}

module _ {K : Type 0} (eq : K → K → Bool) where
  -- below a run and one key more
  pub left_snoc : (ls : List (Line K)) (ks : List (Key K)) (k : Key K) → left_at eq ls (ks ++ (k ∷ [])) ≡ below eq k (left_at eq ls ks)
  unfolding left_at
  left_snoc ls [] k = refl
  left_snoc ls (j ∷ ks) k = left_snoc (below eq j ls) ks k

module _ {K : Type 0} where
  -- the last key, and what stands before it
  abbrev last_of : List (Key K) → Key K
  last_of [] = star
  last_of (k ∷ []) = k
  last_of (k ∷ (j ∷ ks)) = last_of (j ∷ ks)

  abbrev init_of : List (Key K) → List (Key K)
  init_of [] = []
  init_of (k ∷ []) = []
  init_of (k ∷ (j ∷ ks)) = k ∷ init_of (j ∷ ks)

  last_snoc : (ks : List (Key K)) (k : Key K) → last_of (ks ++ (k ∷ [])) ≡ k
  last_snoc [] k = refl
  last_snoc (i ∷ []) k = refl
  last_snoc (i ∷ (j ∷ ks)) k = last_snoc (j ∷ ks) k

  init_snoc : (ks : List (Key K)) (k : Key K) → init_of (ks ++ (k ∷ [])) ≡ ks
  init_snoc [] k = refl
  init_snoc (i ∷ []) k = refl
  init_snoc (i ∷ (j ∷ ks)) k = ap (λ x. i ∷ x) (init_snoc (j ∷ ks) k)

  snoc_run : (ks js : List (Key K)) (k j : Key K) → ks ++ (k ∷ []) ≡ js ++ (j ∷ []) → ks ≡ js
  snoc_run ks js k j e = sym (init_snoc ks k) ∙ ap init_of e ∙ init_snoc js j

  snoc_key : (ks js : List (Key K)) (k j : Key K) → ks ++ (k ∷ []) ≡ js ++ (j ∷ []) → k ≡ j
  snoc_key ks js k j e = sym (last_snoc ks k) ∙ ap last_of e ∙ last_snoc js j

all_append : {A : Type 0} (P : A → Type 0) (xs ys : List A) → All P xs → All P ys → All P (xs ++ ys)
all_append P [] ys p q = q
all_append P (x ∷ xs) ys p q = (p.0, all_append P xs ys p.1 q)

module _ {K : Type 0} (eq : K → K → Bool) where
  pub peak_front : (hs : List K) (ns : List (List (Line K))) → length ns ≤ peak eq hs ns
  peak_front [] ns = omega arith
  peak_front (h ∷ hs) ns = omega arith

-- the node that a lookup found, if it found one
abbrev ids : Child → List ℕ
ids (Node j) = j ∷ []
ids (Missing link) = []
ids Damaged = []

module _ {K : Type 0} where
  not_among : (label : ℕ → List (Key K)) (j : ℕ) (next : List ℕ) → All (λ x. label x ≡ label j → ⊥) next → among j next ≡ false
  not_among label j [] a = refl
  not_among label j (i ∷ next) a = go (eqb j i) refl (not_among label j next a.1)
    where
      go : (b : Bool) → eqb j i ≡ b → among j next ≡ false → or b (among j next) ≡ false
      go true e ih = absurd (a.0 (ap label (sym (eqb-true j i e))))
      go false e ih = ih

module _ {K : Type 0} {eq : K → K → Bool} {P : K → Type 0} {look : ℕ → Key K → Child} (limit : ℕ) (a : List ℕ) (n m : ℕ) (ts : List ℕ) (ls : List (Line K)) (H : HoldsBy eq P look a n m ts ls) where
  abbrev label : ℕ → List (Key K)
  label = H.label

  -- the tree's node that node i stands for
  abbrev N : ℕ → List (Line K)
  N i = left_at eq ls (label i)

  -- what a lookup by k at node i says
  abbrev Led : ℕ → Key K → Child → Type 0
  Led i k c = Leads n label (label i) k (below eq k (N i)) c

  -- x is the child of i by k, or by some key
  abbrev By : ℕ → Key K → ℕ → Type 0
  By i k x = label x ≡ label i ++ (k ∷ [])

  abbrev Kid : ℕ → ℕ → Type 0
  Kid i x = (k : Key K) × By i k x

  -- it is not
  abbrev NotBy : ℕ → Key K → ℕ → Type 0
  NotBy i k x = By i k x → ⊥

  abbrev NoKid : ℕ → ℕ → Type 0
  NoKid i x = (k : Key K) → NotBy i k x

  abbrev Away : List ℕ → ℕ → Type 0
  Away next i = All (NoKid i) next

  -- the nodes stand for different runs
  abbrev Apart : ℕ → ℕ → Type 0
  Apart x y = label x ≡ label y → ⊥

  abbrev Distinct : List ℕ → Type 0
  Distinct [] = Unit {0}
  Distinct (x ∷ xs) = All (Apart x) xs × Distinct xs

  led : (i : ℕ) (k : Key K) (c : Child) → Led i k c → map N (ids c) ≡ present (below eq k (N i))
  led i k (Node j) l = go (below eq k (N i)) refl l.2
    where
      go : (u : List (Line K)) → below eq k (N i) ≡ u → (u ≡ [] → ⊥) → N j ∷ [] ≡ present u
      go [] e f = absurd (f refl)
      go (x ∷ u) e f = ap (λ y. y ∷ []) (ap (left_at eq ls) l.1 ∙ left_snoc eq ls (label i) k ∙ e)
  led i k (Missing link) l = ap present (sym l)
  led i k Damaged l = absurd l

  kid : (i : ℕ) (k : Key K) (c : Child) → Led i k c → All (By i k) (ids c)
  kid i k (Node j) l = (l.1, tt)
  kid i k (Missing link) l = tt
  kid i k Damaged l = absurd l

  inside : (i : ℕ) (k : Key K) (c : Child) → Led i k c → All (λ x. x < n) (ids c)
  inside i k (Node j) l = (l.0, tt)
  inside i k (Missing link) l = tt
  inside i k Damaged l = absurd l

  pushed : (next list : List ℕ) (i : ℕ) (k : Key K) (c : Child) → Led i k c
      → All (NotBy i k) next → length next + length (ids c) ≤ limit → push limit (level next list) c ≡ level (next ++ ids c) list
  unfolding push
  pushed next list i k (Node j) l away fits =
      rw (not_among label j next (All-map (NotBy i k) (λ x. label x ≡ label j → ⊥) next (λ x f e. f (e ∙ l.1)) away), lt-ltb (length next) limit (omega arith)) refl
  pushed next list i k (Missing link) l away fits = ap (λ x. level x list) (sym (append-nil next))
  pushed next list i k Damaged l away fits = absurd l

  -- the children of node i that the hash h leads to, as the walk takes them
  abbrev kids_of : K → ℕ → List ℕ
  kids_of h i = ids (look i (lit h)) ++ ids (look i star)

  abbrev kids : K → List ℕ → List ℕ
  kids h [] = []
  kids h (i ∷ fr) = kids_of h i ++ kids h fr

  kid_any : (i : ℕ) (k : Key K) (c : Child) → Led i k c → All (Kid i) (ids c)
  kid_any i k c l = All-map (By i k) (Kid i) (ids c) (λ x e. (k, e)) (kid i k c l)

  module _ (h : K) (small : P h) where
    lit_leads : (i : ℕ) → i < n → Led i (lit h) (look i (lit h))
    lit_leads i l = H.child i (lit h) l small

    star_leads : (i : ℕ) → i < n → Led i star (look i star)
    star_leads i l = H.child i star l tt

    kids_nodes : (i : ℕ) → i < n → map N (kids_of h i) ≡ present (below eq (lit h) (N i)) ++ present (below eq star (N i))
    kids_nodes i l =
        map-append N (ids (look i (lit h))) (ids (look i star))
        ∙ ap (λ x. x ++ map N (ids (look i star))) (led i (lit h) (look i (lit h)) (lit_leads i l))
        ∙ ap (λ x. present (below eq (lit h) (N i)) ++ x) (led i star (look i star) (star_leads i l))

    kids_step : (fr : List ℕ) → All (λ i. i < n) fr → map N (kids h fr) ≡ step eq h (map N fr)
    kids_step [] in_n = refl
    kids_step (i ∷ fr) in_n =
        map-append N (kids_of h i) (kids h fr) ∙ ap (λ x. x ++ map N (kids h fr)) (kids_nodes i in_n.0)
        ∙ ap (λ x. (present (below eq (lit h) (N i)) ++ present (below eq star (N i))) ++ x) (kids_step fr in_n.1)
        ∙ append_assoc (present (below eq (lit h) (N i))) (present (below eq star (N i))) (step eq h (map N fr))

    kids_of_kid : (i : ℕ) → i < n → All (Kid i) (kids_of h i)
    kids_of_kid i l =
        all_append (Kid i) (ids (look i (lit h))) (ids (look i star))
        (kid_any i (lit h) (look i (lit h)) (lit_leads i l))
        (kid_any i star (look i star) (star_leads i l))

    kids_inside : (fr : List ℕ) → All (λ i. i < n) fr → All (λ i. i < n) (kids h fr)
    kids_inside [] in_n = tt
    kids_inside (i ∷ fr) in_n =
        all_append (λ x. x < n) (kids_of h i) (kids h fr)
        (all_append (λ x. x < n) (ids (look i (lit h))) (ids (look i star))
        (inside i (lit h) (look i (lit h)) (lit_leads i in_n.0))
        (inside i star (look i star) (star_leads i in_n.0)))
        (kids_inside fr in_n.1)

    -- one node's turn
    visited : (next list : List ℕ) (i : ℕ) → i < n → Away next i → length next + length (kids_of h i) ≤ limit
        → visit_by look limit a n m ts h (level next list) i ≡ level (next ++ kids_of h i) (list ++ ends true (N i))
    unfolding visit_by collect
    visited next list i l away fits =
        rw (
          le-leb (word a i 6 + word a i 7) m (H.tails i l).0,
          (H.tails i l).1,
          pushed next (list ++ ends true (N i)) i (lit h) (look i (lit h)) (lit_leads i l) by_lit (omega (arith, length-append (ids (look i (lit h))) (ids (look i star)))),
          pushed (next ++ ids (look i (lit h))) (list ++ ends true (N i)) i star (look i star) (star_leads i l) by_star
              (omega (arith, length-append (ids (look i (lit h))) (ids (look i star)), length-append next (ids (look i (lit h))))),
        )
        (ap (λ x. level x (list ++ ends true (N i))) (append_assoc next (ids (look i (lit h))) (ids (look i star))))
      where
        by_lit : All (NotBy i (lit h)) next
        by_lit = All-map (NoKid i) (NotBy i (lit h)) next (λ x f. f (lit h)) away

        star-lit : ◌≡◌ {A = Key K} star (lit h) → ⊥
        star-lit e = grind arith

        by_star : All (NotBy i star) (next ++ ids (look i (lit h)))
        by_star =
            all_append (NotBy i star) next (ids (look i (lit h)))
            (All-map (NoKid i) (NotBy i star) next (λ x f. f star) away)
            (All-map (By i (lit h)) (NotBy i star) (ids (look i (lit h)))
            (λ x e f. star-lit (snoc_key (label i) (label i) star (lit h) (sym f ∙ e))) (kid i (lit h) (look i (lit h)) (lit_leads i l)))

    -- the children of a node are no other node's
    away_kids : (i : ℕ) → i < n → (fr : List ℕ) → All (Apart i) fr → All (Away (kids_of h i)) fr
    away_kids i l [] apart = tt
    away_kids i l (j ∷ fr) apart = (
      All-map (Kid i) (NoKid j) (kids_of h i) (λ x c k e. apart.0 (snoc_run (label i) (label j) c.0 k (sym c.1 ∙ e))) (kids_of_kid i l),
      away_kids i l fr apart.1,
    )

    away_join : (next new fr : List ℕ) → All (Away next) fr → All (Away new) fr → All (Away (next ++ new)) fr
    away_join next new [] p q = tt
    away_join next new (j ∷ fr) p q = (all_append (NoKid j) next new p.0 q.0, away_join next new fr p.1 q.1)

    visits_all : (fr next list : List ℕ) → All (λ i. i < n) fr → Distinct fr → All (Away next) fr → length next + length (kids h fr) ≤ limit
        → visits_by look limit a n m ts h (level next list) fr ≡ level (next ++ kids h fr) (list ++ concat (map (ends true) (map N fr)))
    unfolding visits_by
    visits_all [] next list in_n apart away fits = rw (append-nil next, append-nil list) refl
    visits_all (i ∷ fr) next list in_n apart away fits =
        ap (λ s. visits_by look limit a n m ts h s fr) (visited next list i in_n.0 away.0 (omega (arith, length-append (kids_of h i) (kids h fr))))
        ∙ visits_all fr (next ++ kids_of h i) (list ++ ends true (N i)) in_n.1 apart.1
        (away_join next (kids_of h i) fr away.1 (away_kids i in_n.0 fr apart.0))
        (omega (arith, length-append (kids_of h i) (kids h fr), length-append next (kids_of h i)))
        ∙ rw (append_assoc next (kids_of h i) (kids h fr), append_assoc list (ends true (N i)) (concat (map (ends true) (map N fr)))) refl

    -- the children of the frontier stand for different runs
    kids_of_lem : (fr : List ℕ) → All (λ i. i < n) fr → (i : ℕ) → i < n → All (Apart i) fr → (x : ℕ) → Kid i x → All (Apart x) (kids h fr)
    kids_of_lem [] in_n i l apart x c = tt
    kids_of_lem (j ∷ fr) in_n i l apart x c =
        all_append (Apart x) (kids_of h j) (kids h fr)
        (All-map (Kid j) (Apart x) (kids_of h j)
        (λ y d e. apart.0 (snoc_run (label i) (label j) c.0 d.0 (sym c.1 ∙ e ∙ d.1))) (kids_of_kid j in_n.0))
        (kids_of_lem fr in_n.1 i l apart.1 x c)

    distinct_append : (xs ys : List ℕ) → Distinct xs → Distinct ys → All (λ x. All (Apart x) ys) xs → Distinct (xs ++ ys)
    distinct_append [] ys p q c = q
    distinct_append (x ∷ xs) ys p q c = (all_append (Apart x) xs ys p.0 c.0, distinct_append xs ys p.1 q c.1)

    distinct_ids : (c : Child) → Distinct (ids c)
    distinct_ids (Node j) = (tt, tt)
    distinct_ids (Missing link) = tt
    distinct_ids Damaged = tt

    distinct_kids_of : (i : ℕ) → i < n → Distinct (kids_of h i)
    distinct_kids_of i l =
        distinct_append (ids (look i (lit h))) (ids (look i star)) (distinct_ids (look i (lit h))) (distinct_ids (look i star))
        (All-map (By i (lit h)) (λ x. All (Apart x) (ids (look i star))) (ids (look i (lit h)))
        (λ x e. All-map (By i star) (Apart x) (ids (look i star))
        (λ y d f. lit-star (snoc_key (label i) (label i) (lit h) star (sym e ∙ f ∙ d))) (kid i star (look i star) (star_leads i l)))
        (kid i (lit h) (look i (lit h)) (lit_leads i l)))
      where
        lit-star : ◌≡◌ {A = Key K} (lit h) star → ⊥
        lit-star e = grind arith

    distinct_kids : (fr : List ℕ) → All (λ i. i < n) fr → Distinct fr → Distinct (kids h fr)
    distinct_kids [] in_n apart = tt
    distinct_kids (i ∷ fr) in_n apart =
        distinct_append (kids_of h i) (kids h fr) (distinct_kids_of i in_n.0) (distinct_kids fr in_n.1 apart.1)
        (All-map (Kid i) (λ x. All (Apart x) (kids h fr)) (kids_of h i) (λ x c. kids_of_lem fr in_n.1 i in_n.0 apart.0 x c) (kids_of_kid i in_n.0))

  away_none : (fr : List ℕ) → All (Away []) fr
  away_none [] = tt
  away_none (i ∷ fr) = (tt, away_none fr)

  exact_all : (fr list : List ℕ) → All (λ i. i < n) fr → exact limit a n m ts (level [] list) fr ≡ level [] (list ++ concat (map (ends false) (map N fr)))
  unfolding exact collect
  exact_all [] list in_n = rw (append-nil list) refl
  exact_all (i ∷ fr) list in_n =
      rw (le-leb (word a i 4 + word a i 5) m (H.exact i in_n.0).0, (H.exact i in_n.0).1)
      (exact_all fr (list ++ ends false (N i)) in_n.1 ∙ ap (λ x. level [] x) (append_assoc list (ends false (N i)) (concat (map (ends false) (map N fr)))))

  -- from a frontier on, the walk of the area is the walk of the tree
  walks_on : (hs : List K) (fr list : List ℕ) (top : ℕ) → All P hs → All (λ i. i < n) fr → Distinct fr → length fr ≤ top → peak eq hs (map N fr) ≤ limit
      → ended limit a n m ts (on_tokens_by look limit a n m ts (at fr list top) hs) ≡ found (list ++ walk eq hs (map N fr)) (max top (peak eq hs (map N fr)))
  unfolding ended on_tokens_by on_token_by arrived listed
  walks_on [] fr list top smalls in_n apart low fits =
      rw (exact_all fr list in_n) (ap (λ p. found (list ++ concat (map (ends false) (map N fr))) p) (omega (arith, length-map fr N)))
  walks_on (h ∷ hs) fr list top smalls in_n apart low fits =
      rw (visits_all h smalls.0 fr [] list in_n apart (away_none fr) (omega (arith, count, peak_front eq hs (step eq h (map N fr)))))
      (walks_on hs (kids h fr) (list ++ concat (map (ends true) (map N fr))) (max top (length (kids h fr))) smalls.1
      (kids_inside h smalls.0 fr in_n) (distinct_kids h smalls.0 fr in_n apart) (omega arith) (rw kids_are (omega arith))
      ∙ rw kids_are
      (rw (append_assoc list (concat (map (ends true) (map N fr))) (walk eq hs (step eq h (map N fr))))
      (ap (λ p. found (list ++ (concat (map (ends true) (map N fr)) ++ walk eq hs (step eq h (map N fr)))) p)
      (omega (arith, count, peak_front eq hs (step eq h (map N fr)), length-map fr N)))))
    where
      kids_are : map N (kids h fr) ≡ step eq h (map N fr)
      kids_are = kids_step h smalls.0 fr in_n

      count : length (kids h fr) ≡ length (step eq h (map N fr))
      count = sym (length-map (kids h fr) N) ∙ ap length kids_are

  -- the whole walk: list and peak are those of the tree
  pub walk-holds_by : (hs : List K) → All P hs → peak eq hs (ls ∷ []) ≤ limit
      → walk_by look limit a n m ts hs ≡ found (walk eq hs (ls ∷ [])) (peak eq hs (ls ∷ []))
  unfolding walk_by left_at
  walk-holds_by hs smalls fits =
      walks_on hs (0 ∷ []) [] _ smalls (H.rooted, tt) (tt, tt) (omega arith) (rw top-is fits)
      ∙ rw top-is (ap (λ p. found (walk eq hs (ls ∷ [])) p) (omega (arith, peak_front eq hs (ls ∷ []))))
    where
      top-is : N 0 ≡ ls
      top-is = ap (left_at eq ls) H.top

-- ---- the keys are hashes

module _ (limit : ℕ) (a : List ℕ) (n m : ℕ) (ts : List ℕ) where
  same-visits : (h : ℕ) (s : Level) (fr : List ℕ) → visits_by (child_of a n) limit a n m ts h s fr ≡ visits limit a n m ts h s fr
  unfolding visits_by visit_by visits visit
  same-visits h s [] = refl
  same-visits h s (i ∷ fr) = same-visits h (visit limit a n m ts h s i) fr

  same_token : (w : Walk) (h : ℕ) → on_token_by (child_of a n) limit a n m ts w h ≡ on_token limit a n m ts w h
  unfolding on_token_by on_token
  same_token (at front list peak) h = ap (arrived limit a n m ts peak) (same-visits h (level [] list) front)
  same_token (stuck why) h = refl

  same-tokens : (hs : List ℕ) (w : Walk) → on_tokens_by (child_of a n) limit a n m ts w hs ≡ on_tokens limit a n m ts w hs
  unfolding on_tokens_by on_tokens
  same-tokens [] w = refl
  same-tokens (h ∷ hs) w =
      same-tokens hs (on_token_by (child_of a n) limit a n m ts w h) ∙ ap (λ v. on_tokens limit a n m ts v hs) (same_token w h)

  pub same-walk : (hs : List ℕ) → walk_by (child_of a n) limit a n m ts hs ≡ walk_over limit a n m ts hs
  unfolding walk_by walk_over
  same-walk hs = ap (ended limit a n m ts) (same-tokens hs root)

  pub walk-holds : (ls : List (Line ℕ)) → Holds a n m ts ls → (hs : List ℕ) → All Narrow hs → peak eqb hs (ls ∷ []) ≤ limit
      → walk_over limit a n m ts hs ≡ found (walk eqb hs (ls ∷ [])) (peak eqb hs (ls ∷ []))
  walk-holds ls H hs smalls fits = sym (same-walk hs) ∙ walk-holds_by limit a n m ts ls H hs smalls fits
