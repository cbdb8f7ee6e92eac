-- After the third and the fourth pass each node's words say the targets of the lines that end there, and the targets take as many places as there are lines.
use Prim.Native.Nat.{ℕ, zero, suc, ◌+◌, ◌*◌, ◌<◌, ◌≤◌, ◌-◌}
use native.Mathlib.Omega.{arith}
use native.Mathlib.Nat.{zero-add}
use mathlib.Core.Path.{◌≡◌, refl, sym, ap, ◌∙◌, subst}
use mathlib.Core.Bool.{Bool, true, false, beq}
use mathlib.Core.List.{List, [], ◌∷◌}
use lib.Dec.{eqb, ltb}
use lib.ListN.{length, get_or, drop, length-take, length-drop}
use lib.Seq.{get_or-take, get_or-drop, ext_get_or}
use borrow.Author.Tests.{eqb-true, eqb-false, ltb-true, ltb-false, lt-ltb, le-ltb}
use native.Mathlib.Decide.{dec_lt}
use Rattle.subject_rules.specs.Choice.{pick, and}
use Rattle.sublist_tree.specs.Lists.{All}
use Rattle.sublist_area_rules.specs.Words.{word}
use Rattle.sublist_walk_rules.specs.Walk.{part}
use Rattle.sublist_rules.specs.Passes.{End, end, start_word, count_word, laid, filling, filled}
use Rattle.sublist_rules.proofs.Laying.{before, before_suc, before_mono, length-laid, laid-at}
use Rattle.sublist_rules.proofs.Filling.{node_of, end_is_lem, hit, count_ends, pick_ends, Ranges, Result, filled_at, length-targets}
use Rattle.sublist_rules.specs.Passes.{node_words_in, target_words_in}

-- each end is counted once, at its node
hits : (e : End) (i : ℕ) → hit e i false + hit e i true ≡ pick (eqb (node_of e) i) 1 0
hits (end j tail) i = go (eqb j i) tail
  where
    go : (c t : Bool) → pick {A = ℕ} (and c (beq t false)) 1 0 + pick (and c (beq t true)) 1 0 ≡ pick c 1 0
    go true true = refl
    go true false = refl
    go false t = refl

-- the ends at the nodes below j
abbrev sum_ends : List End → ℕ → ℕ
sum_ends es zero = 0
sum_ends es (suc j) = sum_ends es j + count_ends j false es + count_ends j true es

sum_none : (j : ℕ) → sum_ends [] j ≡ 0
sum_none zero = refl
sum_none (suc j) = omega (arith, sum_none j)

below_next : (x j : ℕ) → pick {A = ℕ} (ltb x (suc j)) 1 0 ≡ pick (ltb x j) 1 0 + pick (eqb x j) 1 0
below_next x j = go (ltb x j) refl (eqb x j) refl
  where
    go : (b : Bool) → ltb x j ≡ b → (c : Bool) → eqb x j ≡ c → pick {A = ℕ} (ltb x (suc j)) 1 0 ≡ pick b 1 0 + pick c 1 0
    go true l true e = absurd (omega (arith, ltb-true x j l, eqb-true x j e))
    go true l false e = rw (lt-ltb x (suc j) (omega (arith, ltb-true x j l))) refl
    go false l true e = rw (lt-ltb x (suc j) (omega (arith, eqb-true x j e))) refl
    go false l false e = rw (le-ltb x (suc j) (above (ltb-false x j l) (eqb-false x j e))) refl
      where
        above : j ≤ x → (x ≡ j → ⊥) → suc j ≤ x
        above m d = omega arith

sum_more : (e : End) (es : List End) (j : ℕ) → sum_ends (e ∷ es) j ≡ pick (ltb (node_of e) j) 1 0 + sum_ends es j
sum_more e es zero = rw (le-ltb (node_of e) 0 (omega arith)) refl
sum_more e es (suc j) = omega (arith, sum_more e es j, hits e j, below_next (node_of e) j)

-- as many as there are ends
pub sum-ends : (es : List End) (n : ℕ) → All (λ e. node_of e < n) es → sum_ends es n ≡ length es
sum-ends [] n a = sum_none n
sum-ends (e ∷ es) n a = sum_more e es n ∙ rw (lt-ltb (node_of e) n a.0) (omega (arith, sum-ends es n a.1))

length_picked : (i : ℕ) (b : Bool) (es : List End) (xs : List ℕ) → length es ≡ length xs → length (pick_ends i b es xs) ≡ count_ends i b es
length_picked i b [] xs e = refl
length_picked i b (d ∷ es) [] e = absurd (omega arith)
length_picked i b (d ∷ es) (x ∷ xs) e = go (end_is_lem d i b) (length_picked i b es xs (omega arith))
  where
    go : (h : Bool) → length (pick_ends i b es xs) ≡ count_ends i b es → length (pick h (x ∷ pick_ends i b es xs) (pick_ends i b es xs)) ≡ pick h 1 0 + count_ends i b es
    go true q = omega arith
    go false q = omega arith

module _ (n : ℕ) (a ts : List ℕ) (es : List End) (xs : List ℕ) (len : length es ≡ length xs) (in_n : All (λ e. node_of e < n) es) (fits : n * 16 ≤ length a) (wide : length es ≤ length ts)
    (few : length es < 4294967296) (exact : (i : ℕ) → i < n → word a i 5 ≡ count_ends i false es) (tails : (i : ℕ) → i < n → word a i 7 ≡ count_ends i true es) where
  -- where node i's exact and `>` targets start, and how many they are
  abbrev start : ℕ → Bool → ℕ
  start i true = before a i + word a i 5
  start i false = before a i

  abbrev size : ℕ → Bool → ℕ
  size i true = word a i 7
  size i false = word a i 5

  before-sum : (j : ℕ) → j ≤ n → before a j ≡ sum_ends es j
  unfolding before
  before-sum zero l = refl
  before-sum (suc j) l = omega (arith, before-sum j (omega arith), exact j (omega arith), tails j (omega arith))

  total : before a n ≡ length es
  total = before-sum n (omega arith) ∙ sum-ends es n in_n

  size_count : (i : ℕ) (b : Bool) → i < n → size i b ≡ count_ends i b es
  size_count i true l = tails i l
  size_count i false l = exact i l

  -- a node's ranges end before the next node's start
  next_starts : (i : ℕ) (b : Bool) → start i b + size i b ≤ before a (suc i)
  next_starts i true = omega (arith, before_suc a i)
  next_starts i false = omega (arith, before_suc a i)

  starts : (i : ℕ) (b : Bool) → before a i ≤ start i b
  starts i true = omega arith
  starts i false = omega arith

  later : (i j : ℕ) → i < j → before a (suc i) ≤ before a j
  later i j l = subst (λ x. before a (suc i) ≤ before a x) (omega arith) (before_mono a (suc i) (j - suc i))

  in_total : (i : ℕ) (b : Bool) → i < n → start i b + size i b ≤ length es
  in_total i b l = omega (arith, next_starts i b, upto (suc i) (omega arith), total)
    where
      upto : (j : ℕ) → j ≤ n → before a j ≤ before a n
      upto j m = subst (λ x. before a j ≤ before a x) (omega arith) (before_mono a j (n - j))

  lie_apart : Ranges n start size
  lie_apart i j b c p li lj l1 h1 l2 h2 = nodes (dec_lt i j) (dec_lt j i)
    where
      kinds : (b c : Bool) (i : ℕ) → start i b ≤ p → p < start i b + size i b → start i c ≤ p → p < start i c + size i c → b ≡ c
      kinds true true i l1 h1 l2 h2 = refl
      kinds true false i l1 h1 l2 h2 = absurd (omega arith)
      kinds false true i l1 h1 l2 h2 = absurd (omega arith)
      kinds false false i l1 h1 l2 h2 = refl

      nodes : Dec (i < j) → Dec (j < i) → (i ≡ j) × (b ≡ c)
      nodes (yes l) d = absurd (omega (arith, next_starts i b, later i j l, starts j c))
      nodes (no f) (yes l) = absurd (omega (arith, next_starts j c, later j i l, starts i b))
      nodes (no f) (no g) =
          let e : i ≡ j = omega arith in
          (e, kinds b c j (subst (λ x. start x b ≤ p) e l1) (subst (λ x. p < start x b + size x b) e h1) l2 h2)

  laid_out : (i : ℕ) → i < n → (word (laid a 0 n 0) i 4 ≡ before a i) × (word (laid a 0 n 0) i 5 ≡ 0) × (word (laid a 0 n 0) i 6 ≡ before a i + word a i 5) × (word (laid a 0 n 0) i 7 ≡ 0)
  unfolding before
  laid_out i l = rw (← zero-add i) (laid-at n 0 i a a l (omega arith) (λ k h. (refl, refl)) (subst (λ x. before a x < 4294967296) (sym (zero-add n)) (omega (arith, total, few))))

  says-laid : (i : ℕ) (b : Bool) → i < n → (word (laid a 0 n 0) i (start_word b) ≡ start i b) × (word (laid a 0 n 0) i (count_word b) ≡ 0)
  says-laid i true l = ((laid_out i l).2, (laid_out i l).3)
  says-laid i false l = ((laid_out i l).0, (laid_out i l).1)

  -- the words of nodes and of targets after both passes
  abbrev pub final_nodes : List ℕ
  final_nodes = node_words_in (filled (filling (laid a 0 n 0) ts) es xs)

  abbrev pub final_targets : List ℕ
  final_targets = target_words_in (filled (filling (laid a 0 n 0) ts) es xs)

  few_each : (i : ℕ) (b : Bool) → i < n → size i b < 4294967296
  few_each i b l = omega (arith, in_total i b l, few)

  result : Result n start size lie_apart few_each (laid a 0 n 0) ts es xs (λ i b. 0)
  result =
      filled_at n start size lie_apart few_each es xs (laid a 0 n 0) ts (λ i b. 0) len in_n
      (omega (arith, length-laid a 0 n 0)) says-laid (λ i b l. omega (arith, size_count i b l)) (λ i b l. omega (arith, in_total i b l))

  -- each node's words say the targets of the lines that end there
  pub range-fits : (i : ℕ) (b : Bool) → i < n → word final_nodes i (start_word b) + word final_nodes i (count_word b) ≤ length es
  range-fits i b l = omega (arith, (result.0 i b l).0, (result.0 i b l).1, in_total i b l, size_count i b l)

  pub range-says : (i : ℕ) (b : Bool) → i < n → part final_targets (word final_nodes i (start_word b)) (word final_nodes i (count_word b)) ≡ pick_ends i b es xs
  range-says i b l =
      ext_get_or 0 (part final_targets (word final_nodes i (start_word b)) (word final_nodes i (count_word b))) (pick_ends i b es xs) (long ∙ sym (length_picked i b es xs len))
      (λ k h. get_or-take (word final_nodes i (count_word b)) (drop (word final_nodes i (start_word b)) final_targets) k 0 (omega (arith, long, (result.0 i b l).1))
      ∙ get_or-drop (word final_nodes i (start_word b)) final_targets k 0
      ∙ ap (λ p. get_or final_targets p 0) (omega (arith, (result.0 i b l).0))
      ∙ result.1 i b k l (omega (arith, long)))
    where
      long : length (part final_targets (word final_nodes i (start_word b)) (word final_nodes i (count_word b))) ≡ count_ends i b es
      long =
          length-take (word final_nodes i (count_word b)) (drop (word final_nodes i (start_word b)) final_targets)
          ∙ omega (arith, length-drop (word final_nodes i (start_word b)) final_targets, length-targets es xs (laid a 0 n 0) ts, range-fits i b l, wide, (result.0 i b l).1)

  -- the places behind are left
  pub targets-left : (p : ℕ) → length es ≤ p → get_or final_targets p 0 ≡ get_or ts p 0
  targets-left p h = result.2 p (λ i b l lo hi. omega (arith, in_total i b l, size_count i b l))
