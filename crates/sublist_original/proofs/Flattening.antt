-- The original's flattening: each final node has its scratch node's literals sorted, its star child, and ranges that give its targets.
use Prim.Native.Nat.{ℕ, zero, suc, ◌+◌, ◌-◌, ◌≤◌, ◌<◌}
use native.Mathlib.Omega.{arith}
use native.Mathlib.Decide.{ℕ_discrete}
use mathlib.Core.Path.{◌≡◌, refl, ◌∙◌, ap}
use mathlib.Core.List.{List, [], ◌∷◌, ◌++◌}
use mathlib.Core.Option.{none}
use lib.ListN.{length, get_or, take, drop, length-append, length-drop, drop_of_length-le, get_or-append}
use lib.Seq.{take-length, drop-append_seam, drop-append-le, take-append-le, drop-cons, get_or_at}
use Rattle.sublist_original.specs.Original.{Ok, Std, push, NodeScratch, new_scratch, Arena, Node, push_range, each_scratch}
use Rattle.sublist_original.proofs.Indexing.{index_in, push-length, u32_in}
use Rattle.sublist_original.proofs.Arenas.{weight}

-- a range of a table of targets gives these
abbrev pub Range : List ℕ → ℕ × ℕ → List ℕ → Type 0
Range ts r xs = (r.0 ≤ r.1) × (r.1 ≤ length ts) × (take (r.1 - r.0) (drop r.0 ts) ≡ xs)

range-new : (ts xs : List ℕ) → Range (ts ++ xs) (length ts, length (ts ++ xs)) xs
range-new ts xs =
    let l = length-append ts xs in
    (omega arith, omega arith, rw (drop-append_seam ts xs) (ap (λ n. take n xs) (less (length ts) (length xs) (length (ts ++ xs)) l) ∙ take-length xs))
  where
    less : (m n k : ℕ) → k ≡ m + n → k - m ≡ n
    less m n k e = omega arith

range_more : (ts ys : List ℕ) (r : ℕ × ℕ) (xs : List ℕ) → Range ts r xs → Range (ts ++ ys) r xs
range_more ts ys r xs a =
    let l = a.0 in
    let m = a.1 in (
      l,
      omega (arith, length-append ts ys),
      rw (drop-append-le r.0 ts ys (omega arith), take-append-le (r.1 - r.0) (drop r.0 ts) ys (omega (arith, length-drop r.0 ts))) a.2,
    )

-- ---- how many targets

weight_suc : (i : ℕ) (ls : List (List ℕ)) → i < length ls → weight (take (suc i) ls) ≡ weight (take i ls) + length (get_or ls i [])
weight_suc i [] h = absurd (omega arith)
weight_suc zero (l ∷ ls) h = omega arith
weight_suc (suc i) (l ∷ ls) h = omega (arith, weight_suc i ls (omega arith))

weight_part : (i : ℕ) (ls : List (List ℕ)) → weight (take i ls) ≤ weight ls
weight_part zero ls = omega arith
weight_part (suc i) [] = omega arith
weight_part (suc i) (l ∷ ls) = omega (arith, weight_part i ls)

push_in : (ts xs : List ℕ) → length (ts ++ xs) < 4294967296 → push_range ts xs ≡ Ok ((length ts, length (ts ++ xs)), ts ++ xs)
unfolding push_range
push_in ts xs h = rw (u32_in (length ts) (omega (arith, length-append ts xs)), u32_in (length (ts ++ xs)) h)

-- ---- the nodes

-- what the final nodes have past their end
abbrev pub no_node : Node
no_node = record { literals = []; star_child = none; terminal = (0, 0); gt_terminal = (0, 0) }

-- a final node of a scratch node, with the targets that end there
pub record Laid (std : Std) (ts : List ℕ) (scratch : NodeScratch) (exact tail : List ℕ) (node : Node) : Type 0 where
  pub sorted : node.literals ≡ std.sort_unstable_by_key scratch.literals
  pub star : node.star_child ≡ scratch.star_child
  pub exacts : Range ts node.terminal exact
  pub tails : Range ts node.gt_terminal tail

-- the first i nodes are done
pub record Flat (std : Std) (a : Arena ℕ) (i : ℕ) (ts : List ℕ) (ns : List Node) : Type 0 where
  pub many : length ns ≡ i
  pub sum : length ts ≡ weight (take i a.terminals) + weight (take i a.gt_terminals)
  pub each : (j : ℕ) → j < i → Laid std ts (get_or a.nodes j new_scratch) (get_or a.terminals j []) (get_or a.gt_terminals j []) (get_or ns j no_node)

module _ (std : Std) (a : Arena ℕ) (n : ℕ) (many : length a.nodes ≡ n) (exacts : length a.terminals ≡ n) (tails : length a.gt_terminals ≡ n)
    (total : weight a.terminals + weight a.gt_terminals < 4294967296) where
  laid_more : (ts ys : List ℕ) (scratch : NodeScratch) (exact tail : List ℕ) (node : Node) → Laid std ts scratch exact tail node → Laid std (ts ++ ys) scratch exact tail node
  laid_more ts ys scratch exact tail node l = record {
    sorted = l.sorted;
    star = l.star;
    exacts = range_more ts ys node.terminal exact l.exacts;
    tails = range_more ts ys node.gt_terminal tail l.tails;
  }

  -- one node
  module _ (i : ℕ) (h : i < n) (ts : List ℕ) (ns : List Node) (f : Flat std a i ts ns) where
    abbrev exact : List ℕ
    exact = get_or a.terminals i []

    abbrev tail : List ℕ
    tail = get_or a.gt_terminals i []

    abbrev after : List ℕ
    after = (ts ++ exact) ++ tail

    abbrev node : Node
    node = record {
      literals = std.sort_unstable_by_key (get_or a.nodes i new_scratch).literals;
      star_child = (get_or a.nodes i new_scratch).star_child;
      terminal = (length ts, length (ts ++ exact));
      gt_terminal = (length (ts ++ exact), length after);
    }

    sum-after : length after ≡ weight (take (suc i) a.terminals) + weight (take (suc i) a.gt_terminals)
    sum-after =
        omega (
          arith,
          length-append (ts ++ exact) tail,
          length-append ts exact,
          f.sum,
          weight_suc i a.terminals (omega arith),
          weight_suc i a.gt_terminals (omega arith),
        )

    fits : length after < 4294967296
    fits = omega (arith, sum-after, weight_part (suc i) a.terminals, weight_part (suc i) a.gt_terminals)

    one : (rest : List NodeScratch) → each_scratch std a i (get_or a.nodes i new_scratch ∷ rest) ts ns ≡ each_scratch std a (suc i) rest after (push ns node)
    unfolding each_scratch
    one rest =
        rw (
          index_in a.terminals i [] (omega arith),
          push_in ts exact (omega (arith, fits, length-append (ts ++ exact) tail)),
          index_in a.gt_terminals i [] (omega arith),
          push_in (ts ++ exact) tail fits,
        )

    laid_node : Laid std after (get_or a.nodes i new_scratch) exact tail node
    laid_node = record { sorted = refl; star = refl; exacts = range_more (ts ++ exact) tail (length ts, length (ts ++ exact)) exact (range-new ts exact); tails = range-new (ts ++ exact) tail }

    flat_more : Flat std a (suc i) after (push ns node)
    flat_more = record { many = push-length ns node ∙ ap suc f.many; sum = sum-after; each = λ j l. go j l (ℕ_discrete j i) }
      where
        go : (j : ℕ) → j < suc i → Dec (j ≡ i)
            → Laid std after (get_or a.nodes j new_scratch) (get_or a.terminals j []) (get_or a.gt_terminals j []) (get_or (push ns node) j no_node)
        go j l (yes e) = rw (e, get_or_at ns node [] no_node i f.many) laid_node
        go j l (no ne) =
            let m = f.many in
            rw (get_or-append ns (node ∷ []) no_node j (omega arith))
            (laid_more (ts ++ exact) tail _ _ _ _ (laid_more ts exact _ _ _ _ (f.each j (omega arith))))

  -- all nodes
  flat-end : (i : ℕ) (ts : List ℕ) (ns : List Node) → length a.nodes ≤ i → each_scratch std a i (drop i a.nodes) ts ns ≡ Ok (ts, ns)
  unfolding each_scratch
  flat-end i ts ns h = rw (drop_of_length-le a.nodes {i = i} h)

  flat_all : (left i : ℕ) (ts : List ℕ) (ns : List Node) → i + left ≡ n → Flat std a i ts ns
      → (out : List ℕ × List Node) × (each_scratch std a i (drop i a.nodes) ts ns ≡ Ok out) × Flat std a n out.0 out.1
  flat_all zero i ts ns e f = let all : i ≡ n = omega arith in ((ts, ns), flat-end i ts ns (omega arith), rw (← all) f)
  flat_all (suc left) i ts ns e f =
      let h : i < n = omega arith in
      let w = flat_all left (suc i) (after i h ts ns f) (push ns (node i h ts ns f)) (omega arith) (flat_more i h ts ns f) in
      (w.0, rw (drop-cons a.nodes i new_scratch (omega arith)) (one i h ts ns f (drop (suc i) a.nodes) ∙ w.1), w.2)

  pub flattened : (out : List ℕ × List Node) × (each_scratch std a 0 a.nodes [] [] ≡ Ok out) × Flat std a n out.0 out.1
  flattened = flat_all n 0 [] [] (omega arith) (record { many = refl; sum = refl; each = λ j l. absurd (omega arith) })
