-- The original's three vectors hold a history of nodes and the ends of lines: one step down by a key, and one target more.
use Prim.Native.Nat.{ℕ, zero, suc, ◌+◌, ◌<◌}
use native.Mathlib.Omega.{arith}
use native.Mathlib.Decide.{ℕ_discrete}
use mathlib.Core.Path.{◌≡◌, refl, sym, ◌∙◌, ap}
use mathlib.Core.Bool.{Bool, true, false, beq}
use mathlib.Core.List.{List, [], ◌∷◌, ◌++◌, append-nil}
use lib.Dec.{eqb}
use lib.ListN.{length, get_or, set, length-set, length-append}
use lib.Seq.{get_or-set_same, get_or-set_other}
use borrow.Author.Tests.{eq-eqb, ne_eqb}
use Rattle.subject_rules.specs.Choice.{and}
use Rattle.sublist_tree.specs.Tree.{Key, star, lit}
use Rattle.sublist_tree.proofs.Sorting.{pick-push}
use Rattle.subject_rules.proofs.Booleans.{and_false}
use Rattle.std.specs.Cmp.{booleans_Decides}
use Rattle.sublist_trie.proofs.Trie.{Trie, root, grow, size, child}
use Rattle.sublist_trie.proofs.Ends.{LineEnd, line_end, targets_at}
use Rattle.sublist_original.specs.Original.{Outcome, Ok, NodeScratch, new_scratch, Arena, root_alone, push, push_literal, set_star, new_node, descend_literal, descend_star, push_terminal, push_gt_terminal}
use Rattle.sublist_original.proofs.Indexing.{index_in, change_in, push_default, push-length, u32_in}
use Rattle.sublist_original.proofs.Scratches.{optional_some, Nodes, find-child, grown, nodes_literal, nodes-star, nodes-root}

-- n lists of targets: list i has those of the ends at node i, with `>` or without
pub record Lists (ls : List (List ℕ)) (n : ℕ) (b : Bool) (es : List LineEnd) : Type 0 where
  pub many : length ls ≡ n
  pub says : (i : ℕ) → get_or ls i [] ≡ targets_at i b es

-- how many targets the lists have
abbrev pub weight : List (List ℕ) → ℕ
weight [] = 0
weight (l ∷ ls) = length l + weight ls

pub record Stands (a : Arena ℕ) (t : Trie ℕ) (es : List LineEnd) : Type 0 where
  pub held : Nodes a.nodes t
  pub exact : Lists a.terminals (size t) false es
  pub tail : Lists a.gt_terminals (size t) true es
  pub total : weight a.terminals + weight a.gt_terminals ≡ length es

-- ---- lists of targets

targets-append : (j : ℕ) (b : Bool) (es fs : List LineEnd) → targets_at j b (es ++ fs) ≡ targets_at j b es ++ targets_at j b fs
unfolding targets_at
targets-append j b [] fs = refl
targets-append j b (line_end i t x ∷ es) fs =
    rw (targets-append j b es fs) (sym (pick-push (λ l. l ++ targets_at j b fs) (and (eqb i j) (beq t b)) (x ∷ targets_at j b es) (targets_at j b es)))

targets_own : (j : ℕ) (b : Bool) (x : ℕ) → targets_at j b (line_end j b x ∷ []) ≡ x ∷ []
unfolding targets_at
targets_own j b x = rw (eq-eqb j j refl, (booleans_Decides b b).1 refl)

targets-elsewhere : (j : ℕ) (b : Bool) (i : ℕ) (c : Bool) (x : ℕ) → (i ≡ j → ⊥) → targets_at j b (line_end i c x ∷ []) ≡ []
unfolding targets_at
targets-elsewhere j b i c x ne = rw (ne_eqb i j ne)

targets_otherwise : (j : ℕ) (b : Bool) (i : ℕ) (c : Bool) (x : ℕ) → beq c b ≡ false → targets_at j b (line_end i c x ∷ []) ≡ []
unfolding targets_at
targets_otherwise j b i c x e = rw (e, and_false (eqb i j))

-- an empty list more
lists_push : (ls : List (List ℕ)) (n : ℕ) (b : Bool) (es : List LineEnd) → Lists ls n b es → Lists (push ls []) (suc n) b es
lists_push ls n b es r = record { many = push-length ls [] ∙ ap suc r.many; says = λ i. push_default ls [] i ∙ r.says i }

weight_push : (ls : List (List ℕ)) → weight (push ls []) ≡ weight ls
weight_push [] = refl
weight_push (l ∷ ls) = ap (λ n. length l + n) (weight_push ls)

-- a target more in list j
lists_add : (ls : List (List ℕ)) (n : ℕ) (b : Bool) (es : List LineEnd) (j x : ℕ) → Lists ls n b es → j < n
    → Lists (set ls j (push (get_or ls j []) x)) n b (es ++ (line_end j b x ∷ []))
lists_add ls n b es j x r h = record { many = length-set ls j (push (get_or ls j []) x) ∙ r.many; says = λ i. rw (targets-append i b es (line_end j b x ∷ [])) (go i (ℕ_discrete j i)) }
  where
    go : (i : ℕ) → Dec (j ≡ i) → get_or (set ls j (push (get_or ls j []) x)) i [] ≡ targets_at i b es ++ targets_at i b (line_end j b x ∷ [])
    go i (yes e) =
        let m = r.many in
        rw (← e, targets_own j b x, get_or-set_same ls j (push (get_or ls j []) x) [] (omega arith), r.says j)
    go i (no ne) = rw (targets-elsewhere i b j b x ne, append-nil (targets_at i b es)) (get_or-set_other ls j i (push (get_or ls j []) x) [] (λ e. ne (sym e)) ∙ r.says i)

lists_keep : (ls : List (List ℕ)) (n : ℕ) (b : Bool) (es : List LineEnd) (j : ℕ) (c : Bool) (x : ℕ) → Lists ls n b es → beq c b ≡ false
    → Lists ls n b (es ++ (line_end j c x ∷ []))
lists_keep ls n b es j c x r e = record {
  many = r.many;
  says = λ i. rw (targets-append i b es (line_end j c x ∷ []), targets_otherwise i b j c x e, append-nil (targets_at i b es)) (r.says i);
}

weight_add : (ls : List (List ℕ)) (j x : ℕ) → j < length ls → weight (set ls j (push (get_or ls j []) x)) ≡ suc (weight ls)
weight_add [] j x h = absurd (omega arith)
weight_add (l ∷ ls) zero x h = omega (arith, push-length l x)
weight_add (l ∷ ls) (suc j) x h = omega (arith, weight_add ls j x (omega arith))

-- ---- one step down

-- the vectors with a node more, and node p changed
abbrev pub stepped : Arena ℕ → ℕ → (NodeScratch → NodeScratch) → Arena ℕ
stepped a p f = record { nodes = grown a.nodes p f; terminals = push a.terminals []; gt_terminals = push a.gt_terminals [] }

-- the change of its parent that the new child n makes
abbrev pub joined : ℕ → Key ℕ → NodeScratch → NodeScratch
joined n star = set_star n
joined n (lit h) = push_literal (h, n)

-- the child of a node by a key, made where it is missing
abbrev pub descend : Arena ℕ → ℕ → Key ℕ → Outcome (ℕ × Arena ℕ)
descend a p star = descend_star a p
descend a p (lit h) = descend_literal a p h

module _ (a : Arena ℕ) (t : Trie ℕ) (es : List LineEnd) (s : Stands a t es) (p : ℕ) (inside : p < size t) where
  in_nodes : p < length a.nodes
  in_nodes = omega (arith, s.held.many)

  -- the child is there
  pub descend_there : (k : Key ℕ) → (child eqb t p k ≡ 0 → ⊥) → descend a p k ≡ Ok (child eqb t p k, a)
  unfolding descend_star descend_literal
  descend_there star ne = rw (index_in a.nodes p new_scratch in_nodes, s.held.stars p, optional_some (child eqb t p star) ne)
  descend_there (lit h) ne = rw (index_in a.nodes p new_scratch in_nodes, find-child a.nodes t s.held p h, optional_some (child eqb t p (lit h)) ne)

  module _ (room : size t < 4294967296) where
    new_in : new_node a ≡ Ok (size t, record { nodes = push a.nodes new_scratch; terminals = push a.terminals []; gt_terminals = push a.gt_terminals [] })
    unfolding new_node
    new_in = rw (s.held.many, u32_in (size t) room)

    wider : p < length (push a.nodes new_scratch)
    wider = omega (arith, in_nodes, push-length a.nodes new_scratch)

    -- it is made
    pub descend_new : (k : Key ℕ) → child eqb t p k ≡ 0 → descend a p k ≡ Ok (size t, stepped a p (joined (size t) k))
    unfolding descend_star descend_literal
    descend_new star z =
        rw (index_in a.nodes p new_scratch in_nodes, s.held.stars p, eq-eqb (child eqb t p star) 0 z, new_in, change_in (push a.nodes new_scratch) p (set_star (size t)) new_scratch wider)
    descend_new (lit h) z =
        rw (index_in a.nodes p new_scratch in_nodes, find-child a.nodes t s.held p h, eq-eqb (child eqb t p (lit h)) 0 z, new_in, change_in (push a.nodes new_scratch) p (push_literal (h, size t)) new_scratch wider)

  held_new : (k : Key ℕ) → child eqb t p k ≡ 0 → Nodes (grown a.nodes p (joined (size t) k)) (grow t p k)
  held_new star z = nodes-star a.nodes t s.held p inside z
  held_new (lit h) z = nodes_literal a.nodes t s.held p inside h z

  pub stands_new : (k : Key ℕ) → child eqb t p k ≡ 0 → Stands (stepped a p (joined (size t) k)) (grow t p k) es
  unfolding size
  stands_new k z = record {
    held = held_new k z;
    exact = lists_push a.terminals (size t) false es s.exact;
    tail = lists_push a.gt_terminals (size t) true es s.tail;
    total = omega (arith, s.total, weight_push a.terminals, weight_push a.gt_terminals);
  }

  -- ---- one target more

  pub exact_more : (x : ℕ) → (b : Arena ℕ) × (push_terminal a p x ≡ Ok b) × Stands b t (es ++ (line_end p false x ∷ []))
  exact_more x = (
    record { nodes = a.nodes; terminals = set a.terminals p (push (get_or a.terminals p []) x); gt_terminals = a.gt_terminals },
    rw (change_in a.terminals p (λ l. push l x) [] (omega (arith, s.exact.many))),
    record {
      held = s.held;
      exact = lists_add a.terminals (size t) false es p x s.exact inside;
      tail = lists_keep a.gt_terminals (size t) true es p false x s.tail refl;
      total = omega (arith, s.total, weight_add a.terminals p x (omega (arith, s.exact.many)), length-append es (line_end p false x ∷ []));
    },
  )

  pub tail_more : (x : ℕ) → (b : Arena ℕ) × (push_gt_terminal a p x ≡ Ok b) × Stands b t (es ++ (line_end p true x ∷ []))
  tail_more x = (
    record { nodes = a.nodes; terminals = a.terminals; gt_terminals = set a.gt_terminals p (push (get_or a.gt_terminals p []) x) },
    rw (change_in a.gt_terminals p (λ l. push l x) [] (omega (arith, s.tail.many))),
    record {
      held = s.held;
      exact = lists_keep a.terminals (size t) false es p true x s.exact refl;
      tail = lists_add a.gt_terminals (size t) true es p x s.tail inside;
      total = omega (arith, s.total, weight_add a.gt_terminals p x (omega (arith, s.tail.many)), length-append es (line_end p true x ∷ []));
    },
  )

-- the root alone
pub stands_root : Stands root_alone root []
unfolding size targets_at
stands_root = record {
  held = nodes-root;
  exact = record { many = refl; says = λ i. push_default [] [] i };
  tail = record { many = refl; says = λ i. push_default [] [] i };
  total = refl;
}
