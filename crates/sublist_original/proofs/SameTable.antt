-- The list, the table and the walk are the original's. For every sort and search that do what the documentation of Rust's library says (`std : Std`), every list `es` of at most
-- 2,048 entries of which the original's `insert` accepts each (`insert_all new (pairs es) ≡ subject.Ok builder`), and every generation:
--
--   build-refused    1024 < worst eqb 32 (root_of fnv es) → build std builder generation ≡ Err (ForkLimitExceeded (worst eqb 32 (root_of fnv es)) 1024)
--   build-accepted   worst eqb 32 (root_of fnv es) ≤ 1024 → (table : Sublist ℕ) × (build std builder generation ≡ Ok table)
--                    × (node_count table ≡ length (nodes eqb (root_of fnv es))) × (table.generation ≡ generation)
--   match_original   build std builder generation ≡ Ok table → match_into std table text out ≡ Ok (walk eqb (map fnv (tokens text)) (root_of fnv es ∷ []))
--   match_due        build std builder generation ≡ Ok table → match_into std table text out ≡ Ok (due eqb (map fnv (tokens text)) (root_of fnv es))
--   keys-apart       build std builder generation ≡ Ok table → i < node_count table → Distinct (keys (get_or table.nodes i no_node).literals)
--   nodes-few        length (nodes eqb (root_of fnv es)) ≤ 65537
--   sums_few         worst eqb 32 (left_of eqb (root_of fnv es) (built eqb (root_of fnv es)) i) ≤ 2048
--
-- `text` is any text, so any that `parse_literal` accepts. `Ok` and `Err` say too that nothing panics: every index is inside, every node's number and every range fits a u32,
-- and no `debug_assert!` fails. By `sums_few`, what the original adds up at a node is far from 2^64. Accepting.antt joins `insert` to our grammar.
use Prim.Native.Nat.{ℕ, ◌+◌, ◌≤◌, ◌<◌}
use native.Mathlib.Omega.{arith}
use native.Mathlib.Decide.{dec_lt}
use mathlib.Core.Path.{◌≡◌, refl, ◌∙◌, ap}
use mathlib.Core.List.{List, [], ◌∷◌, map}
use lib.Dec.{eqb, ltb}
use lib.ListN.{length, get_or, length-map}
use borrow.Author.Tests.{lt-ltb, le-ltb}
use Rattle.subject_rules.specs.Text.{tokens}
use Rattle.subject_rules.specs.Fnv.{fnv}
use Rattle.subject_rules.specs.Original as subject
use Rattle.subject_rules.specs.Original.{when◌then◌else◌}
use Rattle.sublist_tree.specs.Lists.{All}
use Rattle.sublist_tree.specs.Tree.{Line, walk, worst}
use Rattle.sublist_tree.specs.Nodes.{nodes}
use Rattle.sublist_tree.specs.Due.{due}
use Rattle.sublist_tree.specs.Table.{TableEntry, root_of, entry_line}
use Rattle.sublist_tree.proofs.Fork.{worst-length}
use Rattle.sublist_tree.proofs.Bytes.{eqb_sound, eqb_whole}
use Rattle.sublist_tree.proofs.Hash.{hash_due}
use Rattle.sublist_trie.proofs.Trie.{size, run, built}
use Rattle.sublist_trie.proofs.Ends.{ends_of, end_in}
use Rattle.sublist_trie.proofs.Children.{built_for}
use Rattle.sublist_tree.proofs.Members.{Distinct}
use Rattle.sublist_trie.proofs.Sizes.{size_nodes}
use Rattle.sublist_trie.proofs.Targets.{ends_stay}
use Rattle.sublist_trie.proofs.For.{left_of}
use Rattle.sublist_trie.proofs.Heads.{left-length}
use Rattle.sublist_original.specs.Original.{Ok, Err, ForkLimitExceeded, Std, SublistBuilder, new, insert_all, Arena, Node, Sublist, each_scratch, build, node_count, match_into}
use Rattle.sublist_original.specs.Entries.{pairs}
use Rattle.sublist_original.proofs.Library.{keys}
use Rattle.sublist_original.proofs.Arenas.{weight, Stands}
use Rattle.sublist_original.proofs.Entering.{Valid, lines_within, nodes-most, entered}
use Rattle.sublist_original.proofs.Accepting.{inserted}
use Rattle.sublist_original.proofs.Flattening.{no_node, Flat, flattened}
use Rattle.sublist_original.proofs.Tables.{Tabled, tabled}
use Rattle.sublist_original.proofs.WorstCases.{worst-found}
use Rattle.sublist_original.proofs.Walking.{match_found}

-- ---- the table

module _ (std : Std) (es : List TableEntry) (valid : All Valid es) (few : length es ≤ 2048) where
  abbrev ls : List (Line ℕ)
  ls = root_of fnv es

  -- the vectors behind the first loop, and behind the second
  abbrev arena : Arena ℕ
  arena = (entered es valid few).0

  stands : Stands arena (built eqb ls) (ends_of eqb ls)
  stands = (entered es valid few).2

  small : weight arena.terminals + weight arena.gt_terminals < 4294967296
  small =
      omega (
        arith,
        stands.total,
        ap length (ends_stay eqb eqb_sound eqb_whole ls),
        length-map ls (end_in eqb (built eqb ls)),
        length-map es (entry_line fnv),
      )

  flat : (out : List ℕ × List Node) × (each_scratch std arena 0 arena.nodes [] [] ≡ Ok out) × Flat std arena (size (built eqb ls)) out.0 out.1
  flat = flattened std arena (size (built eqb ls)) stands.held.many stands.exact.many stands.tail.many small

  abbrev table_of : ℕ → Sublist ℕ
  table_of generation = record { nodes = flat.0.1; targets = flat.0.0; generation = generation }

  holds : Tabled ls flat.0.1 flat.0.0
  holds = tabled std ls arena stands flat.0.0 flat.0.1 flat.2

  module _ (builder : SublistBuilder ℕ) (entries : builder.entries ≡ pairs es) (generation : ℕ) where
    build-is : build std builder generation
        ≡ (when ltb 1024 (worst eqb 32 ls) then Err (ForkLimitExceeded (worst eqb 32 ls) 1024) else Ok (table_of generation))
    unfolding build
    build-is = rw (entries, (entered es valid few).1, flat.1, worst-found 32 ls (lines_within es valid) flat.0.1 flat.0.0 holds)

-- ---- the theorems

module _ (std : Std) (es : List TableEntry) (few : length es ≤ 2048) (builder : SublistBuilder ℕ) (accepted : insert_all new (pairs es) ≡ subject.Ok builder) (generation : ℕ) where
  valid : All Valid es
  valid = (inserted new es builder accepted).0

  entries : builder.entries ≡ pairs es
  entries = (inserted new es builder accepted).1

  pub build-refused : 1024 < worst eqb 32 (root_of fnv es) → build std builder generation ≡ Err (ForkLimitExceeded (worst eqb 32 (root_of fnv es)) 1024)
  build-refused over = rw (build-is std es valid few builder entries generation, lt-ltb 1024 (worst eqb 32 (root_of fnv es)) over)

  made-is : worst eqb 32 (root_of fnv es) ≤ 1024 → build std builder generation ≡ Ok (table_of std es valid few generation)
  made-is under = rw (build-is std es valid few builder entries generation, le-ltb 1024 (worst eqb 32 (root_of fnv es)) under)

  pub build-accepted : worst eqb 32 (root_of fnv es) ≤ 1024
      → (table : Sublist ℕ) × (build std builder generation ≡ Ok table) × (node_count table ≡ length (nodes eqb (root_of fnv es))) × (table.generation ≡ generation)
  build-accepted under = (
    table_of std es valid few generation,
    made-is under,
    (holds std es valid few).many ∙ size_nodes eqb eqb_sound eqb_whole (root_of fnv es) (built eqb (root_of fnv es)) (built_for eqb eqb_sound eqb_whole (root_of fnv es)),
    refl,
  )

  -- what holds of that table holds of any that `build` gave
  given : (P : Sublist ℕ → Type 0) → (worst eqb 32 (root_of fnv es) ≤ 1024 → P (table_of std es valid few generation)) → (table : Sublist ℕ) → build std builder generation ≡ Ok table → P table
  given P f table made = go (dec_lt 1024 (worst eqb 32 (root_of fnv es)))
    where
      go : Dec (1024 < worst eqb 32 (root_of fnv es)) → P table
      go (yes over) = let never = build-refused over in absurd (cc)
      go (no under) = let e = made-is (omega arith) in let same : table_of std es valid few generation ≡ table = cc in rw (← same) (f (omega arith))

  -- no two literals of a node have one hash: a search has one match at the most
  pub keys-apart : (table : Sublist ℕ) → build std builder generation ≡ Ok table → (i : ℕ) → i < node_count table → Distinct (keys (get_or table.nodes i no_node).literals)
  keys-apart = given (λ table. (i : ℕ) → i < node_count table → Distinct (keys (get_or table.nodes i no_node).literals)) (λ under i l. (holds std es valid few).apart i (omega (arith, (holds std es valid few).many)))

  module _ (table : Sublist ℕ) (made : build std builder generation ≡ Ok table) (text out : List ℕ) where
    pub match_original : match_into std table text out ≡ Ok (walk eqb (map fnv (tokens text)) (root_of fnv es ∷ []))
    match_original =
        given (λ t. match_into std t text out ≡ Ok (walk eqb (map fnv (tokens text)) (root_of fnv es ∷ [])))
        (λ under. match_found std (root_of fnv es) (table_of std es valid few generation) (holds std es valid few) 32 (lines_within es valid) under text out) table made

    pub match_due : match_into std table text out ≡ Ok (due eqb (map fnv (tokens text)) (root_of fnv es))
    match_due = match_original ∙ ap Ok (hash_due (map fnv (tokens text)) es)

  -- the nodes' numbers are below 65,537
  pub nodes-few : length (nodes eqb (root_of fnv es)) ≤ 65537
  nodes-few = omega (arith, nodes-most es valid, size_nodes eqb eqb_sound eqb_whole (root_of fnv es) (built eqb (root_of fnv es)) (built_for eqb eqb_sound eqb_whole (root_of fnv es)))

  -- what the original adds up at a node
  pub sums_few : (i : ℕ) → worst eqb 32 (left_of eqb (root_of fnv es) (built eqb (root_of fnv es)) i) ≤ 2048
  sums_few i =
      omega (
        arith,
        worst-length eqb 32 (left_of eqb (root_of fnv es) (built eqb (root_of fnv es)) i),
        left-length eqb (run (built eqb (root_of fnv es)) i) (root_of fnv es),
        length-map es (entry_line fnv),
      )
