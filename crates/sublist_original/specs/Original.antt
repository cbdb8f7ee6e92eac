-- The original, IronBus's sublist.rs without the snapshot, over values, to be read beside it. `sublist.rs N-M` names
-- the lines that a definition stands for; the order of tests is theirs.
-- Names are the Rust's, with `-` for `_`. A `&str` or a `String` is the list of its UTF-8 bytes; a `Vec` or a slice is
-- a list; a `usize`, a `u64` and a `u32` are numbers.
-- What a loop changes, and what its iterators have left, are arguments of the function that stands for the loop. What
-- is lent as `&mut` is an argument, and comes back changed.
-- `Panic` is where the Rust stops: an index outside its list, an `expect` on a number that does not fit a `u32`, a
-- `debug_assert!` that fails.
-- The parser is that of subject.rs, transcribed in the crate `subject`. FNV-1a stands in for `xxh3_64`. Nothing else of
-- ours is cited.
use Rattle.std.specs.Prelude.{ℕ, zero, suc, ◌+◌, ◌-◌, ◌≤◌, max, ◌≡◌, Bool, true, false, not, ◌&&◌}
use Rattle.std.specs.Prelude.{List, [], ◌∷◌, ◌++◌, eqb, ltb, leb, length, take, drop, replicate}
use Rattle.std.proofs.Math.Option.{Option, none, some}
use Rattle.subject_rules.specs.Original as subject
use Rattle.subject_rules.specs.Original.{when◌then◌else◌, Str, equal, Error, WILDCARD_ONE, WILDCARD_TAIL, validate, tokens}
use Rattle.subject_rules.specs.Fnv.{fnv}

infixl 3 ◌>>=◌
infixl 9 ◌!◌
-- sublist.rs 80-83
abbrev pub NodeId : Type 0
NodeId = ℕ

abbrev pub ROOT : NodeId
ROOT = 0

-- sublist.rs 117
abbrev pub MAX_FORK_FRONTIER : ℕ
MAX_FORK_FRONTIER = 1024

-- RESULTS

-- sublist.rs 126-145
pub data SublistError : Type 0 where
  InvalidPattern : Error → SublistError
  ForkLimitExceeded : (worst_case limit : ℕ) → SublistError

-- a `Result<A, SublistError>`, or a panic; a function that returns a plain A returns `Ok` of it
pub data Outcome (A : Type 0) : Type 0 where
  Ok : A → Outcome A
  Err : SublistError → Outcome A
  Panic : Outcome A

-- what comes next: an error is returned at once, as `?` does, and a panic stops everything
abbrev pub ◌>>=◌ : {A B : Type 0} → Outcome A → (A → Outcome B) → Outcome B
Ok a >>= on = on a
Err e >>= on = Err e
Panic >>= on = Panic

-- sublist.rs 170-174: `?` on what the parser says
abbrev pub parsed : subject.Result ℕ → Outcome ℕ
parsed (subject.Ok depth) = Ok depth
parsed (subject.Err e) = Err (InvalidPattern e)

-- `u32::try_from(n).expect(..)`
abbrev pub u32_from : ℕ → Outcome ℕ
u32_from n = when ltb n 0x100000000 then Ok n else Panic

-- `assert!`
abbrev pub assert : Bool → Outcome Unit
assert true = Ok tt
assert false = Panic

-- Vec

abbrev pub push : {A : Type 0} → List A → A → List A
push xs x = xs ++ (x ∷ [])

-- `xs[i]`
abbrev pub ◌!◌ : {A : Type 0} → List A → ℕ → Outcome A
[] ! i = Panic
(x ∷ xs) ! zero = Ok x
(x ∷ xs) ! suc i = xs ! i

-- `xs[i]` changed in place
abbrev pub change : {A : Type 0} → List A → ℕ → (A → A) → Outcome (List A)
change [] i f = Panic
change (x ∷ xs) zero f = Ok (f x ∷ xs)
change (x ∷ xs) (suc i) f = do
  rest ← change xs i f
  Ok (x ∷ rest)

-- `&xs[start..end]`
abbrev pub slice : {A : Type 0} → List A → ℕ → ℕ → Outcome (List A)
slice xs start end = when leb start end && leb end (length xs) then Ok (take (end - start) (drop start xs)) else Panic

-- `contains`
abbrev pub contains : List NodeId → NodeId → Bool
contains [] id = false
contains (x ∷ xs) id = when eqb x id then true else contains xs id

-- THE STANDARD LIBRARY

-- `(u64, NodeId)`: a token's hash and the child that it leads to
abbrev pub Literal : Type 0
Literal = ℕ × NodeId

abbrev pub Each : (Literal → Type 0) → List Literal → Type 0
Each P [] = Unit {0}
Each P (x ∷ xs) = P x × Each P xs

-- ascending by hash
abbrev pub Ascending : List Literal → Type 0
Ascending [] = Unit {0}
Ascending (x ∷ xs) = Each (λ y. x.0 ≤ y.0) xs × Ascending xs

-- the same elements, each as often, in any order
pub data Reordered : List Literal → List Literal → Type 0 where
  empty : Reordered [] []
  first : {x : Literal} {xs ys : List Literal} → Reordered xs ys → Reordered (x ∷ xs) (x ∷ ys)
  swap : {x y : Literal} {xs : List Literal} → Reordered (x ∷ (y ∷ xs)) (y ∷ (x ∷ xs))
  in_turn : {xs ys zs : List Literal} → Reordered xs ys → Reordered ys zs → Reordered xs zs

-- The two functions of Rust's library whose results its documentation leaves open, with the hash for a key. The
-- theorems hold for every choice within its words:
-- `sort_unstable_by_key`: "Sorts the slice in ascending order with a key extraction function, without preserving the
-- initial order of equal elements."
-- `binary_search_by_key`: "If the slice is not sorted by the key, the returned result is unspecified and meaningless.
-- If the value is found then Result::Ok is returned, containing the
--   index of the matching element. If there are multiple matches, then any one of the matches could be returned. [..] If
-- the value is not found then Result::Err is returned [..]".
-- `.ok()` makes `Err` none. In a table that `build` gives there is one match at the most: no two literals of a node
-- have one hash (`keys-apart`).
pub record Std : Type 0 where
  pub sort_unstable_by_key : List Literal → List Literal
  pub ascending : (xs : List Literal) → Ascending (sort_unstable_by_key xs)
  pub reordered : (xs : List Literal) → Reordered xs (sort_unstable_by_key xs)
  pub binary_search_by_key : List Literal → ℕ → Option ℕ
  pub found :
      (xs : List Literal) (key i : ℕ) → Ascending xs → binary_search_by_key xs key ≡ some i
      → (x : Literal) × (xs ! i ≡ Ok x) × (x.0 ≡ key)
  pub missing :
      (xs : List Literal) (key : ℕ) → Ascending xs → binary_search_by_key xs key ≡ none
      → Each (λ x. x.0 ≡ key → ⊥) xs

-- THE LIST OF ENTRIES

-- sublist.rs 221-224
pub record SublistBuilder (T : Type 0) : Type 0 where
  pub entries : List (Str × T)

-- sublist.rs 229-233
abbrev pub new : {T : Type 0} → SublistBuilder T
new = record { entries = [] }

-- sublist.rs 244-249: the builder then; one that is refused stays as it was
abbrev pub insert : {T : Type 0} → SublistBuilder T → Str → T → subject.Result (SublistBuilder T)
insert builder pattern target =
    subject.◌>>=◌ (validate pattern true)
    (λ depth. subject.Ok (record { entries = push builder.entries (pattern, target) }))

-- calls of `insert` one after the other, up to the first that is refused
abbrev pub insert_all : {T : Type 0} → SublistBuilder T → List (Str × T) → subject.Result (SublistBuilder T)
insert_all builder [] = subject.Ok builder
insert_all builder ((pattern, target) ∷ rest) = subject.◌>>=◌ (insert builder pattern target) (λ next. insert_all next rest)

-- THE NODES

-- sublist.rs 443-446
pub record NodeScratch : Type 0 where
  pub literals : List Literal
  pub star_child : Option NodeId

-- sublist.rs 449-454
abbrev pub new_scratch : NodeScratch
new_scratch = record { literals = []; star_child = none }

-- sublist.rs 458-463: `find`, by the first that has the hash
abbrev pub find : List Literal → ℕ → Option NodeId
find [] hash = none
find ((h, n) ∷ rest) hash = when eqb h hash then some n else find rest hash

abbrev pub scratch_literal_child : NodeScratch → ℕ → Option NodeId
scratch_literal_child node hash = find node.literals hash

-- sublist.rs 284-288: the three vectors of `build` that grow together
pub record Arena (T : Type 0) : Type 0 where
  pub nodes : List NodeScratch
  pub terminals : List (List T)
  pub gt_terminals : List (List T)

abbrev pub root_alone : {T : Type 0} → Arena T
root_alone = record { nodes = new_scratch ∷ []; terminals = [] ∷ []; gt_terminals = [] ∷ [] }

-- sublist.rs 505-515
unfoldable pub new_node : {T : Type 0} → Arena T → Outcome (NodeId × Arena T)
new_node arena = do
  id ← u32_from (length arena.nodes)
  Ok (
    id,
    record {
      nodes = push arena.nodes new_scratch;
      terminals = push arena.terminals [];
      gt_terminals = push arena.gt_terminals [];
    },
  )

-- a node with its lists of targets beside it, the node changed
abbrev pub change_node : {T : Type 0} → Arena T → NodeId → (NodeScratch → NodeScratch) → Outcome (Arena T)
change_node arena cur f = do
  nodes ← change arena.nodes cur f
  Ok (record { nodes = nodes; terminals = arena.terminals; gt_terminals = arena.gt_terminals })

abbrev pub push_literal : Literal → NodeScratch → NodeScratch
push_literal literal node = record { literals = push node.literals literal; star_child = node.star_child }

abbrev pub set_star : NodeId → NodeScratch → NodeScratch
set_star child node = record { literals = node.literals; star_child = some child }

-- `if let Some(child) = .. { return child; }`, and what stands behind it
abbrev pub return_some : {T : Type 0} → Option NodeId → Arena T → Outcome (NodeId × Arena T) → Outcome (NodeId × Arena T)
return_some (some child) arena behind = Ok (child, arena)
return_some none arena behind = behind

-- sublist.rs 468-481
unfoldable pub descend_literal : {T : Type 0} → Arena T → NodeId → ℕ → Outcome (NodeId × Arena T)
descend_literal arena cur hash = do
  node ← arena.nodes ! cur
  return_some (scratch_literal_child node hash) arena do
    made ← new_node arena
    arena' ← change_node made.1 cur (push_literal (hash, made.0))
    Ok (made.0, arena')

-- sublist.rs 484-496
unfoldable pub descend_star : {T : Type 0} → Arena T → NodeId → Outcome (NodeId × Arena T)
descend_star arena cur = do
  node ← arena.nodes ! cur
  return_some node.star_child arena do
    made ← new_node arena
    arena' ← change_node made.1 cur (set_star made.0)
    Ok (made.0, arena')

-- THE BUILD

-- sublist.rs 304 and 325: a target joins those of a node
abbrev pub push_target : {T : Type 0} → List (List T) → NodeId → T → Outcome (List (List T))
push_target lists cur target = change lists cur (λ list. push list target)

abbrev pub push_gt_terminal : {T : Type 0} → Arena T → NodeId → T → Outcome (Arena T)
push_gt_terminal arena cur target = do
  lists ← push_target arena.gt_terminals cur target
  Ok (record { nodes = arena.nodes; terminals = arena.terminals; gt_terminals = lists })

abbrev pub push_terminal : {T : Type 0} → Arena T → NodeId → T → Outcome (Arena T)
push_terminal arena cur target = do
  lists ← push_target arena.terminals cur target
  Ok (record { nodes = arena.nodes; terminals = lists; gt_terminals = arena.gt_terminals })

-- sublist.rs 299-322: the loop over the tokens; `cur`, `placed_gt` and the vectors then
unfoldable pub each_token : {T : Type 0} → T → NodeId → Arena T → List Str → Outcome (NodeId × Bool × Arena T)
each_token target cur arena [] = Ok (cur, false, arena)
each_token target cur arena (token ∷ rest) =
    when equal token (WILDCARD_TAIL ∷ []) then
    (do
      arena' ← push_gt_terminal arena cur target
      Ok (cur, true, arena'))
    else when equal token (WILDCARD_ONE ∷ []) then
    (do
      next ← descend_star arena cur
      each_token target next.0 next.1 rest)
    else do
      next ← descend_literal arena cur (fnv token)
      each_token target next.0 next.1 rest

-- sublist.rs 290-327: the loop over the entries. A pattern parsed is its text, as in subject.rs.
unfoldable pub each_entry : {T : Type 0} → Arena T → List (Str × T) → Outcome (Arena T)
each_entry arena [] = Ok arena
each_entry arena ((pattern, target) ∷ rest) = do
  depth ← parsed (validate pattern true)
  placed ← each_token target ROOT arena (tokens pattern)
  arena' ← when not placed.1 then push_terminal placed.2 placed.0 target else Ok placed.2
  each_entry arena' rest

-- sublist.rs 183-195
pub record Node : Type 0 where
  pub literals : List Literal
  pub star_child : Option NodeId
  pub terminal : ℕ × ℕ
  pub gt_terminal : ℕ × ℕ

-- sublist.rs 519-524: the range, and `targets` then. `src` is left empty, and is not read again.
unfoldable pub push_range : {T : Type 0} → List T → List T → Outcome ((ℕ × ℕ) × List T)
push_range targets src = do
  start ← u32_from (length targets)
  end ← u32_from (length (targets ++ src))
  Ok ((start, end), targets ++ src)

-- THE WORST CASE

-- sublist.rs 417-422: the largest number of a literal child, 0 if there is none
unfoldable pub best_literal : List ℕ → List Literal → Outcome ℕ
best_literal wcf [] = Ok 0
best_literal wcf ((h, child) ∷ rest) = do
  one ← wcf ! child
  best ← best_literal wcf rest
  Ok (max one best)

-- sublist.rs 424
unfoldable pub star_of : List ℕ → Option NodeId → Outcome ℕ
star_of wcf none = Ok 0
star_of wcf (some c) = wcf ! c

-- sublist.rs 430-434
unfoldable pub deeper : ℕ → ℕ → ℕ
deeper star best = when ltb 0 star && ltb 0 best then star + best else max star best

-- sublist.rs 412-436: the loop over the ids, from the last to 0; `wcf` then
unfoldable pub each_id : List Node → ℕ → List ℕ → Outcome (List ℕ)
each_id nodes zero wcf = Ok wcf
each_id nodes (suc id) wcf = do
  node ← nodes ! id
  best ← best_literal wcf node.literals
  star ← star_of wcf node.star_child
  wcf' ← change wcf id (λ _. max (deeper star best) 1)
  each_id nodes id wcf'

-- `first().copied().unwrap_or(..)`
abbrev pub first_or : ℕ → List ℕ → ℕ
first_or other [] = other
first_or other (x ∷ xs) = x

-- sublist.rs 410-439
unfoldable pub worst_case_frontier : List Node → Outcome ℕ
worst_case_frontier nodes = do
  wcf ← each_id nodes (length nodes) (replicate (length nodes) 0)
  Ok (first_or 1 wcf)

-- THE TABLE

-- sublist.rs 533-542
pub record Sublist (T : Type 0) : Type 0 where
  pub nodes : List Node
  pub targets : List T
  pub generation : ℕ

module _ (std : Std) where
  -- sublist.rs 332-343: the loop over the nodes; `targets` and `final_nodes` then
  unfoldable pub each_scratch : {T : Type 0} → Arena T → ℕ → List NodeScratch → List T → List Node → Outcome (List T × List Node)
  each_scratch arena i [] targets final_nodes = Ok (targets, final_nodes)
  each_scratch arena i (scratch ∷ rest) targets final_nodes = do
    exact ← arena.terminals ! i
    term ← push_range targets exact
    tail ← arena.gt_terminals ! i
    gt ← push_range term.1 tail
    let literals = std.sort_unstable_by_key scratch.literals in
        each_scratch arena (suc i) rest gt.1
        (push final_nodes
        (record { literals = literals; star_child = scratch.star_child; terminal = term.0; gt_terminal = gt.0 }))

  -- sublist.rs 281-362
  unfoldable pub build : {T : Type 0} → SublistBuilder T → ℕ → Outcome (Sublist T)
  build builder generation = do
    arena ← each_entry root_alone builder.entries
    flat ← each_scratch arena 0 arena.nodes [] []
    worst_case ← worst_case_frontier flat.1
    when ltb MAX_FORK_FRONTIER worst_case then Err (ForkLimitExceeded worst_case MAX_FORK_FRONTIER)
        else Ok (record { nodes = flat.1; targets = flat.0; generation = generation })

-- THE WALK

-- sublist.rs 553-555
abbrev pub node_count : {T : Type 0} → Sublist T → ℕ
node_count table = length table.nodes

-- sublist.rs 641-651. A release build has no `debug_assert!`, and goes on where it fails.
unfoldable pub push_unique_capped : List NodeId → NodeId → Outcome (List NodeId)
push_unique_capped frontier id = do
  _ ← assert (ltb (length frontier) MAX_FORK_FRONTIER)
  when not (contains frontier id) then Ok (push frontier id) else Ok frontier

-- `if let Some(child) = .. { push_unique_capped(&mut next, child); }`
unfoldable pub push_some : List NodeId → Option NodeId → Outcome (List NodeId)
push_some next none = Ok next
push_some next (some child) = push_unique_capped next child

-- sublist.rs 621-624
unfoldable pub collect_range : {T : Type 0} → Sublist T → ℕ × ℕ → List T → Outcome (List T)
collect_range table (start, end) out = do
  part ← slice table.targets start end
  Ok (out ++ part)

-- sublist.rs 614-616: the last loop; `out` then
unfoldable pub each_live : {T : Type 0} → Sublist T → List NodeId → List T → Outcome (List T)
each_live table [] out = Ok out
each_live table (nid ∷ rest) out = do
  node ← table.nodes ! nid
  out' ← collect_range table node.terminal out
  each_live table rest out'

-- sublist.rs 204: `.map(|i| self.literals[i].1)`
unfoldable pub child_at : List Literal → Option ℕ → Outcome (Option NodeId)
child_at literals none = Ok none
child_at literals (some i) = do
  literal ← literals ! i
  Ok (some literal.1)

module _ (std : Std) where
  -- sublist.rs 200-205
  unfoldable pub literal_child : Node → ℕ → Outcome (Option NodeId)
  literal_child node hash = child_at node.literals (std.binary_search_by_key node.literals hash)

  -- sublist.rs 592-603: the loop over the frontier; `out` and `next` then
  unfoldable pub each_nid : {T : Type 0} → Sublist T → ℕ → List NodeId → List T → List NodeId → Outcome (List T × List NodeId)
  each_nid table hash [] out next = Ok (out, next)
  each_nid table hash (nid ∷ rest) out next = do
    node ← table.nodes ! nid
    out' ← collect_range table node.gt_terminal out
    child ← literal_child node hash
    next' ← push_some next child
    next'' ← push_some next' node.star_child
    each_nid table hash rest out' next''

  -- sublist.rs 589-609: the loop over the subject's tokens, and what stands behind it; `out` then
  unfoldable pub each_level : {T : Type 0} → Sublist T → List Str → List T → List NodeId → Outcome (List T)
  each_level table [] out frontier = each_live table frontier out
  each_level table (token ∷ rest) out frontier = do
    level ← each_nid table (fnv token) frontier out []
    when eqb (length level.1) 0 then Ok level.0 else each_level table rest level.0 level.1

  -- sublist.rs 582-617, of the text of a parsed subject
  unfoldable pub match_into : {T : Type 0} → Sublist T → Str → List T → Outcome (List T)
  match_into table subject out = each_level table (tokens subject) [] (ROOT ∷ [])

  -- sublist.rs 561-565
  unfoldable pub match_subject : {T : Type 0} → Sublist T → Str → Outcome (List T)
  match_subject table subject = match_into table subject []
