-- The passes together: what the core of build answers and leaves is what the definitions say of the entries.
use Prim.Native.Nat.{ℕ, suc, ◌+◌, ◌-◌, ◌*◌, ◌/◌, ◌<◌, ◌≤◌, ◌^◌}
use native.Mathlib.Omega.{arith}
use mathlib.Core.Path.{◌≡◌, refl, sym, ap, ◌∙◌}
use mathlib.Core.Bool.{Bool, true, false}
use mathlib.Core.Logic.{⊎_elim}
use mathlib.Core.List.{List, [], ◌∷◌, map}
use mathlib.Core.Option.{Option, none, some}
use lib.Dec.{eqb, ltb}
use lib.ListN.{length, length-map}
use borrow.Author.Tests.{le-ltb, ltb-true, ltb-false}
use Rattle.subject_rules.specs.Choice.{pick}
use Rattle.subject_rules.specs.Text.{tokens, is_tail}
use Rattle.subject_rules.specs.Fnv.{fnv}
use Rattle.subject_rules.specs.Answers.{Answer, answer, unless}
use Rattle.sublist_tree.specs.Lists.{All}
use Rattle.sublist_tree.specs.Tree.{Key, Line, line, onto, line_of, target_of}
use Rattle.sublist_tree.specs.Table.{Accepted}
use Rattle.sublist_tree.proofs.Fork.{Within, worst-length}
use Rattle.sublist_tree.proofs.Route.{root-within}
use Rattle.sublist_tree.proofs.Bytes.{eqb_sound, eqb_whole}
use Rattle.sublist_trie.proofs.Trie.{Trie, root, grow, size, child, ins_t, built_from, built}
use Rattle.sublist_trie.proofs.Ends.{ends_of}
use Rattle.sublist_trie.proofs.Children.{built_for}
use Rattle.sublist_trie.proofs.Runs.{size_pos}
use Rattle.sublist_trie.proofs.Sizes.{size_nodes}
use Rattle.sublist_area_rules.specs.Words.{token_key}
use Rattle.sublist_area_rules.specs.Growing.{planted}
use Rattle.sublist_area_rules.proofs.Stores.{length-planted}
use Rattle.sublist_entries.specs.declared.Entry.{Entry}
use Rattle.sublist_entries.specs.Entries.{text_of, target_word, read_from, lines_of}
use Rattle.sublist_rules.specs.Building.{bad_entries, needed, worst_of, over_limit, build_says}
use Rattle.sublist_rules.specs.Passes.{End, growth, stopped, lines_in, settled, filling, last_passes}
use Rattle.sublist_rules.specs.Leaving.{finished, started, build_leaves, build_into}
use Rattle.sublist_rules.specs.Core.{root_worst, all_in, answer_by, left_by, if_refused, built_by, leaves_by, core_into}
use Rattle.sublist_rules.proofs.AcceptedEntries.{Sound, sound-entries}
use Rattle.sublist_rules.proofs.Entering.{to_end, Entered, AllIn, Outcome, enters}
use Rattle.sublist_rules.proofs.Standing.{target_end, all_targets, entered_root, worst-found}

-- what a build says of entries of which none is refused: whether there are too few nodes, too few targets, too many paths
abbrev pub says_of : List Entry → List ℕ → ℕ → Bool → Bool → Bool → Answer
says_of es store generation nodes targets paths =
    pick nodes (answer 14 (needed store es ∷ []))
    (pick targets (answer 15 [])
    (pick paths (answer 16 (worst_of store es ∷ 1024 ∷ []))
    (answer 0 (needed store es ∷ worst_of store es ∷ generation ∷ []))))

-- sound entries are accepted patterns
accepted_all : (store : List ℕ) (es : List Entry) → All (Sound store) es → All Accepted (read_from store es)
accepted_all store [] a = tt
accepted_all store (e ∷ es) a = (a.0.1, accepted_all store es a.1)

-- a run adds at most a node a key
pub ins_most : (ks : List (Key ℕ)) (t : Trie ℕ) (i : ℕ) → size (ins_t eqb t i ks).0 ≤ size t + length ks
unfolding ins_t size
ins_most [] t i = omega arith
ins_most (k ∷ ks) t i = go (eqb (child eqb t i k) 0) (ins_most ks (grow t i k) (size t)) (ins_most ks t (child eqb t i k))
  where
    go : (b : Bool) → size (ins_t eqb (grow t i k) (size t) ks).0 ≤ size (grow t i k) + length ks → size (ins_t eqb t (child eqb t i k) ks).0 ≤ size t + length ks
        → size (pick {A = Trie ℕ × ℕ} b (ins_t eqb (grow t i k) (size t) ks) (ins_t eqb t (child eqb t i k) ks)).0 ≤ size t + suc (length ks)
    go true p q = omega arith
    go false p q = omega arith

pub from_most : (ls : List (Line ℕ)) (t : Trie ℕ) → Within 32 ls → size (built_from eqb t ls) ≤ size t + 32 * length ls
unfolding built_from
from_most [] t w = omega arith
from_most (line ks tail x ∷ ls) t w = omega (arith, ins_most ks t 0, from_most ls (ins_t eqb t 0 ks).0 w.1, w.0)

pub onto-target : (k : Key ℕ) (l : Line ℕ) → target_of (onto k l) ≡ target_of l
onto-target k (line ks tail x) = refl

line-target : (ts : List (List ℕ)) (x : ℕ) → target_of (line_of fnv ts x) ≡ x
line-target [] x = refl
line-target (t ∷ ts) x = go (is_tail t) (line-target ts x)
  where
    go : (b : Bool) → target_of (line_of fnv ts x) ≡ x → target_of (pick b (line [] true x) (onto (token_key t) (line_of fnv ts x))) ≡ x
    go true ih = refl
    go false ih = onto-target (token_key t) (line_of fnv ts x) ∙ ih

lines_targets : (store : List ℕ) (es : List Entry) → map target_of (lines_of store es) ≡ map target_word es
lines_targets store [] = refl
lines_targets store (e ∷ es) = (λ i. line-target (tokens (text_of store e)) (target_word e) i ∷ lines_targets store es i)

pub lines_length : (store : List ℕ) (es : List Entry) → length (lines_of store es) ≡ length es
lines_length store [] = refl
lines_length store (e ∷ es) = ap suc (lines_length store es)

-- entries of which none is refused, at most 2,048
module _ (es : List Entry) (store : List ℕ) (few : length es ≤ 2048) (sound : bad_entries store 0 es ≡ none) where
  abbrev ls : List (Line ℕ)
  ls = lines_of store es

  abbrev T : Trie ℕ
  T = built eqb ls

  pub all_accepted : All Accepted (read_from store es)
  all_accepted = accepted_all store es (sound-entries store 0 es sound)

  pub lines_within : Within 32 ls
  lines_within = root-within fnv (read_from store es) all_accepted

  -- the tree has as many nodes as are needed
  pub needs : size T ≡ needed store es
  unfolding needed
  needs = size_nodes eqb eqb_sound eqb_whole ls (built eqb ls) (built_for eqb eqb_sound eqb_whole ls)

  small : size T < 2 ^ 32
  unfolding built size
  small = omega (arith, from_most ls root lines_within, lines_length store es)

  abbrev E : List End
  E = map to_end (ends_of eqb ls)

  pub ends-length : length E ≡ length es
  ends-length = length-map (ends_of eqb ls) to_end ∙ sym (length-map (ends_of eqb ls) target_end) ∙ ap length (all_targets ls ∙ lines_targets store es) ∙ length-map es target_word

  pub end-targets : map target_end (ends_of eqb ls) ≡ map target_word es
  end-targets = all_targets ls ∙ lines_targets store es

  -- the first pass on an area
  first_pass : (a : List ℕ) → 16 ≤ length a → Outcome (planted a) root [] ls (lines_in (growth 1 (planted a) []) ls)
  unfolding size
  first_pass a l = enters ls (planted a) root [] (entered_root a l) (omega arith) (omega (arith, lines_length store es))

  -- the worst case that the second pass finds
  second_pass : (b : List ℕ) → Entered b T E → root_worst (settled b (size T - 1)) ≡ worst_of store es
  unfolding worst_of
  second_pass b ok = omega (arith, worst-found ls b ok 32 lines_within (omega (arith, lines_length store es)), worst-length eqb 32 ls, lines_length store es)

  -- there is room for the tree
  module _ (a : List ℕ) (room : needed store es ≤ length a / 16) where
    pub long : 16 ≤ length a
    long = omega (arith, size_pos T, needs)

    -- what the first pass leaves
    pub entered : AllIn (planted a) T E (lines_in (growth 1 (planted a) []) ls)
    unfolding built ends_of
    entered = ⊎_elim (λ w. w.1) (λ w. absurd (w.0 (omega (arith, needs, length-planted a), small))) (first_pass a long)

    pub all_in_lem : all_in es store a ≡ growth (size T) entered.0 E
    all_in_lem = rw (le-ltb (length a) 16 long) entered.1

    pub root-worst : root_worst (settled entered.0 (size T - 1)) ≡ worst_of store es
    root-worst = second_pass entered.0 entered.2

  -- there is none
  pub no_room : (a : List ℕ) → length a / 16 < needed store es → (b : List ℕ) × (all_in es store a ≡ stopped b)
  unfolding built
  no_room a short = go (ltb (length a) 16) refl
    where
      go : (c : Bool) → ltb (length a) 16 ≡ c → (b : List ℕ) × (pick c (stopped a) (lines_in (growth 1 (planted a) []) ls) ≡ stopped b)
      go true e = (a, refl)
      go false e = ⊎_elim (λ w. absurd (omega (arith, w.0.0, needs, length-planted a))) (λ w. (w.1.0, w.1.1)) (first_pass a (ltb-false (length a) 16 e))

  -- the answer
  says-sound : (a : List ℕ) (places generation : ℕ) → answer_by es (needed store es) places generation (all_in es store a)
      ≡ says_of es store generation (ltb (length a / 16) (needed store es)) (ltb places (length es)) (over_limit (worst_of store es))
  says-sound a places generation = go (ltb (length a / 16) (needed store es)) refl
    where
      go : (c : Bool) → ltb (length a / 16) (needed store es) ≡ c → answer_by es (needed store es) places generation (all_in es store a)
          ≡ says_of es store generation c (ltb places (length es)) (over_limit (worst_of store es))
      go true e = ap (answer_by es (needed store es) places generation) (no_room a (ltb-true (length a / 16) (needed store es) e)).1
      go false e =
          let room = ltb-false (length a / 16) (needed store es) e in
          ap (answer_by es (needed store es) places generation) (all_in_lem a room)
          ∙ (λ i. pick (ltb places (length es)) (answer 15 [])
          (pick (over_limit (root-worst a room i)) (answer 16 (root-worst a room i ∷ 1024 ∷ []))
          (answer 0 (needs i ∷ root-worst a room i ∷ generation ∷ []))))

  -- what is left
  leaves_sound : (a ts : List ℕ) → left_by es ts (all_in es store a)
      ≡ pick (ltb (length a) 16) (filling a ts) (finished es store ts (lines_in (growth 1 (planted a) []) ls))
  unfolding built ends_of
  leaves_sound a ts = go (ltb (length a) 16) refl
    where
      go : (c : Bool) → ltb (length a) 16 ≡ c → left_by es ts (pick c (stopped a) (lines_in (growth 1 (planted a) []) ls))
          ≡ pick c (filling a ts) (finished es store ts (lines_in (growth 1 (planted a) []) ls))
      go true e = refl
      go false e =
          ⊎_elim
          (λ w. let m = w.1 in
          ap (left_by es ts) m.1
          ∙ ap (λ v. pick (ltb (length ts) (length es)) (filling m.0 ts) (pick (over_limit v) (filling (settled m.0 (size T - 1)) ts) (last_passes (size T) m.0 ts E (map target_word es)))) (second_pass m.0 m.2)
          ∙ sym (ap (finished es store ts) m.1))
          (λ w. ap (left_by es ts) w.1.1 ∙ sym (ap (finished es store ts) w.1.1))
          (first_pass a (ltb-false (length a) 16 e))

-- the core's answer is what build says
pub core_says : (es : List Entry) (store a : List ℕ) (places generation : ℕ) → built_by es store a places generation ≡ build_says es store (length a / 16) places generation
unfolding built_by build_says
core_says es store a places generation = go (ltb 2048 (length es)) refl (bad_entries store 0 es) refl
  where
    go : (b : Bool) → ltb 2048 (length es) ≡ b → (o : Option Answer) → bad_entries store 0 es ≡ o
        → unless (pick b (some (answer 10 [])) o) (answer_by es (needed store es) places generation (all_in es store a))
        ≡ pick b (answer 10 []) (unless o (says_of es store generation (ltb (length a / 16) (needed store es)) (ltb places (length es)) (over_limit (worst_of store es))))
    go true e o q = refl
    go false e (some r) q = refl
    go false e none q = says-sound es store (ltb-false 2048 (length es) e) q a places generation

-- and what it leaves is what build leaves
pub core_leaves : (es : List Entry) (store a ts : List ℕ) → leaves_by es store a ts ≡ build_leaves es store a ts
unfolding leaves_by build_leaves
core_leaves es store a ts = go (ltb 2048 (length es)) refl (bad_entries store 0 es) refl
  where
    go : (b : Bool) → ltb 2048 (length es) ≡ b → (o : Option Answer) → bad_entries store 0 es ≡ o
        → if_refused (pick b (some (answer 10 [])) o) (filling a ts) (left_by es ts (all_in es store a)) ≡ pick b (filling a ts) (started es store a ts o)
    go true e o q = refl
    go false e (some r) q = refl
    go false e none q = leaves_sound es store (ltb-false 2048 (length es) e) q a ts

-- both
pub core_builds : (es : List Entry) (store a ts : List ℕ) (generation : ℕ) → core_into es store a ts generation ≡ build_into es store a ts generation
unfolding build_into
core_builds es store a ts generation i = record { says = core_says es store a (length ts) generation i; areas = core_leaves es store a ts i }
