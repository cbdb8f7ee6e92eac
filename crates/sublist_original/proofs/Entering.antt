-- The original's loops over tokens and entries put in the lines of the tree, one after the other.
use Prim.Native.Nat.{ℕ, suc, ◌+◌, ◌*◌, ◌≤◌, ◌<◌}
use native.Mathlib.Omega.{arith}
use native.Mathlib.Decide.{ℕ_discrete}
use mathlib.Core.Path.{◌≡◌, refl, ◌∙◌}
use mathlib.Core.Bool.{Bool, true, false}
use mathlib.Core.List.{List, [], ◌∷◌, ◌++◌, append-nil, append_assoc}
use lib.Dec.{eqb}
use lib.ListN.{length, length-map}
use Rattle.subject_rules.specs.Choice.{pick}
use Rattle.subject_rules.specs.Text.{tokens, is_star, is_tail}
use Rattle.subject_rules.specs.Fnv.{fnv}
use Rattle.subject_rules.specs.Original as subject
use Rattle.subject_rules.specs.Original.{when◌then◌else◌, equal, WILDCARD_ONE, WILDCARD_TAIL, validate}
use Rattle.subject_rules.proofs.SameMatching.{equal-star, equal-tail}
use Rattle.subject_rules.proofs.SameGrammar.{split-tokens, depth_original, depth_bounded}
use Rattle.sublist_tree.specs.Lists.{All}
use Rattle.sublist_tree.specs.Tree.{Key, star, lit, Line, line, onto, target_of, line_of, keys_of}
use Rattle.sublist_tree.specs.Table.{TableEntry, entry_line, root_of}
use Rattle.sublist_tree.proofs.Fork.{depth_of, Within}
use Rattle.sublist_tree.proofs.Bytes.{eqb_sound, eqb_whole}
use Rattle.sublist_tree.proofs.Route.{line_depth}
use Rattle.sublist_trie.proofs.Trie.{Trie, root, grow, size, child, Good, ins_t, built_from, built}
use Rattle.sublist_trie.proofs.Ends.{LineEnd, line_end, ends_from, ends_of}
use Rattle.sublist_trie.proofs.Runs.{size_pos, child_less}
use Rattle.sublist_trie.proofs.Growth.{on_new, on_there, run_ins}
use Rattle.sublist_original.specs.Original.{Outcome, Ok, ◌>>=◌, Arena, root_alone, push_gt_terminal, each_token, each_entry}
use Rattle.sublist_original.specs.Entries.{pairs}
use Rattle.sublist_rules.proofs.Composed.{from_most, ins_most}
use Rattle.sublist_original.proofs.Arenas.{Stands, stepped, descend, descend_there, joined, descend_new, stands_new, exact_more, tail_more, stands_root}

-- ---- a pattern's tokens

abbrev tail_of : Line ℕ → Bool
tail_of (line ks tail target) = tail

abbrev key_of : List ℕ → Key ℕ
key_of token = pick (is_star token) star (lit (fnv token))

onto-keys : (k : Key ℕ) (l : Line ℕ) → keys_of (onto k l) ≡ k ∷ keys_of l
onto-keys k (line ks tail target) = refl

onto-tail : (k : Key ℕ) (l : Line ℕ) → tail_of (onto k l) ≡ tail_of l
onto-tail k (line ks tail target) = refl

-- one token, which is no `>`
token_down : (x p : ℕ) (a : Arena ℕ) (token : List ℕ) (rest : List (List ℕ)) → is_tail token ≡ false
    → each_token x p a (token ∷ rest) ≡ (descend a p (key_of token) >>= λ next. each_token x next.0 next.1 rest)
unfolding each_token
token_down x p a token rest e = rw (equal-tail token, e, equal-star token) (go (is_star token))
  where
    go : (b : Bool) → (when b then (descend a p star >>= λ next. each_token x next.0 next.1 rest) else descend a p (lit (fnv token)) >>= λ next. each_token x next.0 next.1 rest)
        ≡ (descend a p (pick b star (lit (fnv token))) >>= λ next. each_token x next.0 next.1 rest)
    go true = refl
    go false = refl

-- a `>`
token_tail : (x p : ℕ) (a : Arena ℕ) (token : List ℕ) (rest : List (List ℕ)) → is_tail token ≡ true
    → each_token x p a (token ∷ rest) ≡ (push_gt_terminal a p x >>= λ b. Ok (p, true, b))
unfolding each_token
token_tail x p a token rest e = rw (equal-tail token, e)

-- what the loop over the tokens comes to: where the run of keys ends, and whether `>` follows, whose target is then in
abbrev Reached : Trie ℕ → List LineEnd → ℕ → ℕ → List (Key ℕ) → Bool → Outcome (ℕ × Bool × Arena ℕ) → Type 0
Reached t es p x ks tail o =
    (b : Arena ℕ) × (o ≡ Ok ((ins_t eqb t p ks).1, tail, b)) × Stands b (ins_t eqb t p ks).0 (es ++ pick tail (line_end (ins_t eqb t p ks).1 true x ∷ []) [])

size_grow : (t : Trie ℕ) (p : ℕ) (k : Key ℕ) → size (grow t p k) ≡ suc (size t)
unfolding size
size_grow t p k = refl

-- one key, and the rest of the tokens from where it leads
module _ (a : Arena ℕ) (t : Trie ℕ) (es : List LineEnd) (s : Stands a t es) (p : ℕ) (h : p < size t) (x : ℕ) (token : List ℕ) (ts : List (List ℕ)) (e : is_tail token ≡ false) where
  key_new : (k : Key ℕ) (ks : List (Key ℕ)) (tail : Bool) → k ≡ key_of token → size t < 4294967296 → child eqb t p k ≡ 0
      → Reached (grow t p k) es (size t) x ks tail (each_token x (size t) (stepped a p (joined (size t) k)) ts) → Reached t es p x (k ∷ ks) tail (each_token x p a (token ∷ ts))
  key_new k ks tail d room z r = rw (token_down x p a token ts e, ← d, on_new eqb t p k ks z, descend_new a t es s p h room k z) r

  key_there : (k : Key ℕ) (ks : List (Key ℕ)) (tail : Bool) → k ≡ key_of token → (child eqb t p k ≡ 0 → ⊥)
      → Reached t es (child eqb t p k) x ks tail (each_token x (child eqb t p k) a ts) → Reached t es p x (k ∷ ks) tail (each_token x p a (token ∷ ts))
  key_there k ks tail d ne r = rw (token_down x p a token ts e, ← d, on_there eqb t p k ks ne, descend_there a t es s p h k ne) r

tail-reached : (a : Arena ℕ) (t : Trie ℕ) (es : List LineEnd) (p x : ℕ) (token : List ℕ) (ts : List (List ℕ)) → Stands a t es → p < size t → is_tail token ≡ true
    → Reached t es p x [] true (each_token x p a (token ∷ ts))
unfolding ins_t
tail-reached a t es p x token ts s h e = let w = tail_more a t es s p h x in (w.0, rw (token_tail x p a token ts e, w.1), w.2)

tokens_reach : (ts : List (List ℕ)) (x : ℕ) (a : Arena ℕ) (t : Trie ℕ) (es : List LineEnd) (p : ℕ) → Stands a t es → p < size t
    → size t + length (keys_of (line_of fnv ts x)) ≤ 4294967296 → Reached t es p x (keys_of (line_of fnv ts x)) (tail_of (line_of fnv ts x)) (each_token x p a ts)
unfolding ins_t each_token
tokens_reach [] x a t es p s h room = (a, refl, rw (append-nil es) s)
tokens_reach (token ∷ ts) x a t es p s h room = go (is_tail token) refl room
    (λ z. tokens_reach ts x (stepped a p (joined (size t) (key_of token))) (grow t p (key_of token)) es (size t) (stands_new a t es s p h (key_of token) z) (omega (arith, size_grow t p (key_of token))))
    (tokens_reach ts x a t es (child eqb t p (key_of token)) s (child_less eqb t p (key_of token)))
  where
    k : Key ℕ
    k = key_of token

    l : Line ℕ
    l = line_of fnv ts x

    go : (b : Bool) → is_tail token ≡ b → size t + length (keys_of (pick b (line [] true x) (onto k l))) ≤ 4294967296
        → (child eqb t p k ≡ 0 → size (grow t p k) + length (keys_of l) ≤ 4294967296
        → Reached (grow t p k) es (size t) x (keys_of l) (tail_of l) (each_token x (size t) (stepped a p (joined (size t) k)) ts))
        → (size t + length (keys_of l) ≤ 4294967296 → Reached t es (child eqb t p k) x (keys_of l) (tail_of l) (each_token x (child eqb t p k) a ts))
        → Reached t es p x (keys_of (pick b (line [] true x) (onto k l))) (tail_of (pick b (line [] true x) (onto k l))) (each_token x p a (token ∷ ts))
    go true e room new old = tail-reached a t es p x token ts s h e
    go false e room new old = rw (onto-keys k l, onto-tail k l) (at (ℕ_discrete (child eqb t p k) 0) (rw (onto-keys k l) at room))
      where
        at : Dec (child eqb t p k ≡ 0) → size t + length (k ∷ keys_of l) ≤ 4294967296 → Reached t es p x (k ∷ keys_of l) (tail_of l) (each_token x p a (token ∷ ts))
        at (yes z) room' = key_new a t es s p h x token ts e k (keys_of l) (tail_of l) refl (omega arith) z (new z (omega (arith, size_grow t p k)))
        at (no ne) room' = key_there a t es s p h x token ts e k (keys_of l) (tail_of l) refl ne (old (omega arith))

-- ---- an entry

-- the original accepts an entry's pattern
abbrev pub Valid : TableEntry → Type 0
Valid e = (n : ℕ) × (validate e.pattern true ≡ subject.Ok n)

-- its line has at most 32 keys
valid_depth : (e : TableEntry) → Valid e → depth_of (entry_line fnv e) ≤ 32
valid_depth e v =
    omega (arith, (line_depth fnv (tokens e.pattern) e.target).0, depth_original true e.pattern v.0 v.1, depth_bounded true e.pattern v.0 v.1)

pub lines_within : (es : List TableEntry) → All Valid es → Within 32 (root_of fnv es)
lines_within [] v = tt
lines_within (e ∷ es) v = (valid_depth e v.0, lines_within es v.1)

depth_keys : (l : Line ℕ) → length (keys_of l) ≡ depth_of l
depth_keys (line ks tail x) = refl

-- the pattern's tokens, and the target where no `>` placed it
entry_in : (a : Arena ℕ) (t : Trie ℕ) (fs : List LineEnd) (pattern : List ℕ) (x n : ℕ) (rest : List (List ℕ × ℕ)) (ks : List (Key ℕ)) (tail : Bool)
    → Good eqb t → validate pattern true ≡ subject.Ok n → Reached t fs 0 x ks tail (each_token x 0 a (tokens pattern))
    → (b : Arena ℕ) × (each_entry a ((pattern, x) ∷ rest) ≡ each_entry b rest) × Stands b (ins_t eqb t 0 ks).0 (fs ++ (line_end (ins_t eqb t 0 ks).1 tail x ∷ []))
unfolding each_entry
entry_in a t fs pattern x n rest ks true g v r = (r.0, rw (v, split-tokens pattern, r.1), r.2)
entry_in a t fs pattern x n rest ks false g v r =
    let u = (ins_t eqb t 0 ks).0 in
    let w = exact_more r.0 u fs (rw (append-nil fs) at r.2) (ins_t eqb t 0 ks).1 (run_ins eqb eqb_sound eqb_whole t ks g).1 x in
    (w.0, rw (v, split-tokens pattern, r.1, w.1), w.2)

-- ---- all entries

ends_cons : (t : Trie ℕ) (l : Line ℕ) (ls : List (Line ℕ))
    → ends_from eqb t (l ∷ ls) ≡ line_end (ins_t eqb t 0 (keys_of l)).1 (tail_of l) (target_of l) ∷ ends_from eqb (ins_t eqb t 0 (keys_of l)).0 ls
unfolding ends_from
ends_cons t (line ks tail x) ls = refl

-- a run adds at most a node a key
line-most : (t : Trie ℕ) (l : Line ℕ) → size (ins_t eqb t 0 (keys_of l)).0 ≤ size t + depth_of l
line-most t (line ks tail x) = ins_most ks t 0

joined-ends : (b : Arena ℕ) (u : Trie ℕ) (fs : List LineEnd) (f : LineEnd) (gs : List LineEnd) → Stands b u ((fs ++ (f ∷ [])) ++ gs) → Stands b u (fs ++ (f ∷ gs))
joined-ends b u fs f gs s = rw (append_assoc fs (f ∷ []) gs) at s

entries_in : (es : List TableEntry) (a : Arena ℕ) (t : Trie ℕ) (fs : List LineEnd) → Stands a t fs → All Valid es → size t + 32 * length es ≤ 4294967296
    → (b : Arena ℕ) × (each_entry a (pairs es) ≡ Ok b) × Stands b (built_from eqb t (root_of fnv es)) (fs ++ ends_from eqb t (root_of fnv es))
unfolding built_from ends_from each_entry
entries_in [] a t fs s v room = (a, refl, rw (append-nil fs) s)
entries_in (e ∷ es) a t fs s v room =
    let l = entry_line fnv e in
    let u = (ins_t eqb t 0 (keys_of l)).0 in
    let g = s.held.good in
    let deep = valid_depth e v.0 in
    let r = tokens_reach (tokens e.pattern) e.target a t fs 0 s (size_pos t) (omega (arith, depth_keys l)) in
    let w = entry_in a t fs e.pattern e.target v.0.0 (pairs es) (keys_of l) (tail_of l) g v.0.1 r in
    let more = entries_in es w.0 u (fs ++ (line_end (ins_t eqb t 0 (keys_of l)).1 (tail_of l) e.target ∷ [])) w.2 v.1 (omega (arith, line-most t l)) in (
      more.0,
      w.1 ∙ more.1,
      rw (ends_cons t l (root_of fnv es), (line_depth fnv (tokens e.pattern) e.target).1)
          (joined-ends more.0 (built_from eqb u (root_of fnv es)) fs (line_end (ins_t eqb t 0 (keys_of l)).1 (tail_of l) e.target) (ends_from eqb u (root_of fnv es)) more.2),
    )

-- at most 65,537 nodes for 2,048 entries: the original's numbers of nodes fit a u32
pub nodes-most : (es : List TableEntry) → All Valid es → size (built eqb (root_of fnv es)) ≤ 1 + 32 * length es
unfolding built size
nodes-most es v = omega (arith, from_most (root_of fnv es) root (lines_within es v), length-map es (entry_line fnv))

-- the build's first loop
pub entered : (es : List TableEntry) → All Valid es → length es ≤ 2048
    → (b : Arena ℕ) × (each_entry root_alone (pairs es) ≡ Ok b) × Stands b (built eqb (root_of fnv es)) (ends_of eqb (root_of fnv es))
unfolding built ends_of size
entered es v few = entries_in es root_alone root [] stands_root v (omega arith)
