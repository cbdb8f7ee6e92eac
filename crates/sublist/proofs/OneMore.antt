-- One more entry: the longest run shared with the entries before it, and the nodes that it adds. Assumes nothing.
use Rattle.std.proofs.Common.{◌≡◌, ℕ, suc, ◌+◌, ◌-◌, ◌<◌, ◌≤◌, max, Bool, true, false, eqb, List, [], ◌∷◌, ◌++◌, map, length, take, sym, refl, ap, ◌∙◌, ap₂, add-one, arith, take-suc}
use Rattle.std.proofs.lemmas.List.{map-append}
use Rattle.subject_rules.specs.Choice.{pick}
use Rattle.subject_rules.specs.Text.{tokens, is_tail}
use Rattle.subject_rules.specs.Fnv.{fnv}
use Rattle.sublist_tree.specs.Lists.{largest}
use Rattle.sublist_tree.specs.Tree.{Line, line, onto, line_of, keys_of}
use Rattle.sublist_tree.specs.Nodes.{nodes}
use Rattle.sublist_tree.proofs.Bytes.{eqb_whole}
use Rattle.sublist_entries.specs.declared.Entry.{Entry}
use Rattle.sublist_entries.specs.Entries.{text_of, target_word, entry_at, lines_of}
use Rattle.sublist_rules.specs.Building.{needed}
use Rattle.sublist_area_rules.specs.Words.{token_key}
use Rattle.sublist.specs.Sharing.{shared, keys_in, shared_by, longest}
use Rattle.sublist.proofs.Needed.{longest_run, shared-most, longest-most, shared_self, nodes_more}

largest-last : (xs : List ℕ) (x : ℕ) → largest (xs ++ (x ∷ [])) ≡ max (largest xs) x
largest-last [] x = omega arith
largest-last (y ∷ xs) x = omega (arith, largest-last xs x)

module _ (store text : List ℕ) where
  pub longest_none : longest store text [] ≡ 0
  unfolding longest
  longest_none = refl

  pub longest_more : (es : List Entry) (e : Entry) → longest store text (es ++ (e ∷ [])) ≡ max (longest store text es) (shared_by text (text_of store e))
  unfolding longest
  longest_more es e =
      ap largest (map-append (λ d. shared_by text (text_of store d)) es (e ∷ []))
      ∙ largest-last (map (λ d. shared_by text (text_of store d)) es) (shared_by text (text_of store e))

-- a line's target has no part in its keys
keys-only : (ts : List (List ℕ)) (x : ℕ) → keys_of (line_of fnv ts x) ≡ keys_in ts
keys-only [] x = refl
keys-only (t ∷ ts) x = go (is_tail t) (line_of fnv ts x) (line_of fnv ts 0) (keys-only ts x)
  where
    go : (b : Bool) (l m : Line ℕ) → keys_of l ≡ keys_of m → keys_of (pick b (line [] true x) (onto (token_key t) l)) ≡ keys_of (pick b (line [] true 0) (onto (token_key t) m))
    go true l m e = refl
    go false (line ks v y) (line js w z) e = ap (λ r. token_key t ∷ r) e

module _ (store text : List ℕ) where
  longest_lines : (es : List Entry) → longest_run eqb (keys_in (tokens text)) (lines_of store es) ≡ longest store text es
  unfolding longest shared_by
  longest_lines [] = refl
  longest_lines (e ∷ es) = ap₂ max (ap (shared eqb (keys_in (tokens text))) (keys-only (tokens (text_of store e)) (target_word e))) (longest_lines es)

  -- all the keys of a pattern
  shared_all : shared_by text text ≡ length (keys_in (tokens text))
  unfolding shared_by
  shared_all = shared_self eqb eqb_whole (keys_in (tokens text))

  pub longest_all : (es : List Entry) → longest store text es ≤ shared_by text text
  longest_all es = omega (arith, longest_lines es, shared_all, longest-most eqb (keys_in (tokens text)) (lines_of store es))

keys-most : (ts : List (List ℕ)) → length (keys_in ts) ≤ length ts
keys-most [] = omega arith
keys-most (t ∷ ts) = go (is_tail t) (line_of fnv ts 0) (keys-most ts)
  where
    go : (b : Bool) (l : Line ℕ) → length (keys_of l) ≤ length ts → length (keys_of (pick b (line [] true 0) (onto (token_key t) l))) ≤ suc (length ts)
    go true l h = omega arith
    go false (line ks v y) h = omega arith

-- a text begins alike with another by no more keys than it has tokens
pub shared-tokens : (text other : List ℕ) → shared_by text other ≤ length (tokens text)
unfolding shared_by
shared-tokens text other = omega (arith, shared-most eqb (keys_in (tokens text)) (keys_in (tokens other)), keys-most (tokens text))

-- no entry needs a node but the root
pub needed_none : (store : List ℕ) → needed store [] ≡ 1
unfolding needed
needed_none store = refl

lines_more : (store : List ℕ) (es : List Entry) (e : Entry) → lines_of store (es ++ (e ∷ [])) ≡ lines_of store es ++ (line_of fnv (tokens (text_of store e)) (target_word e) ∷ [])
lines_more store [] e = refl
lines_more store (d ∷ es) e = ap (λ ls. line_of fnv (tokens (text_of store d)) (target_word d) ∷ ls) (lines_more store es e)

-- an entry adds its keys, less the longest run that it shares with one before it
pub needed_more : (store : List ℕ) (es : List Entry) (e : Entry)
    → needed store (es ++ (e ∷ [])) ≡ needed store es + (shared_by (text_of store e) (text_of store e) - longest store (text_of store e) es)
unfolding needed
needed_more store es e =
    ap (λ ls. length (nodes eqb ls)) (lines_more store es e)
    ∙ nodes_more eqb eqb_whole (lines_of store es) (line_of fnv (tokens (text_of store e)) (target_word e))
    ∙ rw (keys-only (tokens (text_of store e)) (target_word e), longest_lines store (text_of store e) es, shared_all store (text_of store e))

-- the same for the first i entries of a list
module _ (store : List ℕ) (es : List Entry) (i : ℕ) (h : i < length es) where
  more : take (i + 1) es ≡ take i es ++ (entry_at es i ∷ [])
  more = rw (add-one i) (take-suc es i (record { start = 0; length = 0; target = 0 }) h)

  pub longest_next : (text : List ℕ) (m n : ℕ) → m ≡ longest store text (take i es) → n ≡ shared_by text (text_of store (entry_at es i)) → max m n ≡ longest store text (take (i + 1) es)
  longest_next text m n e f = rw (more, e, f) (sym (longest_more store text (take i es) (entry_at es i)))

  pub needed-next : (n keys run : ℕ) → n ≡ needed store (take i es) → keys ≡ shared_by (text_of store (entry_at es i)) (text_of store (entry_at es i))
      → run ≡ longest store (text_of store (entry_at es i)) (take i es) → n + (keys - run) ≡ needed store (take (i + 1) es)
  needed-next n keys run e f g = rw (more, e, f, g) (sym (needed_more store (take i es) (entry_at es i)))
