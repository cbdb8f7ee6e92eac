-- What an accepted build's answer says of its entries: their texts are accepted, and their worst case is at most 1,024.
use Prim.Native.Nat.{ℕ, zero, suc, ◌+◌, ◌/◌, ◌≤◌}
use mathlib.Core.Path.{◌≡◌, refl, ◌∙◌, ap, subst}
use mathlib.Core.Bool.{Bool, true, false}
use mathlib.Core.List.{List, [], ◌∷◌}
use mathlib.Core.Option.{Option, none, some}
use lib.Dec.{eqb, ltb}
use lib.ListN.{length, replicate}
use borrow.Author.Tests.{ltb-false}
use Rattle.subject_rules.specs.Choice.{pick}
use Rattle.subject_rules.specs.Text.{tokens, is_tail}
use Rattle.subject_rules.specs.Utf8.{first_bad}
use Rattle.subject_rules.specs.Answers.{Answer, answer, unless}
use Rattle.subject_rules.specs.Grammar.{first_of, bad_token, tail_at, check, not_utf8, grammar}
use Rattle.sublist_tree.specs.Lists.{All}
use Rattle.sublist_tree.specs.Tree.{worst}
use Rattle.sublist_tree.specs.Table.{TableEntry, Accepted}
use Rattle.sublist_area_rules.specs.Growing.{planted}
use Rattle.sublist_entries.specs.declared.Entry.{Entry}
use Rattle.sublist_entries.specs.Entries.{text_of, read_from}
use Rattle.sublist_rules.specs.Building.{invalid, bad_entry, bad_entries, needed, worst_of as worst_in, build_says}
use Rattle.sublist_rules.specs.Passes.{lines_in, settled, laid_at, laid, filled}
use Rattle.sublist_rules.specs.Leaving.{build_leaves}
use Rattle.subject_rules.proofs.Depths.{first_none}
use Rattle.sublist_snapshot.specs.Snapshot.{Table, empty_table}
use Rattle.binding.specs.Demand.{worst_of, holding, entries_refused, BuildRight}
use Rattle.binding.specs.Built.{BuiltFrom}
use Rattle.binding.proofs.Tokens.{token_refuses}

-- 13 holds a number that is not 0
held_refuses : (o : Answer) (values : List ℕ) → invalid o ≡ some (answer 0 values) → ⊥
held_refuses (answer zero vs) values e = cc
held_refuses (answer (suc n) vs) values e = cc

entry_refuses : (store : List ℕ) (index : ℕ) (e : Entry) (values : List ℕ) → bad_entry store index e ≡ some (answer 0 values) → ⊥
entry_refuses store index e values q = go (ltb (length store) (e.start + e.length)) q
  where
    go : (b : Bool) → pick b (some (answer 12 (index ∷ []))) (invalid (grammar true (text_of store e))) ≡ some (answer 0 values) → ⊥
    go true q = cc
    go false q = held_refuses (grammar true (text_of store e)) values q

entries_refuse : (store : List ℕ) (index : ℕ) (es : List Entry) (values : List ℕ) → bad_entries store index es ≡ some (answer 0 values) → ⊥
entries_refuse store index [] values q = cc
entries_refuse store index (e ∷ es) values q = go (bad_entry store index e) refl q (entries_refuse store (index + 1) es values)
  where
    go : (o : Option Answer) → bad_entry store index e ≡ o → first_of o (bad_entries store (index + 1) es) ≡ some (answer 0 values)
        → (bad_entries store (index + 1) es ≡ some (answer 0 values) → ⊥) → ⊥
    go none p q ih = ih q
    go (some a) p q ih = entry_refuses store index e values (p ∙ q)

-- an accepted text's answer has one value
check-value : (wild : Bool) (passed : Option ℕ) (index : ℕ) (ts : List (List ℕ)) (values : List ℕ) → check wild passed index ts ≡ answer 0 values → (n : ℕ) × (values ≡ n ∷ [])
check-value wild passed index [] values e = (index, cc)
check-value wild (some at) index (t ∷ ts) values e = absurd (cc)
check-value wild none index (t ∷ ts) values e =
    go (eqb index 32) (bad_token wild index t) refl e (check-value wild (tail_at (is_tail t) index) (index + 1) ts values)
  where
    go : (b : Bool) (o : Option Answer) → bad_token wild index t ≡ o
        → pick b (answer 5 (33 ∷ [])) (unless o (check wild (tail_at (is_tail t) index) (index + 1) ts)) ≡ answer 0 values
        → (check wild (tail_at (is_tail t) index) (index + 1) ts ≡ answer 0 values → (n : ℕ) × (values ≡ n ∷ [])) → (n : ℕ) × (values ≡ n ∷ [])
    go true o q e ih = absurd (cc)
    go false (some a) q e ih = absurd (token_refuses wild index t values (q ∙ ap some e))
    go false none q e ih = ih e

grammar-value : (wild : Bool) (bs values : List ℕ) → grammar wild bs ≡ answer 0 values → (n : ℕ) × (values ≡ n ∷ [])
unfolding grammar
grammar-value wild bs values e = go (ltb 4096 (length bs)) (first_bad bs) (eqb (length bs) 0) e
  where
    go : (b : Bool) (o : Option ℕ) (c : Bool) → pick b (answer 1 []) (unless (not_utf8 o) (pick c (answer 3 []) (check wild none 0 (tokens bs)))) ≡ answer 0 values
        → (n : ℕ) × (values ≡ n ∷ [])
    go true o c e = absurd (cc)
    go false (some i) c e = absurd (cc)
    go false none true e = absurd (cc)
    go false none false e = check-value wild none 0 (tokens bs) values e

-- entries that are not bad are accepted
entry-accepted : (store : List ℕ) (index : ℕ) (e : Entry) → bad_entry store index e ≡ none → (n : ℕ) × (grammar true (text_of store e) ≡ answer 0 (n ∷ []))
entry-accepted store index e q = go (ltb (length store) (e.start + e.length)) (grammar true (text_of store e)) refl q
  where
    go : (b : Bool) (o : Answer) → grammar true (text_of store e) ≡ o → pick b (some (answer 12 (index ∷ []))) (invalid o) ≡ none
        → (n : ℕ) × (grammar true (text_of store e) ≡ answer 0 (n ∷ []))
    go true o p q = absurd (cc)
    go false (answer (suc k) values) p q = absurd (cc)
    go false (answer zero values) p q = let v = grammar-value true (text_of store e) values p in (v.0, p ∙ ap (answer 0) v.1)

entries-accepted : (store : List ℕ) (index : ℕ) (es : List Entry) → bad_entries store index es ≡ none → All Accepted (read_from store es)
entries-accepted store index [] q = tt
entries-accepted store index (e ∷ es) q =
    let both = first_none (bad_entry store index e) (bad_entries store (index + 1) es) q in
    (entry-accepted store index e both.0, entries-accepted store (index + 1) es both.1)

-- an accepted build's entries are accepted, and its worst case is at most 1,024
build-accepted : (list : List Entry) (store : List ℕ) (room places g : ℕ) (values : List ℕ) → build_says list store room places g ≡ answer 0 values
    → All Accepted (read_from store list) × (worst_in store list ≤ 1024)
unfolding build_says
build-accepted list store room places g values e =
    go (ltb 2048 (length list)) (bad_entries store 0 list) refl (ltb room (needed store list)) (ltb places (length list)) (ltb 1024 (worst_in store list)) refl e
  where
    go : (a : Bool) (o : Option Answer) → bad_entries store 0 list ≡ o → (b c d : Bool) → ltb 1024 (worst_in store list) ≡ d
        → pick a (answer 10 []) (unless o (pick b (answer 14 (needed store list ∷ [])) (pick c (answer 15 []) (pick d (answer 16 (worst_in store list ∷ 1024 ∷ []))
        (answer 0 (needed store list ∷ worst_in store list ∷ g ∷ [])))))) ≡ answer 0 values
        → All Accepted (read_from store list) × (worst_in store list ≤ 1024)
    go true o p b c d q e = absurd (cc)
    go false (some r) p b c d q e = absurd (entries_refuse store 0 list values (p ∙ ap some e))
    go false none p true c d q e = absurd (cc)
    go false none p false true d q e = absurd (cc)
    go false none p false false true q e = absurd (cc)
    go false none p false false false q e = (entries-accepted store 0 list p, ltb-false 1024 (worst_in store list) q)

module _ (t : Table) (es : List TableEntry) (f : BuiltFrom t es) where
  facts : All Accepted (read_from f.store f.list) × (worst_in f.store f.list ≤ 1024)
  facts = build-accepted f.list f.store (length f.nodes_lent / 16) (length f.targets_lent) t.generation.0 (t.nodes ∷ f.worst_case ∷ t.generation.0 ∷ []) f.accepted

  pub built_accepts : All Accepted es
  built_accepts = subst (All Accepted) f.texts_read facts.0

  pub built_bound : worst_of es ≤ 1024
  unfolding worst_in
  built_bound = subst (λ x. worst_of x ≤ 1024) f.texts_read facts.1

-- the table of an empty snapshot is the one that a build leaves for no entries
pub empty-built : BuiltFrom empty_table []
unfolding build_says needed worst_in worst build_leaves planted lines_in settled laid laid_at filled
empty-built = record {
  list = [];
  store = [];
  nodes_lent = replicate 16 0;
  targets_lent = [];
  worst_case = 1;
  accepted = refl;
  areas_left = refl;
  one_each = refl;
  texts_read = refl;
}

-- ---- the refusals of a build, as they are demanded

holds_as : (a : Answer) → invalid a ≡ holding a
holds_as (answer zero values) = refl
holds_as (answer (suc n) values) = refl

refused_as : (texts : List ℕ) (index : ℕ) (es : List Entry) → bad_entries texts index es ≡ entries_refused texts index es
refused_as texts index [] = refl
refused_as texts index (e ∷ es) = rw (holds_as (grammar true (text_of texts e)), refused_as texts (index + 1) es)

pub builds_right_lem : (list : List Entry) (texts : List ℕ) (nodes_lent targets_lent generation : ℕ) → BuildRight list texts nodes_lent targets_lent generation
unfolding build_says needed worst_in
builds_right_lem list texts nodes_lent targets_lent generation = rw (refused_as texts 0 list)
