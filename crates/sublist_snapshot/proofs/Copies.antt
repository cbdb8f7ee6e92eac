-- What a copy of a table leaves in the snapshot's area: its words, so its tree.
use Rattle.std.proofs.Common.{◌≡◌, ℕ, ◌*◌, ◌<◌, ◌≤◌, true, List, [], ◌∷◌, ◌++◌, length, take, drop, ap, ◌∙◌, append_assoc, arith, length-append, length-drop, length-take-le, take_at, drop_at, le-ltb, lt-ltb}
use mathlib.Core.Option.{none, some}
use Rattle.subject_rules.specs.Answers.{answer}
use Rattle.sublist_tree.specs.Tree.{Line}
use Rattle.sublist_walk_rules.specs.Holds.{Holds}
use Rattle.sublist_walk_rules.proofs.Held.{counts_hold}
use Rattle.sublist_snapshot.specs.declared.Snapshot.{Snapshot}
use Rattle.sublist_snapshot.specs.Snapshot.{Table, length_of, sound, refused_table, words_of, copied, stored, make}
use Rattle.sublist_snapshot.specs.Snapshot.{store_in, nodes_in, targets_in}
use Rattle.sublist_snapshot.proofs.Parts.{holds-part}

-- the areas of a lent table hold the tree of these lines
abbrev pub HoldsLent : Table → List (Line ℕ) → Type 0
HoldsLent t ls = Holds t.node_words t.nodes t.targets t.target_words ls

-- the area of a snapshot does
abbrev pub HoldsIn : Snapshot → List ℕ → List (Line ℕ) → Type 0
HoldsIn s area ls = Holds (nodes_in s.nodes area) s.nodes s.targets (targets_in s.nodes s.targets area) ls

module _ (t : Table) (ls : List (Line ℕ)) (H : HoldsLent t ls) where
  -- 19 does not apply
  pub lent-sound : sound t ≡ true
  lent-sound = counts_hold t.node_words t.nodes t.targets t.target_words ls H

  front : length (take (t.nodes * 16) t.node_words) ≡ t.nodes * 16
  front = length-take-le (t.nodes * 16) t.node_words H.nodes_fit

  behind : length (take t.targets t.target_words) ≡ t.targets
  behind = length-take-le t.targets t.target_words H.targets_fit

  words-length : length (words_of t) ≡ length_of t
  words-length = length-append (take (t.nodes * 16) t.node_words) (take t.targets t.target_words) ∙ omega (arith, front, behind)

  module _ (area : List ℕ) where
    abbrev rest : List ℕ
    rest = drop (length (words_of t)) area

    copied-nodes : nodes_in t.nodes (copied t area) ≡ take (t.nodes * 16) t.node_words
    copied-nodes =
        ap (take (t.nodes * 16)) (append_assoc (take (t.nodes * 16) t.node_words) (take t.targets t.target_words) rest)
        ∙ take_at (take (t.nodes * 16) t.node_words) (take t.targets t.target_words ++ rest) (t.nodes * 16) front

    copied-targets : targets_in t.nodes t.targets (copied t area) ≡ take t.targets t.target_words
    copied-targets =
        ap (λ l. take t.targets (drop (t.nodes * 16) l)) (append_assoc (take (t.nodes * 16) t.node_words) (take t.targets t.target_words) rest)
        ∙ ap (take t.targets) (drop_at (take (t.nodes * 16) t.node_words) (take t.targets t.target_words ++ rest) (t.nodes * 16) front)
        ∙ take_at (take t.targets t.target_words) rest t.targets behind

    pub copied-length : length_of t ≤ length area → length (copied t area) ≡ length area
    copied-length h = length-append (words_of t) rest ∙ omega (arith, words-length, length-drop (length (words_of t)) area)

    -- the copy holds what the lent areas hold
    pub copied-holds : Holds (nodes_in t.nodes (copied t area)) t.nodes t.targets (targets_in t.nodes t.targets (copied t area)) ls
    copied-holds = rw (copied-nodes, copied-targets) (holds-part t.node_words t.nodes t.targets t.target_words ls H)

    -- such a table is refused for want of room alone
    pub table_full : length area < length_of t → refused_table t area ≡ some (answer 20 [])
    table_full h = rw (lent-sound, lt-ltb (length area) (length_of t) h)

    pub table_fits : length_of t ≤ length area → refused_table t area ≡ none
    table_fits h = rw (lent-sound, le-ltb (length area) (length_of t) h)

    pub make_full : length area < length_of t → make t area ≡ record { says = answer 20 []; area = area }
    unfolding make
    make_full h = rw (table_full h)

    pub make-fits : length_of t ≤ length area → make t area ≡ record { says = answer 0 (t.nodes ∷ t.targets ∷ 0 ∷ 1 ∷ []); area = copied t area }
    unfolding make
    make-fits h = rw (table_fits h)

    module _ (s : Snapshot) where
      -- a refused store leaves state and area
      pub store_full : length area < length_of t → store_in s area t ≡ record { says = answer 20 []; snapshot = s; area = area }
      unfolding store_in
      store_full h = rw (table_full h)

      -- an accepted one leaves the table, stamped
      pub store-fits : length_of t ≤ length area → store_in s area t ≡ record { says = answer 0 (s.next.0 ∷ []); snapshot = stored s t; area = copied t area }
      unfolding store_in
      store-fits h = rw (table_fits h)

      -- the generation that it returns is the one that stands
      pub store-stamps : length_of t ≤ length area → (store_in s area t).says ≡ answer 0 ((store_in s area t).snapshot.generation.0 ∷ [])
      unfolding store_in
      store-stamps h = rw (table_fits h)

      -- the snapshot and area that it leaves hold the new table's tree
      pub store-holds : length_of t ≤ length area → HoldsIn (store_in s area t).snapshot (store_in s area t).area ls
      unfolding store_in
      store-holds h = rw (table_fits h) copied-holds
