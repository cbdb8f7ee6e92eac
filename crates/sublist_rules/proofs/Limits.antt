-- 01's numbers of a build, written out: what a definition that was changed together with the code would not meet. Each build falls under one of these.
--
--   entries_over      10 over 2,048 entries
--   entry-bad         12 or 13 of the first entry refused
--   nodes-short       14, with the node count needed, where the whole nodes of 16 words lent are fewer
--   targets-short     15 where the target words are fewer than the entries
--   fork_over         16, with the worst case and 1,024, where the worst case is greater
--   fork_within       otherwise accepted, with the node count needed and the worst case
--   whole_list        and then the areas hold the tree of all the entries
use Prim.Native.Nat.{ℕ, ◌/◌, ◌≤◌, ◌<◌}
use mathlib.Core.Path.{◌≡◌}
use mathlib.Core.List.{List, [], ◌∷◌}
use mathlib.Core.Option.{none, some}
use lib.ListN.{length}
use borrow.Author.Tests.{lt-ltb, le-ltb}
use Rattle.subject_rules.specs.Answers.{Answer, answer}
use Rattle.sublist_walk_rules.specs.Holds.{Holds}
use Rattle.sublist_entries.specs.declared.Entry.{Entry}
use Rattle.sublist_entries.specs.Entries.{lines_of}
use Rattle.sublist_rules.specs.Building.{bad_entries, needed, worst_of, build_says}
use Rattle.sublist_rules.specs.Passes.{node_words_in, target_words_in}
use Rattle.sublist_rules.specs.Leaving.{BuildOutcome, build_into}
use Rattle.sublist_rules.proofs.Over.{over, within}
use Rattle.sublist_rules.proofs.Builds.{build_stands}

module _ (es : List Entry) (store a ts : List ℕ) (generation : ℕ) where
  abbrev outcome : BuildOutcome
  outcome = build_into es store a ts generation

  pub entries_over : 2048 < length es → outcome.says ≡ answer 10 []
  unfolding build_into build_says
  entries_over h = rw (lt-ltb 2048 (length es) h)

  module _ (few : length es ≤ 2048) where
    pub entry-bad : (r : Answer) → bad_entries store 0 es ≡ some r → outcome.says ≡ r
    unfolding build_into build_says
    entry-bad r bad = rw (le-ltb 2048 (length es) few, bad)

    module _ (sound : bad_entries store 0 es ≡ none) where
      pub nodes-short : length a / 16 < needed store es → outcome.says ≡ answer 14 (needed store es ∷ [])
      unfolding build_into build_says
      nodes-short h = rw (le-ltb 2048 (length es) few, sound, lt-ltb (length a / 16) (needed store es) h)

      module _ (room : needed store es ≤ length a / 16) where
        pub targets-short : length ts < length es → outcome.says ≡ answer 15 []
        unfolding build_into build_says
        targets-short h = rw (le-ltb 2048 (length es) few, sound, le-ltb (length a / 16) (needed store es) room, lt-ltb (length ts) (length es) h)

        module _ (wide : length es ≤ length ts) where
          pub fork_over : 1024 < worst_of store es → outcome.says ≡ answer 16 (worst_of store es ∷ 1024 ∷ [])
          unfolding build_into build_says
          fork_over h =
              rw (
                le-ltb 2048 (length es) few,
                sound,
                le-ltb (length a / 16) (needed store es) room,
                le-ltb (length ts) (length es) wide,
                over (worst_of store es) h,
              )

          module _ (h : worst_of store es ≤ 1024) where
            pub fork_within : outcome.says ≡ answer 0 (needed store es ∷ worst_of store es ∷ generation ∷ [])
            unfolding build_into build_says
            fork_within =
                rw (
                  le-ltb 2048 (length es) few,
                  sound,
                  le-ltb (length a / 16) (needed store es) room,
                  le-ltb (length ts) (length es) wide,
                  within (worst_of store es) h,
                )

            pub whole_list : Holds (node_words_in outcome.areas) (needed store es) (length es) (target_words_in outcome.areas) (lines_of store es)
            unfolding build_into
            whole_list = build_stands es store a ts (record { few = few; sound = sound; fits = room; wide = wide; fork = h })
