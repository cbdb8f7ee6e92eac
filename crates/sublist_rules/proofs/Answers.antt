-- What a match on an accepted build's table gives, said of the entries alone: the list due, in 01's order, once per entry; 01's peak, at most the worst case, at most 1,024.
-- It is refused by the subject's own refusals and by 21 alone.
use Prim.Native.Nat.{ℕ, ◌/◌, ◌≤◌}
use native.Mathlib.Omega.{arith}
use mathlib.Core.Path.{◌≡◌, ◌∙◌, subst}
use mathlib.Core.Bool.{false}
use mathlib.Core.List.{List, map}
use lib.Dec.{eqb}
use lib.ListN.{length}
use Rattle.subject_rules.specs.Text.{tokens}
use Rattle.subject_rules.specs.Fnv.{fnv}
use Rattle.subject_rules.specs.Grammar.{grammar}
use Rattle.sublist_tree.specs.Due.{due}
use Rattle.sublist_tree.specs.Nodes.{peak_of}
use Rattle.sublist_tree.proofs.Hash.{hash_due, hash_peak, hash_fork}
use Rattle.sublist_walk_rules.specs.Walk.{found}
use Rattle.subject_rules.specs.Outputs.{if_parsed}
use Rattle.sublist_walk_rules.specs.Matching.{written, match_table}
use Rattle.sublist_walk_rules.proofs.Held.{match_holds}
use Rattle.sublist_entries.specs.declared.Entry.{Entry}
use Rattle.sublist_entries.specs.Entries.{read_from, lines_of}
use Rattle.sublist_rules.specs.Building.{needed, worst_of}
use Rattle.sublist_rules.specs.Leaving.{build_leaves}
use Rattle.sublist_rules.specs.Passes.{node_words_in, target_words_in}
use Rattle.sublist_rules.proofs.Builds.{Taken, build_stands, build-accepted}

module _ (es : List Entry) (store a ts : List ℕ) (t : Taken es store (length a / 16) (length ts)) (subject : List ℕ) where
  -- the peak, and the fork limit
  pub peak_bounded : peak_of eqb (map fnv (tokens subject)) (lines_of store es) ≤ worst_of store es
  unfolding worst_of
  peak_bounded =
      subst (λ p. p ≤ worst_of store es) (hash_peak (map fnv (tokens subject)) (read_from store es))
      (hash_fork (map fnv (tokens subject)) (read_from store es) (build-accepted es store a ts t))

  pub built_match : (out : List ℕ)
      → match_table (needed store es) (length es) (node_words_in (build_leaves es store a ts)) (target_words_in (build_leaves es store a ts)) subject out
      ≡ if_parsed (grammar false subject) out (written (found (due eqb (map fnv (tokens subject)) (lines_of store es)) (peak_of eqb (map fnv (tokens subject)) (lines_of store es))) out)
  built_match out =
      match_holds (node_words_in (build_leaves es store a ts)) (needed store es) (length es) (target_words_in (build_leaves es store a ts)) (lines_of store es) (build_stands es store a ts t) subject out
      (omega (arith, hash_peak (map fnv (tokens subject)) (read_from store es), peak_bounded, t.fork))
      ∙ (λ i. if_parsed (grammar false subject) out (written (found (hash_due (map fnv (tokens subject)) (read_from store es) i) (hash_peak (map fnv (tokens subject)) (read_from store es) i)) out))
