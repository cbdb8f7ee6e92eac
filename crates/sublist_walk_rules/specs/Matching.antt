-- The call `match_table`: what it answers and what it leaves in the output.
use Rattle.std.specs.Prelude.{ℕ, ◌*◌, Bool, false, List, [], ◌∷◌, map, ltb, leb, length}
use Rattle.subject_rules.specs.Choice.{pick, and}
use Rattle.subject_rules.specs.Text.{tokens}
use Rattle.subject_rules.specs.Fnv.{fnv}
use Rattle.subject_rules.specs.Answers.{answer}
use Rattle.subject_rules.specs.Outputs.{Outcome, outcome, over, if_parsed}
use Rattle.subject_rules.specs.Grammar.{grammar}
use Rattle.sublist_walk_rules.specs.Walk.{Walked, found, failed, walk_over}

-- 19 on the counts: there is a node, and neither count exceeds its area
abbrev pub counts_fit : ℕ → ℕ → List ℕ → List ℕ → Bool
counts_fit n m a ts = and (ltb 0 n) (and (leb (n * 16) (length a)) (leb m (length ts)))

-- 19 in the walk, then 21
abbrev pub written : Walked → List ℕ → Outcome
written (failed why) out = outcome (answer 19 []) out
written (found list peak) out =
    pick (ltb (length out) (length list)) (outcome (answer 21 (length list ∷ [])) out)
    (outcome (answer 0 (length list ∷ peak ∷ [])) (over list out))

-- 19 on the counts, 19 in the walk, then 21
abbrev pub match_accepted : ℕ → ℕ → List ℕ → List ℕ → List ℕ → List ℕ → Outcome
match_accepted n m a ts subject out =
    pick (counts_fit n m a ts)
    (written (walk_over 1024 a n m ts (map fnv (tokens subject))) out)
    (outcome (answer 19 []) out)

-- 1 to 9 come first
unfoldable pub match_table : ℕ → ℕ → List ℕ → List ℕ → List ℕ → List ℕ → Outcome
match_table n m a ts subject out = if_parsed (grammar false subject) out (match_accepted n m a ts subject out)

-- the match of a subject that was parsed before; 1 is asked again, of any text that is lent
unfoldable pub match_parsed : ℕ → ℕ → List ℕ → List ℕ → List ℕ → List ℕ → Outcome
match_parsed n m a ts subject out =
    pick (ltb 4096 (length subject)) (outcome (answer 1 []) out) (match_accepted n m a ts subject out)
