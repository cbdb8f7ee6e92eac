-- Only private contracts cite this file: what the answers of the walk's steps tell of the levels and walks of Walk.antt
use Rattle.std.specs.Prelude.{ℕ, ◌*◌, ◌≤◌, ◌≡◌, List, [], map, length, Option, None, Some, Result, Ok, Err}
use Rattle.std.proofs.lemmas.List.Edits.{sets}
use Rattle.subject_rules.specs.Text.{tokens}
use Rattle.subject_rules.specs.Fnv.{fnv}
use Rattle.sublist_walk_rules.specs.declared.Failure.{Failure}
use Rattle.sublist_walk_rules.specs.declared.Failure.TheVariants.{Wide}
use Rattle.sublist_walk.specs.declared.Counted.{Counted}
use Rattle.sublist_walk.specs.declared.TableMatch.{TableMatch}
use Rattle.sublist_walk.specs.declared.MatchError.{MatchError}
use Rattle.sublist_walk_rules.specs.Walk.{Level, level, broken, Walked, found, failed}
use Rattle.sublist_walk_rules.specs.Walk.{collect, visit, visits, exact, walk_over}
use Rattle.subject_rules.specs.Outputs.{outcome}
use Rattle.sublist_walk_rules.specs.Matching.{written}
use Rattle.sublist_walk.specs.Answers.{match_answer}

-- the walk's steps and the walk over a table whose counts fit
abbrev pub collect_in : Counted → ℕ → ℕ → Level → Level
collect_in t field node s = collect t.node_words.now (length t.targets.now) t.targets.now field node s

abbrev pub visit_in : ℕ → Counted → ℕ → Level → ℕ → Level
visit_in limit t hash s node = visit limit t.node_words.now t.nodes (length t.targets.now) t.targets.now hash s node

abbrev pub visits_in : ℕ → Counted → ℕ → Level → List ℕ → Level
visits_in limit t hash s nodes =
    visits limit t.node_words.now t.nodes (length t.targets.now) t.targets.now hash s nodes

-- neither the limit nor the count of nodes matters to the exact targets
abbrev pub exact_in : Counted → Level → List ℕ → Level
exact_in t s nodes = exact 0 t.node_words.now 0 (length t.targets.now) t.targets.now s nodes

abbrev pub walk_in : ℕ → Counted → List ℕ → Walked
walk_in limit t subject =
    walk_over limit t.node_words.now t.nodes (length t.targets.now) t.targets.now (map fnv (tokens subject))

-- the level s is this frontier, and nothing listed
abbrev pub Joins : Result Unit Failure → List ℕ → Level → Type 0
Joins (Ok u) to s = s ≡ level to []
Joins (Err why) to s = s ≡ broken why

-- the level s has the frontier `next` and a list of `count` targets, at most 2^32 for each of so many nodes; the output,
-- `out` before and `after` now, holds it from the first place on, as far as that goes
pub record Added (s : Level) (next : List ℕ) (count nodes : ℕ) (out after : List ℕ) : Type 0 where
  pub list : List ℕ
  pub is : s ≡ level next list
  pub counts : count ≡ length list
  pub most : count ≤ nodes * 4294967296
  pub stored : after ≡ sets out 0 list

abbrev pub Lists : Result ℕ Failure → List ℕ → List ℕ → List ℕ → ℕ → Level → Type 0
Lists (Ok count) next out after nodes s = Added s next count nodes out after
Lists (Err why) next out after nodes s = s ≡ broken why

-- the walk w ends with this peak and a list of `count` targets, which the output holds from the first place on,
-- as far as that goes
pub record Finds (w : Walked) (count peak : ℕ) (out after : List ℕ) : Type 0 where
  pub list : List ℕ
  pub is : w ≡ found list peak
  pub counts : count ≡ length list
  pub stored : after ≡ sets out 0 list

abbrev pub Ends : Result TableMatch Failure → List ℕ → List ℕ → Walked → Type 0
Ends (Ok m) out after w = Finds w m.count m.peak out after
Ends (Err why) out after w = w ≡ failed why

-- the walk w does not pass its limit, and the match answers r
pub record Answers (r : Result TableMatch MatchError) (out after : List ℕ) (w : Walked) : Type 0 where
  pub fits : w ≡ failed Wide → ⊥
  pub says : outcome (match_answer r) after ≡ written w out

-- what a match within a limit says, where its walk is w: an answer; or that a frontier would pass the limit, and the
-- output is as it was
abbrev pub Tries : Result (Option TableMatch) MatchError → List ℕ → List ℕ → Walked → Type 0
Tries (Ok (Some m)) out after w = Answers (Ok m) out after w
Tries (Ok None) out after w = (w ≡ failed Wide) × (after ≡ out)
Tries (Err e) out after w = Answers (Err e) out after w
