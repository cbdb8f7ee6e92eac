-- The standing table of a snapshot whose area holds a tree: its walk and its match are the tree's.
use Rattle.std.proofs.Common.{◌≡◌, ℕ, zero, suc, ◌+◌, ◌-◌, ◌*◌, ◌≤◌, min, Bool, true, false, eqb, ltb, leb, List, [], ◌∷◌, map, length, drop, refl, ap, ◌∙◌, arith, length-drop, length-take, lt-ltb, le-leb, leb-false, leb-true}
use borrow.Author.Tests.{lt-leb}
use Rattle.subject_rules.specs.Choice.{pick, and}
use Rattle.subject_rules.specs.Text.{tokens}
use Rattle.subject_rules.specs.Fnv.{fnv}
use Rattle.subject_rules.specs.Answers.{Answer, answer}
use Rattle.subject_rules.specs.Grammar.{grammar}
use Rattle.sublist_tree.specs.Tree.{Line, walk, peak}
use Rattle.sublist_walk_rules.specs.Walk.{found}
use Rattle.subject_rules.specs.Outputs.{over, outcome, if_parsed}
use Rattle.sublist_walk_rules.specs.Matching.{counts_fit, written, match_table}
use Rattle.sublist_walk_rules.proofs.Frontiers.{walk-holds}
use Rattle.sublist_walk_rules.proofs.Held.{hashes_fit}
use Rattle.sublist_snapshot.specs.declared.Snapshot.{Snapshot}
use Rattle.sublist_snapshot.specs.Snapshot.{nodes_in, targets_in, stands_in, walk_of, with_generation, match_in}
use Rattle.sublist_snapshot.proofs.Copies.{HoldsIn}

-- a snapshot's counts exceed the two parts of its area exactly if they exceed the area
pub counts_stand : (s : Snapshot) (area : List ℕ) → counts_fit s.nodes s.targets (nodes_in s.nodes area) (targets_in s.nodes s.targets area) ≡ stands_in s area
counts_stand s area = ap (and (ltb 0 s.nodes)) (go (leb (s.nodes * 16 + s.targets) (length area)) refl)
  where
    front : length (nodes_in s.nodes area) ≡ min (s.nodes * 16) (length area)
    front = length-take (s.nodes * 16) area

    behind : length (targets_in s.nodes s.targets area) ≡ min s.targets (length area - s.nodes * 16)
    behind = length-take s.targets (drop (s.nodes * 16) area) ∙ ap (min s.targets) (length-drop (s.nodes * 16) area)

    go : (b : Bool) → leb (s.nodes * 16 + s.targets) (length area) ≡ b
        → and (leb (s.nodes * 16) (length (nodes_in s.nodes area))) (leb s.targets (length (targets_in s.nodes s.targets area))) ≡ b
    go true e =
        let h = leb-true (s.nodes * 16 + s.targets) (length area) e in
        rw (le-leb (s.nodes * 16) (length (nodes_in s.nodes area)) (omega (arith, front)), le-leb s.targets (length (targets_in s.nodes s.targets area)) (omega (arith, behind)))
    go false e = ends (leb (s.nodes * 16) (length (nodes_in s.nodes area))) refl
      where
        ends : (d : Bool) → leb (s.nodes * 16) (length (nodes_in s.nodes area)) ≡ d → and d (leb s.targets (length (targets_in s.nodes s.targets area))) ≡ false
        ends false f = refl
        ends true f =
            let h = leb-false (s.nodes * 16 + s.targets) (length area) e in
            let k = leb-true (s.nodes * 16) (length (nodes_in s.nodes area)) f in
            lt-leb s.targets (length (targets_in s.nodes s.targets area)) (omega (arith, front, behind))

-- a match through the snapshot: 1 to 9, 19 on the counts, then what the walk ends with
pub match_walk : (s : Snapshot) (area subject out : List ℕ) → match_in s area subject out
    ≡ with_generation s.generation (if_parsed (grammar false subject) out (pick (stands_in s area) (written (walk_of s area subject) out) (outcome (answer 19 []) out)))
unfolding match_in match_table
match_walk s area subject out =
    ap (λ b. with_generation s.generation (if_parsed (grammar false subject) out (pick b (written (walk_of s area subject) out) (outcome (answer 19 []) out)))) (counts_stand s area)

module _ (s : Snapshot) (area : List ℕ) (ls : List (Line ℕ)) (H : HoldsIn s area ls) where
  -- 19 on the counts does not apply
  pub holds_stands : stands_in s area ≡ true
  holds_stands =
      rw (
        lt-ltb 0 s.nodes H.rooted,
        le-leb (s.nodes * 16 + s.targets) (length area)
            (omega (arith, H.nodes_fit, H.targets_fit, H.rooted, length-take (s.nodes * 16) area, length-take s.targets (drop (s.nodes * 16) area), length-drop (s.nodes * 16) area)),
      )

  -- the walk ends with the tree's list and peak
  pub holds-walk : (subject : List ℕ) → peak eqb (map fnv (tokens subject)) (ls ∷ []) ≤ 1024
      → walk_of s area subject ≡ found (walk eqb (map fnv (tokens subject)) (ls ∷ [])) (peak eqb (map fnv (tokens subject)) (ls ∷ []))
  holds-walk subject low =
      walk-holds 1024 (nodes_in s.nodes area) s.nodes s.targets (targets_in s.nodes s.targets area) ls H (map fnv (tokens subject)) (hashes_fit (tokens subject)) low

  -- a match is refused by 1 to 9 and by 21 alone, and gives the tree's list and peak and the generation
  pub holds_match : (subject out : List ℕ) → peak eqb (map fnv (tokens subject)) (ls ∷ []) ≤ 1024
      → match_in s area subject out ≡ if_parsed (grammar false subject) out
      (pick (ltb (length out) (length (walk eqb (map fnv (tokens subject)) (ls ∷ []))))
      (outcome (answer 21 (length (walk eqb (map fnv (tokens subject)) (ls ∷ [])) ∷ [])) out)
      (outcome (answer 0 (length (walk eqb (map fnv (tokens subject)) (ls ∷ [])) ∷ peak eqb (map fnv (tokens subject)) (ls ∷ []) ∷ s.generation.0 ∷ [])) (over (walk eqb (map fnv (tokens subject)) (ls ∷ [])) out)))
  holds_match subject out low =
      match_walk s area subject out
      ∙ rw (holds_stands, holds-walk subject low)
      (push (grammar false subject) (ltb (length out) (length (walk eqb (map fnv (tokens subject)) (ls ∷ [])))) (walk eqb (map fnv (tokens subject)) (ls ∷ [])) (peak eqb (map fnv (tokens subject)) (ls ∷ [])))
    where
      push : (o : Answer) (b : Bool) (list : List ℕ) (top : ℕ)
          → with_generation s.generation (if_parsed o out (pick b (outcome (answer 21 (length list ∷ [])) out) (outcome (answer 0 (length list ∷ top ∷ [])) (over list out))))
          ≡ if_parsed o out (pick b (outcome (answer 21 (length list ∷ [])) out) (outcome (answer 0 (length list ∷ top ∷ s.generation.0 ∷ [])) (over list out)))
      push (answer (suc k) values) b list top = refl
      push (answer zero values) true list top = refl
      push (answer zero values) false list top = refl
