-- Demand 1, its second sentence: "A refused call changes no state and, but for a refused build's nodes, no lent area."
-- And what an accepted call writes to its output: "A hit leaves the output untouched; a walk writes only the list's
-- places, from the first".
-- All of it of any states and areas, whatever they hold.
use Rattle.std.specs.Prelude.{ℕ, suc, ◌≡◌, ◌⊎◌, List, [], ◌++◌, length, drop}
use Rattle.subject_rules.specs.Answers.{Answer, answer}
use Rattle.sublist_entries.specs.declared.Entry.{Entry}
use Rattle.sublist_entries.specs.declared.ListState.{ListState}
use Rattle.sublist_entries.specs.Inserting.{insert_into}
use Rattle.sublist_rules.specs.Passes.{target_words_in}
use Rattle.sublist_rules.specs.Leaving.{build_into}
use Rattle.sublist_snapshot.specs.Snapshot.{Table, make, match_in}
use Rattle.binding.specs.declared.Resolution.{Resolution}
use Rattle.binding.specs.Verdict.{output_of, resolve_single_home}
use Rattle.binding.specs.Calls.{Call, store, clearing, asking, resolving, asking_home, resolving_home}
use Rattle.binding.specs.Calls.{refused, matched, resolved, Cabinet, resolve_in, home_in, reply, after}

-- the output that a call was lent, and as it left it; a store and a clear are lent none
abbrev pub output_lent : Call → List ℕ
output_lent (store t es) = []
output_lent (clearing i) = []
output_lent (asking subject out) = out
output_lent (resolving i subject out) = out
output_lent (asking_home subject out) = out
output_lent (resolving_home i subject out) = out

abbrev pub output_left : Cabinet → Call → List ℕ
output_left b (store t es) = []
output_left b (clearing i) = []
output_left b (asking subject out) = output_of (match_in b.snapshot b.words subject out)
output_left b (resolving i subject out) = (resolve_in b i subject out).out
output_left b (asking_home subject out) = (resolve_single_home b.snapshot b.words subject out).out
output_left b (resolving_home i subject out) = (home_in b i subject out).out

-- the same snapshot and area, and the same caches with theirs
pub record Unmoved (b then' : Cabinet) : Type 0 where
  pub snapshot : then'.snapshot ≡ b.snapshot
  pub words : then'.words ≡ b.words
  pub caches : (i : ℕ) → then'.caches i ≡ b.caches i

abbrev pub RefusedStays : Cabinet → Call → Type 0
RefusedStays b c = (r : Answer) → reply b c ≡ refused r → Unmoved b (after b c) × (output_left b c ≡ output_lent c)

-- a match, and a resolve that walks, write their list over the first places of the output; a hit leaves it; the two
-- that feed `single_home` do as the match and the resolve
abbrev pub ListWritten : Cabinet → Call → Type 0
ListWritten b (store t es) = Unit {0}
ListWritten b (clearing i) = Unit {0}
ListWritten b (asking subject out) =
    (list : List ℕ) (verdict : Resolution) (peak generation : ℕ)
    → reply b (asking subject out) ≡ matched list verdict peak generation
    → output_left b (asking subject out) ≡ list ++ drop (length list) out
ListWritten b (resolving i subject out) =
    (list : List ℕ) (verdict : Resolution) → reply b (resolving i subject out) ≡ resolved list verdict
    → (output_left b (resolving i subject out) ≡ out)
    ⊎ (output_left b (resolving i subject out) ≡ list ++ drop (length list) out)
ListWritten b (asking_home subject out) = output_left b (asking_home subject out) ≡ output_left b (asking subject out)
ListWritten b (resolving_home i subject out) =
    output_left b (resolving_home i subject out) ≡ output_left b (resolving i subject out)

pub record Demand1 : Type 0 where
  pub calls : (b : Cabinet) (c : Call) → RefusedStays b c
  pub outputs : (b : Cabinet) (c : Call) → ListWritten b c
  pub making :
      (t : Table) (area : List ℕ) (n : ℕ) (values : List ℕ)
      → (make t area).says ≡ answer (suc n) values → (make t area).area ≡ area
  pub insert :
      (list : ListState) (es : List Entry) (texts pattern : List ℕ) (target n : ℕ) (values : List ℕ)
      → (insert_into list es texts pattern target).says ≡ answer (suc n) values
      → ((insert_into list es texts pattern target).list ≡ es)
      × ((insert_into list es texts pattern target).store ≡ texts)
  -- a refused build leaves the target words; its nodes are free
  pub build :
      (es : List Entry) (texts node_words target_words : List ℕ) (generation n : ℕ) (values : List ℕ)
      → (build_into es texts node_words target_words generation).says ≡ answer (suc n) values
      → target_words_in (build_into es texts node_words target_words generation).areas ≡ target_words
