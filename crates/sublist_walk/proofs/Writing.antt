-- What the walks of a match, the counts and the subject's parse make of the call's outcome.
use Rattle.std.proofs.Common.{◌≡◌, ℕ, ◌*◌, ◌≤◌, ◌<◌, Bool, true, false, eqb, ltb, leb, List, [], ◌∷◌, map, length, take, drop, replicate, Result, Ok, Err, refl, sym, ap, ◌∙◌, arith, lt-ltb, le-ltb, leb-true}
use Rattle.std.proofs.Math.Option.{none}
use Rattle.std.proofs.lemmas.List.{length-replicate}
use lib.Seq.{sets, take-append_seam}
use Rattle.subject_rules.specs.Choice.{pick, and}
use Rattle.subject_rules.specs.Text.{tokens}
use Rattle.subject_rules.specs.Fnv.{fnv}
use Rattle.subject_rules.specs.Utf8.{first_bad}
use Rattle.subject_rules.specs.Answers.{Answer, answer, unless}
use Rattle.subject_rules.specs.Outputs.{outcome}
use Rattle.subject_rules.specs.Grammar.{check, not_utf8, grammar}
use Rattle.subject_rules.proofs.Stores.{sets_over}
use Rattle.subject.specs.declared.SubjectError.{SubjectError}
use Rattle.subject.specs.Answers.{refusal, parsed}
use Rattle.subject.proofs.Refusals.{refused_stands, refused_leaves}
use Rattle.sublist_walk_rules.specs.declared.Failure.{Failure}
use Rattle.sublist_walk_rules.specs.declared.Failure.TheVariants.{Wide}
use Rattle.sublist_walk_rules.specs.Walk.{Walked, found, failed, walk_over}
use Rattle.sublist_walk_rules.specs.Matching.{counts_fit, written, match_table, match_parsed}
use Rattle.sublist_walk_rules.proofs.Narrow.{narrow}
use Rattle.sublist_walk.proofs.Cuts.{walk_cut}
use Rattle.sublist_walk.specs.declared.TableMatch.{TableMatch}
use Rattle.sublist_walk.specs.Told.{Finds, Ends, Answers}

-- a list no longer than the output
pub written_found : (l : List ℕ) (peak : ℕ) (out : List ℕ) → length l ≤ length out → written (found l peak) out ≡ outcome (answer 0 (length l ∷ peak ∷ [])) (sets out 0 l)
written_found l peak out h = rw (le-ltb (length out) (length l) h, sets_over l out h)

-- what a walk wrote over a list of zeros
pub front_written : (l : List ℕ) (size : ℕ) → length l ≤ size → take (length l) (sets (replicate size 0) 0 l) ≡ l
front_written l size h = rw (sets_over l (replicate size 0) (omega (arith, length-replicate {A = ℕ}))) (take-append_seam l (drop (length l) (replicate size 0)))

-- written by a second walk, or copied from where the first wrote it
pub again : (w : Walked) (m : TableMatch) (before list : List ℕ) → Finds w m.count m.peak before list → (out : List ℕ) → m.count ≤ length out → (after : List ℕ)
    → (r : Result TableMatch Failure) → Ends r out after w → Answers (Ok m) out after w
again w m before list f out h after (Ok x) g = let same : g.list ≡ f.list = cc (f.is, g.is) in record {
  fits = λ q. let d = f.is in grind arith;
  says = rw (f.is, written_found f.list m.peak out (rw f.counts at h), f.counts, ← same, g.stored);
}
again w m before list f out h after (Err why) g = let d = f.is in cc

pub ruleset listings = (again, written_found, front_written)

-- counts that fit
counts_targets : (n m : ℕ) (a ts : List ℕ) → true ≡ counts_fit n m a ts → m ≤ length ts
counts_targets n m a ts e = go (ltb 0 n) (leb (n * 16) (length a)) e
  where
    go : (x y : Bool) → true ≡ and x (and y (leb m (length ts))) → m ≤ length ts
    go true true t = leb-true m (length ts) (sym t)
    go true false t = cc
    go false y t = cc

-- the stages of a match for a subject that was parsed, of a table by its counts and words
module _ (n m : ℕ) (a ts subject out : List ℕ) where
  pub parsed_long : 4096 < length subject → outcome (answer 1 []) out ≡ match_parsed n m a ts subject out
  unfolding match_parsed
  parsed_long h = rw (lt-ltb 4096 (length subject) h)

  module _ (short : length subject ≤ 4096) where
    pub parsed_outside : false ≡ counts_fit n m a ts → outcome (answer 19 []) out ≡ match_parsed n m a ts subject out
    unfolding match_parsed
    parsed_outside e = rw (le-ltb 4096 (length subject) short, ← e)

    module _ (counted : true ≡ counts_fit n m a ts) where
      -- the walk over the targets that the table counts
      abbrev walked : ℕ → Walked
      walked k = walk_over k a n (length (take m ts)) (take m ts) (map fnv (tokens subject))

      walked_whole : (k : ℕ) → walked k ≡ walk_over k a n m ts (map fnv (tokens subject))
      walked_whole k = walk_cut k a n m ts (map fnv (tokens subject)) (counts_targets n m a ts counted)

      -- the widest frontiers
      pub by_wide : match_parsed n m a ts subject out ≡ written (walked 1024) out
      unfolding match_parsed
      by_wide = rw (le-ltb 4096 (length subject) short, ← counted) (ap (λ w. written w out) (sym (walked_whole 1024)))

      -- narrow frontiers, none of which would pass the limit
      pub by_narrow : (walked 32 ≡ failed Wide → ⊥) → match_parsed n m a ts subject out ≡ written (walked 32) out
      by_narrow fits =
          by_wide
          ∙ ap (λ w. written w out) (narrow 32 1024 (omega arith) a n (length (take m ts)) (take m ts) (map fnv (tokens subject)) fits)

pub ruleset stages = (parsed_long, parsed_outside, by_wide, by_narrow)

-- 1 does not apply to an accepted text
accepted-short : (subject values : List ℕ) → grammar false subject ≡ answer 0 values → ltb 4096 (length subject) ≡ false
unfolding grammar
accepted-short subject values e = go (ltb 4096 (length subject)) e
  where
    go : (b : Bool)
        → pick b (answer 1 []) (unless (not_utf8 (first_bad subject)) (pick (eqb (length subject) 0) (answer 3 []) (check false none 0 (tokens subject))))
        ≡ answer 0 values → b ≡ false
    go true f = cc
    go false f = refl

-- for an accepted subject it is the match
pub parsed-same : (n m : ℕ) (a ts subject out values : List ℕ) → grammar false subject ≡ answer 0 values
    → match_parsed n m a ts subject out ≡ match_table n m a ts subject out
unfolding match_parsed match_table
parsed-same n m a ts subject out values e = rw (accepted-short subject values e, e)

abbrev pub values_of : Answer → List ℕ
values_of (answer n values) = values

pub table_accepted : (n m : ℕ) (a ts subject out : List ℕ) → grammar false subject ≡ answer 0 (values_of (grammar false subject))
    → match_parsed n m a ts subject out ≡ match_table n m a ts subject out
table_accepted n m a ts subject out e = parsed-same n m a ts subject out _ e

module _ (n m : ℕ) (a ts subject out : List ℕ) (text : Result ℕ SubjectError) (p : parsed text ≡ grammar false subject) where
  pub table_refused : (e : SubjectError) → text ≡ Err e → outcome (refusal e) out ≡ match_table n m a ts subject out
  unfolding match_table
  table_refused e t = rw (← p) (refused_leaves text e t (refusal e) (refusal e) (refused_stands text e (refusal e) t) out _)
