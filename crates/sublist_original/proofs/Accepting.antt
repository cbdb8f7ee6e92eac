-- The original's `insert` accepts the entries that we accept: ours are accepted by it, and those that it accepts by us where the text is UTF-8 of at most 4,096 bytes.
use Prim.Native.Nat.{ℕ, ◌≤◌}
use mathlib.Core.Path.{◌≡◌, refl, sym, ◌∙◌, ap}
use mathlib.Core.Bool.{Bool, true}
use mathlib.Core.List.{List, [], ◌∷◌, ◌++◌, append-nil, append_assoc}
use mathlib.Core.Option.{none}
use lib.ListN.{length}
use Rattle.subject_rules.specs.Utf8.{first_bad}
use Rattle.subject_rules.specs.Answers.{answer}
use Rattle.subject_rules.specs.Grammar.{grammar}
use Rattle.subject_rules.specs.Original as subject
use Rattle.subject_rules.specs.Original.{validate, answer_of}
use Rattle.subject_rules.proofs.Depths.{passed}
use Rattle.subject_rules.proofs.SameGrammar.{grammar_original}
use Rattle.subject_rules.proofs.SameMatching.{error-number}
use Rattle.sublist_tree.specs.Lists.{All}
use Rattle.sublist_tree.specs.Table.{TableEntry, Accepted}
use Rattle.sublist_original.specs.Original.{SublistBuilder, new, push, insert_all}
use Rattle.sublist_original.specs.Entries.{pair, pairs, builder_of}
use Rattle.sublist_original.proofs.Entering.{Valid}

-- an accepted text is UTF-8 of at most 4,096 bytes
pub accepted-fits : (wild : Bool) (bs vs : List ℕ) → grammar wild bs ≡ answer 0 vs → (length bs ≤ 4096) × (first_bad bs ≡ none)
accepted-fits wild bs vs e = let p = passed wild bs vs e in (p.short, p.utf8)

-- and the original accepts it, with the same count
pub accepted_original : (wild : Bool) (bs : List ℕ) (n : ℕ) → grammar wild bs ≡ answer 0 (n ∷ []) → validate bs wild ≡ subject.Ok n
accepted_original wild bs n e = go (validate bs wild) (sym (grammar_original wild bs (accepted-fits wild bs (n ∷ []) e).0 (accepted-fits wild bs (n ∷ []) e).1) ∙ e)
  where
    go : (r : subject.Result ℕ) → answer_of r ≡ answer 0 (n ∷ []) → r ≡ subject.Ok n
    go (subject.Ok m) q = cc
    go (subject.Err f) q = absurd (let k = error-number f in cc)

-- ---- the list

pub valid_all : (es : List TableEntry) → All Accepted es → All Valid es
valid_all [] a = tt
valid_all (e ∷ es) a = ((a.0.0, accepted_original true e.pattern a.0.0 a.0.1), valid_all es a.1)

insert_each : (es : List TableEntry) (builder : SublistBuilder ℕ) → All Valid es → insert_all builder (pairs es) ≡ subject.Ok (record { entries = builder.entries ++ pairs es })
insert_each [] builder v = rw (append-nil builder.entries)
insert_each (e ∷ es) builder v =
    rw v.0.1 (insert_each es (record { entries = push builder.entries (pair e) }) v.1 ∙ rw (append_assoc builder.entries (pair e ∷ []) (pairs es)))

-- the entries that we accept
pub insert_accepts : (es : List TableEntry) → All Accepted es → insert_all new (pairs es) ≡ subject.Ok (builder_of es)
insert_accepts es a = insert_each es new (valid_all es a)

-- each was accepted, and is kept behind those before it
pub inserted : (builder : SublistBuilder ℕ) (es : List TableEntry) (after : SublistBuilder ℕ) → insert_all builder (pairs es) ≡ subject.Ok after
    → All Valid es × (after.entries ≡ builder.entries ++ pairs es)
inserted builder [] after e = let same : builder ≡ after = cc in (tt, rw (← same) (sym (append-nil builder.entries)))
inserted builder (x ∷ es) after e = go (validate x.pattern true) refl e (inserted next es after)
  where
    next : SublistBuilder ℕ
    next = record { entries = push builder.entries (pair x) }

    go : (r : subject.Result ℕ) → validate x.pattern true ≡ r
        → subject.◌>>=◌ (subject.◌>>=◌ r (λ depth. subject.Ok next)) (λ b. insert_all b (pairs es)) ≡ subject.Ok after
        → (insert_all next (pairs es) ≡ subject.Ok after → All Valid es × (after.entries ≡ next.entries ++ pairs es))
        → All Valid (x ∷ es) × (after.entries ≡ builder.entries ++ pairs (x ∷ es))
    go (subject.Ok n) v e ih = let w = ih e in (((n, v), w.0), w.1 ∙ append_assoc builder.entries (pair x ∷ []) (pairs es))
    go (subject.Err f) v e ih = absurd (cc)

-- the entries that it accepts, their texts UTF-8 of at most 4,096 bytes
abbrev pub Fits : TableEntry → Type 0
Fits e = (length e.pattern ≤ 4096) × (first_bad e.pattern ≡ none)

pub insert-accepted : (es : List TableEntry) (builder : SublistBuilder ℕ) → All Fits es → insert_all new (pairs es) ≡ subject.Ok builder → All Accepted es
insert-accepted es builder f e = go es f (inserted new es builder e).0
  where
    go : (es : List TableEntry) → All Fits es → All Valid es → All Accepted es
    go [] f v = tt
    go (e ∷ es) f v = ((v.0.0, grammar_original true e.pattern f.0.0 f.0.1 ∙ ap answer_of v.0.1), go es f.1 v.1)
