-- What our calls answer is what the original's give, wherever no added refusal applies.
--
--   insert-same-refusal    a text that `insert` refuses: its refusal
--   insert-same-entry      one that it accepts: kept behind the others; we then answer 10, 11 or the counts
--   build-same             entries that 10, 12, 14, 15 do not meet, their texts UTF-8 of at most 4,096 bytes: the original's table, its lists, or its refusal (13, 16)
--   match_same-refusal     a text that `parse_literal` refuses: its refusal, over any table
use Prim.Native.Nat.{ℕ, ◌/◌, ◌≤◌, ◌<◌}
use native.Mathlib.Omega.{arith}
use native.Mathlib.Decide.{dec_lt}
use mathlib.Core.Path.{◌≡◌, refl, sym, ◌∙◌, ap, subst}
use mathlib.Core.Bool.{true, false}
use mathlib.Core.List.{List, [], ◌∷◌, map}
use mathlib.Core.Option.{Option, none, some}
use lib.Dec.{eqb, ltb}
use lib.ListN.{length, length-map}
use borrow.Author.Tests.{lt-ltb, le-ltb}
use Rattle.subject_rules.specs.Choice.{pick}
use Rattle.subject_rules.specs.Text.{tokens}
use Rattle.subject_rules.specs.Utf8.{first_bad}
use Rattle.subject_rules.specs.Fnv.{fnv}
use Rattle.subject_rules.specs.Answers.{Answer, answer, unless}
use Rattle.subject_rules.specs.Original as subject
use Rattle.subject_rules.specs.Original.{Error, validate, answer_of}
use Rattle.subject_rules.proofs.SameGrammar.{grammar_original}
use Rattle.subject_rules.proofs.SameMatching.{error-number, refusal_stands}
use Rattle.sublist_tree.specs.Lists.{All}
use Rattle.sublist_tree.specs.Tree.{walk, peak, worst}
use Rattle.sublist_tree.specs.Table.{entry_line, Accepted}
use Rattle.sublist_tree.proofs.Hash.{hash_fork}
use Rattle.sublist_walk_rules.specs.Walk.{found, walk_over}
use Rattle.subject_rules.specs.Outputs.{Outcome, outcome, if_parsed}
use Rattle.sublist_walk_rules.specs.Matching.{counts_fit, written, match_table}
use Rattle.sublist_walk_rules.proofs.Held.{match_holds}
use Rattle.sublist_entries.specs.declared.Entry.{Entry}
use Rattle.sublist_entries.specs.declared.ListState.{ListState}
use Rattle.sublist_entries.specs.Entries.{text_of, read_from, lines_of}
use Rattle.sublist_entries.specs.Inserting.{entries_full, text_full, with_pattern, list_numbers, insert_says}
use Rattle.sublist_rules.specs.Building.{bad_entries, needed, worst_of, build_says}
use Rattle.sublist_rules.specs.Leaving.{build_leaves, BuildOutcome, build_into}
use Rattle.sublist_rules.specs.Passes.{node_words_in, target_words_in}
use Rattle.sublist_rules.proofs.Composed.{lines_length, all_accepted}
use Rattle.sublist_rules.proofs.Builds.{Taken, build_stands}
use Rattle.sublist_original.specs.Original.{Ok, Err, Panic, SublistError, InvalidPattern, ForkLimitExceeded, Std, SublistBuilder, new, push, insert, insert_all, Sublist, build, node_count, match_into}
use Rattle.sublist_original.specs.Original as original
use Rattle.sublist_original.specs.Entries.{pairs, builder_of}
use Rattle.sublist_original.specs.Same.{SameMatch, Plain, SameTable, SameBuild}
use Rattle.sublist_original.proofs.Refusing.{Inside, first-bad, refused-build}
use Rattle.sublist_original.proofs.Accepting.{insert_accepts}
use Rattle.sublist_original.proofs.SameTable.{build-refused, build-accepted, match_original}

-- ---- the list

insert_parses : (builder : SublistBuilder ℕ) (pattern : List ℕ) (target : ℕ) (e : Error) → insert builder pattern target ≡ subject.Err e → validate pattern true ≡ subject.Err e
insert_parses builder pattern target e q = go (validate pattern true) q
  where
    next : SublistBuilder ℕ
    next = record { entries = push builder.entries (pattern, target) }

    go : (r : subject.Result ℕ) → subject.◌>>=◌ r (λ depth. subject.Ok next) ≡ subject.Err e → r ≡ subject.Err e
    go (subject.Ok n) q = absurd (cc)
    go (subject.Err f) q = cc

insert_keeps : (builder : SublistBuilder ℕ) (pattern : List ℕ) (target : ℕ) (after : SublistBuilder ℕ) → insert builder pattern target ≡ subject.Ok after
    → (n : ℕ) × (validate pattern true ≡ subject.Ok n) × (after.entries ≡ push builder.entries (pattern, target))
insert_keeps builder pattern target after q = go (validate pattern true) refl q
  where
    next : SublistBuilder ℕ
    next = record { entries = push builder.entries (pattern, target) }

    go : (r : subject.Result ℕ) → validate pattern true ≡ r → subject.◌>>=◌ r (λ depth. subject.Ok next) ≡ subject.Ok after
        → (n : ℕ) × (validate pattern true ≡ subject.Ok n) × (after.entries ≡ push builder.entries (pattern, target))
    go (subject.Ok n) v q = let same : next ≡ after = cc in (n, v, ap (λ (b : SublistBuilder ℕ). b.entries) (sym same))
    go (subject.Err f) v q = absurd (cc)

-- a text that is UTF-8 of at most 4,096 bytes, and any list
module _ (pattern : List ℕ) (short : length pattern ≤ 4096) (utf8 : first_bad pattern ≡ none) (list : ListState) (places bytes : ℕ) (builder : SublistBuilder ℕ) (target : ℕ) where
  pub insert-same-refusal : (e : Error) → insert builder pattern target ≡ subject.Err e → insert_says list places bytes pattern ≡ answer_of (subject.Err e)
  unfolding insert_says
  insert-same-refusal e q = rw (grammar_original true pattern short utf8, insert_parses builder pattern target e q) (refusal_stands e _)

  pub insert-same-entry : (after : SublistBuilder ℕ) → insert builder pattern target ≡ subject.Ok after
      → (after.entries ≡ push builder.entries (pattern, target))
      × (insert_says list places bytes pattern
      ≡ unless (entries_full list places) (unless (text_full list bytes (length pattern)) (answer 0 (list_numbers (with_pattern list (length pattern))))))
  unfolding insert_says
  insert-same-entry after q = let w = insert_keeps builder pattern target after q in (w.2, rw (grammar_original true pattern short utf8, w.1))

-- ---- the walk

-- a refused subject, over any table
refusal-first : (e : Error) (out : List ℕ) (after : Outcome) → if_parsed (answer_of (subject.Err e)) out after ≡ outcome (answer_of (subject.Err e)) out
refusal-first e out after = rw (error-number e).2

pub match_same-refusal : (n m : ℕ) (a ts text out : List ℕ) → length text ≤ 4096 → first_bad text ≡ none → (e : Error) → validate text false ≡ subject.Err e
    → match_table n m a ts text out ≡ outcome (answer_of (subject.Err e)) out
unfolding match_table
match_same-refusal n m a ts text out short utf8 e parsed =
    rw (grammar_original false text short utf8, parsed)
    (refusal-first e out (pick (counts_fit n m a ts) (written (walk_over 1024 a n m ts (map fnv (tokens text))) out) (outcome (answer 19 []) out)))

-- ---- the table

-- entries that 10, 12 and 13 do not meet
module _ (std : Std) (es : List Entry) (store : List ℕ) (few : length es ≤ 2048) (sound : bad_entries store 0 es ≡ none) where
  accepted : All Accepted (read_from store es)
  accepted = all_accepted es store few sound

  -- the original's `insert` takes the entries as read
  pub entries-inserted : insert_all new (pairs (read_from store es)) ≡ subject.Ok (builder_of (read_from store es))
  entries-inserted = insert_accepts (read_from store es) accepted

  as_many : length (read_from store es) ≤ 2048
  as_many = omega (arith, lines_length store es, length-map (read_from store es) (entry_line fnv))

  worst-is : worst_of store es ≡ worst eqb 32 (lines_of store es)
  unfolding worst_of
  worst-is = refl

  module _ (generation : ℕ) where
    -- what holds of what `build` gives, which is a table or one refusal
    abbrev Given : original.Outcome (Sublist ℕ) → Type 0
    Given (Ok table) = (worst_of store es ≤ 1024) × (node_count table ≡ needed store es) × (table.generation ≡ generation)
    Given (Err (ForkLimitExceeded worst_case limit)) = (1024 < worst_of store es) × (worst_case ≡ worst_of store es) × (limit ≡ 1024)
    Given (Err (InvalidPattern e)) = ⊥
    Given Panic = ⊥

    given : Given (build std (builder_of (read_from store es)) generation)
    unfolding worst_of needed
    given = go (dec_lt 1024 (worst eqb 32 (lines_of store es)))
      where
        go : Dec (1024 < worst eqb 32 (lines_of store es)) → Given (build std (builder_of (read_from store es)) generation)
        go (yes over) = rw (build-refused std (read_from store es) as_many (builder_of (read_from store es)) entries-inserted generation over) (over, refl, refl)
        go (no under) =
            let e = build-accepted std (read_from store es) as_many (builder_of (read_from store es)) entries-inserted generation (omega arith) in
            rw e.1 (omega arith, e.2, e.3)

    of_made : (m : original.Outcome (Sublist ℕ)) → build std (builder_of (read_from store es)) generation ≡ m → Given m
    of_made m made = rw (← made) given

    -- 14 and 15 do not meet the entries either
    module _ (room places : ℕ) (fits : needed store es ≤ room) (wide : length es ≤ places) where
      says : build_says es store room places generation
          ≡ pick (ltb 1024 (worst_of store es)) (answer 16 (worst_of store es ∷ 1024 ∷ [])) (answer 0 (needed store es ∷ worst_of store es ∷ generation ∷ []))
      unfolding build_says
      says = rw (le-ltb 2048 (length es) few, sound, le-ltb room (needed store es) fits, le-ltb places (length es) wide)

      same-refusal : (worst_case limit : ℕ) → build std (builder_of (read_from store es)) generation ≡ Err (ForkLimitExceeded worst_case limit)
          → build_says es store room places generation ≡ answer 16 (worst_case ∷ limit ∷ [])
      same-refusal worst_case limit made =
          let w = of_made (Err (ForkLimitExceeded worst_case limit)) made in
          rw (says, lt-ltb 1024 (worst_of store es) w.0, w.1, w.2)

      same-says : (table : Sublist ℕ) → build std (builder_of (read_from store es)) generation ≡ Ok table
          → build_says es store room places generation ≡ answer 0 (node_count table ∷ worst_of store es ∷ table.generation ∷ [])
      same-says table made =
          let w = of_made (Ok table) made in
          rw (says, le-ltb 1024 (worst_of store es) w.0, w.1, w.2)

    fork_refused : (a ts : List ℕ) → needed store es ≤ length a / 16 → length es ≤ length ts → (worst_case limit : ℕ)
        → build std (builder_of (read_from store es)) generation ≡ Err (ForkLimitExceeded worst_case limit) → (build_into es store a ts generation).says ≡ answer 16 (worst_case ∷ limit ∷ [])
    unfolding build_into
    fork_refused a ts fits wide worst_case limit made = same-refusal (length a / 16) (length ts) fits wide worst_case limit made

    -- ---- the walk, over what our build leaves in areas that hold the table

    module _ (a ts : List ℕ) (fits : needed store es ≤ length a / 16) (wide : length es ≤ length ts) (table : Sublist ℕ) (made : build std (builder_of (read_from store es)) generation ≡ Ok table) where
      abbrev theirs : List ℕ → List ℕ
      theirs text = walk eqb (map fnv (tokens text)) (lines_of store es ∷ [])

      abbrev found_in : List ℕ → List ℕ → Outcome
      found_in text out = match_table (needed store es) (length es) (node_words_in (build_leaves es store a ts)) (target_words_in (build_leaves es store a ts)) text out

      same-list : (text out : List ℕ) → Plain text → (n : ℕ) → validate text false ≡ subject.Ok n
          → found_in text out ≡ written (found (theirs text) (peak eqb (map fnv (tokens text)) (lines_of store es ∷ []))) out
      same-list text out plain n parsed =
          let w = of_made (Ok table) made in
          let t : Taken es store (length a / 16) (length ts) = record { few = few; sound = sound; fits = fits; wide = wide; fork = w.0 } in
          let narrow : peak eqb (map fnv (tokens text)) (lines_of store es ∷ []) ≤ 1024 = omega (arith, hash_fork (map fnv (tokens text)) (read_from store es) accepted, worst-is, w.0) in
          match_holds (node_words_in (build_leaves es store a ts)) (needed store es) (length es) (target_words_in (build_leaves es store a ts)) (lines_of store es) (build_stands es store a ts t) text out narrow
          ∙ rw (grammar_original false text plain.0 plain.1, parsed)

      same_match : (text out : List ℕ) → Plain text → SameMatch (validate text false) (match_into std table text []) out (found_in text out)
      same_match text out plain = go (validate text false) refl
        where
          go : (v : subject.Result ℕ) → validate text false ≡ v → SameMatch v (match_into std table text []) out (found_in text out)
          go (subject.Err e) q = match_same-refusal (needed store es) (length es) (node_words_in (build_leaves es store a ts)) (target_words_in (build_leaves es store a ts)) text out plain.0 plain.1 e q
          go (subject.Ok n) q =
              subst (λ m. SameMatch (subject.Ok n) m out (found_in text out))
              (sym (match_original std (read_from store es) as_many (builder_of (read_from store es)) entries-inserted generation table made text []))
              (peak eqb (map fnv (tokens text)) (lines_of store es ∷ []), same-list text out plain n q)

      same-table : SameTable std table (length es) (build_into es store a ts generation)
      unfolding build_into
      same-table = record {
        worst_case = worst_of store es;
        says = same-says (length a / 16) (length ts) fits wide table made;
        finds = λ text out plain. rw (of_made (Ok table) made).1 (same_match text out plain);
      }

first-refused : (es : List Entry) (store a ts : List ℕ) (generation : ℕ) → length es ≤ 2048 → (r : Answer) → bad_entries store 0 es ≡ some r → (build_into es store a ts generation).says ≡ r
unfolding build_into build_says
first-refused es store a ts generation few r q = rw (le-ltb 2048 (length es) few, q)

-- entries that 10 and 12 do not meet, their texts UTF-8 of at most 4,096 bytes, in areas that hold the table (14, 15)
pub build-same : (std : Std) (es : List Entry) (store : List ℕ) → length es ≤ 2048 → All (Inside store) es → All (λ e. Plain (text_of store e)) es
    → (a ts : List ℕ) (generation : ℕ) → needed store es ≤ length a / 16 → length es ≤ length ts
    → SameBuild std (build std (builder_of (read_from store es)) generation) (length es) (build_into es store a ts generation)
build-same std es store few inside plain a ts generation fits wide = go (bad_entries store 0 es) refl
  where
    o : BuildOutcome
    o = build_into es store a ts generation

    sound-build : bad_entries store 0 es ≡ none → (m : original.Outcome (Sublist ℕ)) → build std (builder_of (read_from store es)) generation ≡ m → SameBuild std m (length es) o
    sound-build q (Ok table) made = same-table std es store few q generation a ts fits wide table made
    sound-build q (Err (InvalidPattern e)) made = absurd (of_made std es store few q generation (Err (InvalidPattern e)) made)
    sound-build q (Err (ForkLimitExceeded worst limit)) made = fork_refused std es store few q generation a ts fits wide worst limit made
    sound-build q Panic made = of_made std es store few q generation Panic made

    go : (b : Option Answer) → bad_entries store 0 es ≡ b → SameBuild std (build std (builder_of (read_from store es)) generation) (length es) o
    go none q = sound-build q (build std (builder_of (read_from store es)) generation) refl
    go (some r) q =
        let k = first-bad store 0 es inside plain r q in
        subst (λ m. SameBuild std m (length es) o) (sym (refused-build std store es r k few generation)) (first-refused es store a ts generation few r q ∙ k.holds)
