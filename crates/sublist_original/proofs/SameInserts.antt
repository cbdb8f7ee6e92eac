-- From the first insert on: each insert of ours is answered as the original's, its builder has what our list holds, and a build of both and the matches behind it are the same.
--
--   inserts_same    any inserts from an empty list on, accepted and refused → EachInsertSame, and SameTables behind the last one
use Prim.Native.Nat.{ℕ, zero, suc, ◌+◌, ◌-◌, ◌≤◌, ◌<◌}
use native.Mathlib.Omega.{arith}
use mathlib.Core.Path.{◌≡◌, refl, sym, ◌∙◌, ap, subst}
use mathlib.Core.Bool.{Bool, true, false}
use mathlib.Core.List.{List, [], ◌∷◌, ◌++◌, map-append}
use lib.Dec.{ltb, leb}
use lib.ListN.{length, length-append, length-map}
use borrow.Author.Tests.{leb-false}
use Rattle.std.proofs.lemmas.Bool.{true≢false}
use Rattle.subject_rules.specs.Choice.{pick, or}
use Rattle.subject_rules.specs.Answers.{Answer, answer, when_accepted}
use Rattle.subject_rules.specs.Grammar.{grammar}
use Rattle.subject_rules.specs.Original as subject
use Rattle.subject_rules.specs.Original.{validate, answer_of}
use Rattle.subject_rules.proofs.SameGrammar.{grammar_original, TextKind, overlong, wrong, plain, kind_of}
use Rattle.sublist_tree.specs.Lists.{All}
use Rattle.sublist_tree.specs.Table.{TableEntry, Accepted}
use Rattle.sublist_tree.proofs.Sorting.{All-append}
use Rattle.sublist_entries.specs.declared.Entry.{Entry}
use Rattle.sublist_entries.specs.Entries.{in_use, text_of, target_word, word32, read_from}
use Rattle.sublist_entries.specs.Inserting.{after_answer}
use Rattle.sublist_entries.specs.Inserts.{Desk, empty_desk, insert_on, desk_after, held_on, bytes_of, demanded}
use Rattle.sublist_entries.proofs.Reading.{Below, Stands, says-demanded, stands_then, stands_empty}
use Rattle.sublist_rules.specs.Leaving.{build_into}
use Rattle.sublist_rules.proofs.AcceptedEntries.{not_invalid}
use Rattle.sublist_original.specs.Original.{Std, SublistBuilder, new, push, insert, build}
use Rattle.sublist_original.specs.Entries.{pair, builder_of}
use Rattle.sublist_original.specs.Same.{added_refusal, SameInsert, ComparedInsert, EachInsertSame, Plain, SameBuild, SameTables}
use Rattle.sublist_original.proofs.Accepting.{accepted-fits, accepted_original}
use Rattle.sublist_original.proofs.Refusing.{Inside}
use Rattle.sublist_original.proofs.SameAnswers.{build-same}

-- ---- what an answer says of the pattern

-- a text refused by a number that is not added is UTF-8 of at most 4,096 bytes
refused-plain : (wild : Bool) (bs : List ℕ) (n : ℕ) (values : List ℕ) → grammar wild bs ≡ answer n values → added_refusal (answer n values) ≡ false → Plain bs
refused-plain wild bs n values e f = go (kind_of wild bs)
  where
    added : (a : Answer) → grammar wild bs ≡ a → added_refusal a ≡ false
    added a g = ap added_refusal (sym g ∙ e) ∙ f

    go : TextKind wild bs → Plain bs
    go (overlong g) = absurd (true≢false (added (answer 1 []) g))
    go (wrong i g) = absurd (true≢false (added (answer 2 (i ∷ [])) g))
    go (plain s u) = (s, u)

module _ (taken : List TableEntry) (d : Desk) (e : TableEntry) where
  abbrev full : Bool
  full = or (leb 2048 (length taken)) (leb (length d.places) (length taken))

  abbrev long : Bool
  long = ltb (length d.store - bytes_of taken) (length e.pattern)

  -- what `demanded` says, by what the grammar says
  abbrev by : Answer → Bool → Bool → Answer
  by g b c = when_accepted g (pick b (answer 10 []) (pick c (answer 11 []) (answer 0 ((length taken + 1) ∷ (bytes_of taken + length e.pattern) ∷ []))))

  refused-text : (n : ℕ) (values : List ℕ) → demanded taken d e ≡ answer (suc n) values → added_refusal (answer (suc n) values) ≡ false → grammar true e.pattern ≡ answer (suc n) values
  refused-text n values q f = go (grammar true e.pattern) refl full long q
    where
      go : (g : Answer) → grammar true e.pattern ≡ g → (b c : Bool) → by g b c ≡ answer (suc n) values → grammar true e.pattern ≡ answer (suc n) values
      go (answer (suc m) us) p b c q = p ∙ q
      go (answer zero us) p true c q = let z : added_refusal (answer 10 []) ≡ false = ap added_refusal q ∙ f in absurd (cc)
      go (answer zero us) p false true q = let z : added_refusal (answer 11 []) ≡ false = ap added_refusal q ∙ f in absurd (cc)
      go (answer zero us) p false false q = absurd (cc)

  accepted-text : (values : List ℕ) → demanded taken d e ≡ answer 0 values → ((n : ℕ) × (grammar true e.pattern ≡ answer 0 (n ∷ []))) × (length taken < 2048)
  accepted-text values q = go (grammar true e.pattern) refl (leb 2048 (length taken)) refl (leb (length d.places) (length taken)) long q
    where
      go : (g : Answer) → grammar true e.pattern ≡ g → (b : Bool) → leb 2048 (length taken) ≡ b → (c h : Bool) → by g (or b c) h ≡ answer 0 values
          → ((n : ℕ) × (grammar true e.pattern ≡ answer 0 (n ∷ []))) × (length taken < 2048)
      go (answer (suc m) us) p b r c h q = absurd (cc)
      go (answer zero us) p true r c h q = absurd (cc)
      go (answer zero us) p false r c h q = (not_invalid e.pattern (rw p), leb-false 2048 (length taken) r)

-- ---- both sides

-- the builder has what our list holds, patterns all
record Beside (taken : List TableEntry) (d : Desk) (builder : SublistBuilder ℕ) : Type 0 where
  stands : Stands taken d
  same : builder ≡ builder_of taken
  patterns : All Accepted taken
  few : length taken ≤ 2048

module _ (taken : List TableEntry) (d : Desk) (builder : SublistBuilder ℕ) (j : Beside taken d builder) (e : TableEntry) where
  abbrev joined : TableEntry
  joined = record { pattern = e.pattern; target = word32 e.target }

  says_is : (a : Answer) → (insert_on d e).says ≡ a → demanded taken d e ≡ a
  says_is a q = sym (says-demanded taken d e j.stands) ∙ q

  stands_as : (a : Answer) → (insert_on d e).says ≡ a → Stands (after_answer a (taken ++ (joined ∷ [])) taken) (desk_after d e)
  stands_as a q = subst (λ (b : Answer). Stands (after_answer b (taken ++ (joined ∷ [])) taken) (desk_after d e)) (says_is a q) (stands_then taken d e j.stands)

  -- refused: both stay
  stays : (n : ℕ) (values : List ℕ) → (insert_on d e).says ≡ answer (suc n) values → Beside taken (desk_after d e) builder
  stays n values q = record { stands = stands_as (answer (suc n) values) q; same = j.same; patterns = j.patterns; few = j.few }

  -- accepted: both have it
  joins : (values : List ℕ) → (insert_on d e).says ≡ answer 0 values
      → (after : SublistBuilder ℕ) × (insert builder e.pattern (word32 e.target) ≡ subject.Ok after) × Beside (taken ++ (joined ∷ [])) (desk_after d e) after
  joins values q =
      let w = accepted-text taken d e values (says_is (answer 0 values) q) in
      let v = accepted_original true e.pattern w.0.0 w.0.1 in (
        record { entries = push builder.entries (e.pattern, word32 e.target) },
        rw v,
        record {
          stands = stands_as (answer 0 values) q;
          same = ap (λ (b : SublistBuilder ℕ). record { entries = push b.entries (pair joined) }) j.same ∙ ap (λ l. record { entries = l }) (sym (map-append pair taken (joined ∷ [])));
          patterns = All-append Accepted taken (joined ∷ []) j.patterns (w.0, tt);
          few = omega (arith, w.1, length-append taken (joined ∷ []));
        },
      )

  module _ (Rest : SublistBuilder ℕ → Type 0) (goes : (then' : List TableEntry) (after : SublistBuilder ℕ) → Beside then' (desk_after d e) after → Rest after) where
    refused-same : (n : ℕ) (values : List ℕ) → (insert_on d e).says ≡ answer (suc n) values → ComparedInsert (answer (suc n) values) builder e Rest
    refused-same n values q = go (added_refusal (answer (suc n) values)) refl
      where
        on : Rest builder
        on = goes taken builder (stays n values q)

        theirs : (v : subject.Result ℕ) → validate e.pattern true ≡ v → answer_of v ≡ answer (suc n) values
            → SameInsert (answer (suc n) values) (insert builder e.pattern (word32 e.target)) builder Rest
        theirs (subject.Ok m) v r = absurd (cc)
        theirs (subject.Err f) v r = rw v (sym r, on)

        go : (b : Bool) → added_refusal (answer (suc n) values) ≡ b → pick b (Rest builder) (SameInsert (answer (suc n) values) (insert builder e.pattern (word32 e.target)) builder Rest)
        go true f = on
        go false f =
            let g = refused-text taken d e n values (says_is (answer (suc n) values) q) f in
            let plain = refused-plain true e.pattern (suc n) values g f in
            theirs (validate e.pattern true) refl (sym (grammar_original true e.pattern plain.0 plain.1) ∙ g)

    insert-same : ComparedInsert (insert_on d e).says builder e Rest
    insert-same = go (insert_on d e).says refl
      where
        go : (a : Answer) → (insert_on d e).says ≡ a → ComparedInsert a builder e Rest
        go (answer (suc n) values) q = refused-same n values q
        go (answer zero values) q = let w = joins values q in rw w.1 ((values, refl), goes (taken ++ (joined ∷ [])) w.0 w.2)

-- ---- behind the last insert

inside_all : (store : List ℕ) (used : ℕ) → used ≤ length store → (es : List Entry) → Below used es → All (Inside store) es
inside_all store used h [] b = tt
inside_all store used h (e ∷ es) b = (omega (arith, b.0), inside_all store used h es b.1)

plain_all : (store : List ℕ) (es : List Entry) → All Accepted (read_from store es) → All (λ e. Plain (text_of store e)) es
plain_all store [] a = tt
plain_all store (e ∷ es) a = (accepted-fits true (text_of store e) (a.0.0 ∷ []) a.0.1, plain_all store es a.1)

tables-same : (std : Std) (taken : List TableEntry) (d : Desk) (builder : SublistBuilder ℕ) → Beside taken d builder → SameTables std d builder
tables-same std taken d builder j a ts generation fits wide =
    let es = in_use d.list d.places in
    let reads : length (held_on d) ≡ length es = length-map {B = TableEntry} es (λ e. record { pattern = text_of d.store e; target = target_word e }) in
    subst (λ (b : SublistBuilder ℕ). SameBuild std (build std b generation) (length es) (build_into es d.store a ts generation)) (ap builder_of j.stands.held ∙ sym j.same)
    (build-same std es d.store (omega (arith, reads, ap length j.stands.held, j.few)) (inside_all d.store d.list.used j.stands.inside es j.stands.below)
    (plain_all d.store es (subst (All Accepted) (sym j.stands.held) j.patterns)) a ts generation fits wide)

each_same : (std : Std) (es taken : List TableEntry) (d : Desk) (builder : SublistBuilder ℕ) → Beside taken d builder → EachInsertSame (SameTables std) d builder es
each_same std [] taken d builder j = tables-same std taken d builder j
each_same std (e ∷ es) taken d builder j =
    insert-same taken d builder j e (λ after. EachInsertSame (SameTables std) (desk_after d e) after es) (λ then' after k. each_same std es then' (desk_after d e) after k)

pub inserts_same : (std : Std) (places : List Entry) (store : List ℕ) (es : List TableEntry) → EachInsertSame (SameTables std) (empty_desk places store) new es
inserts_same std places store es = each_same std es [] (empty_desk places store) new (record { stands = stands_empty places store; same = refl; patterns = tt; few = omega arith })
