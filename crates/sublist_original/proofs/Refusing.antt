-- A pattern that the grammar refuses, in a build: ours says 13 with its refusal, and the original gives InvalidPattern with it.
--
--   first-bad        entries inside the store, texts UTF-8 of at most 4,096 bytes, one refused → the first such entry, those before it accepted by the original, and 13
--   refused-build    that first one refused by the original's parser → its build gives InvalidPattern with the same refusal
use Prim.Native.Nat.{ℕ, ◌+◌, ◌≤◌}
use native.Mathlib.Omega.{arith}
use mathlib.Core.Path.{◌≡◌, refl, ◌∙◌, ap, subst}
use mathlib.Core.Bool.{true, not}
use mathlib.Core.List.{List, [], ◌∷◌, ◌++◌, map-append}
use mathlib.Core.Option.{Option, some}
use lib.ListN.{length, length-append, length-map}
use borrow.Author.Tests.{le-ltb}
use Rattle.subject_rules.specs.Answers.{Answer}
use Rattle.subject_rules.specs.Grammar.{first_of}
use Rattle.subject_rules.specs.Original as subject
use Rattle.subject_rules.specs.Original.{Str, Error, when◌then◌else◌, validate, tokens, answer_of}
use Rattle.subject_rules.proofs.SameGrammar.{grammar_original}
use Rattle.subject_rules.proofs.SameMatching.{error-number}
use Rattle.sublist_tree.specs.Lists.{All}
use Rattle.sublist_tree.specs.Table.{TableEntry}
use Rattle.sublist_entries.specs.declared.Entry.{Entry}
use Rattle.sublist_entries.specs.Entries.{text_of, target_word, read_from}
use Rattle.sublist_rules.specs.Building.{held, invalid, bad_entry, bad_entries}
use Rattle.sublist_original.specs.Original.{Ok, Err, InvalidPattern, Arena, ROOT, parsed, root_alone, push_terminal, each_token, each_entry, Std, build}
use Rattle.sublist_original.specs.Entries.{pair, pairs, builder_of}
use Rattle.sublist_original.specs.Same.{Plain}
use Rattle.sublist_original.proofs.Indexing.{carried}
use Rattle.sublist_original.proofs.Entering.{Valid, entered}

-- 12 is not met
abbrev pub Inside : List ℕ → Entry → Type 0
Inside store e = e.start + e.length ≤ length store

-- the first entry of es whose pattern is refused, and what a build says of it
pub record FirstBad (store : List ℕ) (es : List Entry) (says : Answer) : Type 0 where
  pub front : List Entry
  pub entry : Entry
  pub rest : List Entry
  pub error : Error
  pub parts : es ≡ front ++ (entry ∷ rest)
  pub before : All Valid (read_from store front)
  pub refused : validate (text_of store entry) true ≡ subject.Err error
  pub holds : says ≡ held (answer_of (subject.Err error))

invalid-refusal : (e : Error) → invalid (answer_of (subject.Err e)) ≡ some (held (answer_of (subject.Err e)))
invalid-refusal e = rw (error-number e).2

module _ (store : List ℕ) where
  entry-bad : (index : ℕ) (x : Entry) → Inside store x → Plain (text_of store x) → bad_entry store index x ≡ invalid (answer_of (validate (text_of store x) true))
  entry-bad index x inside plain = rw (le-ltb (length store) (x.start + x.length) inside, grammar_original true (text_of store x) plain.0 plain.1)

  pub first-bad : (index : ℕ) (es : List Entry) → All (Inside store) es → All (λ e. Plain (text_of store e)) es → (r : Answer) → bad_entries store index es ≡ some r → FirstBad store es r
  first-bad index [] inside plain r e = absurd (cc)
  first-bad index (x ∷ es) inside plain r e = go (validate (text_of store x) true) refl (first-bad (index + 1) es inside.1 plain.1 r)
    where
      says : (v : subject.Result ℕ) → validate (text_of store x) true ≡ v → first_of (invalid (answer_of v)) (bad_entries store (index + 1) es) ≡ some r
      says v q = subst (λ (o : Option Answer). first_of o (bad_entries store (index + 1) es) ≡ some r) (entry-bad index x inside.0 plain.0 ∙ ap (λ w. invalid (answer_of w)) q) e

      go : (v : subject.Result ℕ) → validate (text_of store x) true ≡ v → (bad_entries store (index + 1) es ≡ some r → FirstBad store es r) → FirstBad store (x ∷ es) r
      go (subject.Ok n) q ih =
          let k = ih (says (subject.Ok n) q) in
          record {
            front = x ∷ k.front;
            entry = k.entry;
            rest = k.rest;
            error = k.error;
            parts = ap (λ (l : List Entry). x ∷ l) k.parts;
            before = ((n, q), k.before);
            refused = k.refused;
            holds = k.holds;
          }
      go (subject.Err f) q ih =
          let here : first_of (some (held (answer_of (subject.Err f)))) (bad_entries store (index + 1) es) ≡ some r =
          subst (λ (o : Option Answer). first_of o (bad_entries store (index + 1) es) ≡ some r) (invalid-refusal f) (says (subject.Err f) q) in
          record {
            front = [];
            entry = x;
            rest = es;
            error = f;
            parts = refl;
            before = tt;
            refused = q;
            holds = cc;
          }

-- ---- the original's first loop goes on behind the entries that it took

each_append : (xs ys : List (Str × ℕ)) (a b : Arena ℕ) → each_entry a xs ≡ Ok b → each_entry a (xs ++ ys) ≡ each_entry b ys
unfolding each_entry
each_append [] ys a b e = let same : a ≡ b = cc in ap (λ c. each_entry c ys) same
each_append ((p, t) ∷ xs) ys a b e =
    carried (λ depth. carried (λ placed. carried (λ c. each_append xs ys c b) (when not placed.1 then push_terminal placed.2 placed.0 t else Ok placed.2)) (each_token t ROOT a (tokens p)))
    (parsed (validate p true)) e

module _ (std : Std) (store : List ℕ) (es : List Entry) (says : Answer) (k : FirstBad store es says) (few : length es ≤ 2048) where
  parts : pairs (read_from store es) ≡ pairs (read_from store k.front) ++ (pair (record { pattern = text_of store k.entry; target = target_word k.entry }) ∷ pairs (read_from store k.rest))
  parts =
      ap (λ (l : List Entry). pairs (read_from store l)) k.parts
      ∙ ap pairs (map-append (λ e. record { pattern = text_of store e; target = target_word e }) k.front (k.entry ∷ k.rest))
      ∙ map-append pair (read_from store k.front) (read_from store (k.entry ∷ k.rest))

  fewer : length (read_from store k.front) ≤ 2048
  fewer = omega (arith, few, ap length k.parts, length-append k.front (k.entry ∷ k.rest), length-map {B = TableEntry} k.front (λ e. record { pattern = text_of store e; target = target_word e }))

  stops : each_entry root_alone (pairs (read_from store es)) ≡ Err (InvalidPattern k.error)
  unfolding each_entry
  stops =
      let took = entered (read_from store k.front) k.before fewer in
      ap (each_entry root_alone) parts
      ∙ each_append (pairs (read_from store k.front)) (pair (record { pattern = text_of store k.entry; target = target_word k.entry }) ∷ pairs (read_from store k.rest)) root_alone took.0 took.1
      ∙ rw k.refused

  pub refused-build : (generation : ℕ) → build std (builder_of (read_from store es)) generation ≡ Err (InvalidPattern k.error)
  unfolding build
  refused-build generation = rw stops
