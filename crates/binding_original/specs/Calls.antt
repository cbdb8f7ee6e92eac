-- Calls on any snapshots and any caches of the original's beside calls on ours, and when their answers are the same.
-- Each call names its snapshot and its cache by number: any pair of them may meet in a resolve.
use Rattle.std.specs.Prelude.{ℕ, ◌≤◌, ◌≡◌, Bool, true, false, List, [], eqb, leb, length, get_or}
use Rattle.subject_rules.specs.Choice.{pick, and, or}
use Rattle.subject_rules.specs.Answers.{answer}
use Rattle.subject_rules.specs.Original as subject
use Rattle.subject_rules.specs.Original.{Str, Error, validate, answer_of}
use Rattle.sublist_tree.specs.Table.{TableEntry}
use Rattle.sublist_original.specs.Original.{Outcome, Ok, ◌>>=◌, Std, Sublist, build}
use Rattle.sublist_original.specs.Entries.{builder_of}
use Rattle.binding.specs.declared.Resolution as verdict
use Rattle.binding.specs.declared.Resolution.TheVariants as variants
use Rattle.binding.specs.Calls as ours
use Rattle.sublist_snapshot.specs.declared.Snapshot.{Snapshot}
use Rattle.binding.specs.Calls.{Call, store, clearing, asking, resolving, asking_home, resolving_home, Kept, Cabinet}
use Rattle.binding.specs.Calls.{reply, after}
use Rattle.binding_original.specs.Original as original
use Rattle.binding_original.specs.Original.{SublistSnapshot, Iter, ResolveCache, Resolution, Routed, NoStream}
use Rattle.binding_original.specs.Original.{Ambiguous, single-home, resolve, snapshot_match_into}
use Rattle.binding_original.specs.Original.{resolve-single-home, resolve_single_home_cached}

-- ---- ours

-- a snapshot with its area
pub record SnapshotInArea : Type 0 where
  pub snapshot : Snapshot
  pub words : List ℕ

-- a snapshot and a cache for each number
pub record Yard : Type 0 where
  pub snapshots : ℕ → SnapshotInArea
  pub caches : ℕ → Kept

-- snapshot j and the caches, as demand 3's calls take them
abbrev pub cabinet_of : Yard → ℕ → Cabinet
cabinet_of y j = record { snapshot = (y.snapshots j).snapshot; words = (y.snapshots j).words; caches = y.caches }

-- what a call on them left
abbrev pub with_cabinet : Yard → ℕ → Cabinet → Yard
with_cabinet y j b = record {
  snapshots = λ i. pick (eqb j i) (record { snapshot = b.snapshot; words = b.words }) (y.snapshots i);
  caches = b.caches;
}

-- a call, and the number of the snapshot that it is made on; a clear works on its cache alone
abbrev pub NamedCall : Type 0
NamedCall = ℕ × Call

abbrev pub reply_on : Yard → NamedCall → ours.Reply
reply_on y (j, c) = reply (cabinet_of y j) c

abbrev pub after_on : Yard → NamedCall → Yard
after_on y (j, c) = with_cabinet y j (after (cabinet_of y j) c)

-- ---- theirs

-- a snapshot and a cache for each number
pub record World : Type 0 where
  pub snapshots : ℕ → SublistSnapshot ℕ
  pub caches : ℕ → ResolveCache ℕ

abbrev pub with_snapshot : World → ℕ → SublistSnapshot ℕ → World
with_snapshot w j snapshot = record { snapshots = λ i. pick (eqb j i) snapshot (w.snapshots i); caches = w.caches }

abbrev pub with_cache : World → ℕ → ResolveCache ℕ → World
with_cache w i cache = record { snapshots = w.snapshots; caches = λ j. pick (eqb i j) cache (w.caches j) }

-- the calls of 01: the number of a cache, then that of a snapshot; a subject is given by its text
pub data Asked : Type 0 where
  stores : ℕ → Sublist ℕ → Asked
  clears : ℕ → Asked
  matches : ℕ → Str → Asked
  resolves : ℕ → ℕ → Str → Asked
  homes : ℕ → Str → Asked
  homes_cached : ℕ → ℕ → Str → Asked

-- what they answer: the generation of a store; the list and generation of a match; the list of a resolve; the verdict
-- of the two that feed `single_home`
pub data Told : Type 0 where
  refused : Error → Told
  storing : ℕ → Told
  cleared : Told
  matched : List ℕ → ℕ → Told
  resolved : List ℕ → Told
  home : Resolution ℕ → Told

-- a text that `parse_literal` refuses goes no further
abbrev pub parsed : subject.Result ℕ → World → Outcome (Told × World) → Outcome (Told × World)
parsed (subject.Ok depth) w behind = behind
parsed (subject.Err e) w behind = Ok (refused e, w)

-- what a call answers, and what is there then
abbrev pub call : Std → Iter ℕ → World → Asked → Outcome (Told × World)
call std iter w (stores j table) =
    let given = original.store (w.snapshots j) table in
    Ok (storing given.0, with_snapshot w j given.1)
call std iter w (clears i) = Ok (cleared, with_cache w i (original.clear (w.caches i)))
call std iter w (matches j text) = parsed (validate text false) w do
  found ← snapshot_match_into std (w.snapshots j) text []
  Ok (matched found.1 found.0, w)
call std iter w (resolves i j text) = parsed (validate text false) w do
  given ← resolve std iter (w.caches i) (w.snapshots j) text
  Ok (resolved given.0, with_cache w i given.1)
call std iter w (homes j text) = parsed (validate text false) w do
  verdict ← resolve-single-home std (w.snapshots j) text
  Ok (home verdict, w)
call std iter w (homes_cached i j text) = parsed (validate text false) w do
  given ← resolve_single_home_cached std iter (w.caches i) (w.snapshots j) text
  Ok (home given.0, with_cache w i given.1)

-- ---- what is compared

abbrev pub verdict_of : Resolution ℕ → verdict.Resolution
verdict_of (Routed t) = variants.Routed t
verdict_of NoStream = variants.NoStream
verdict_of (Ambiguous n) = variants.Ambiguous n

-- an answer of theirs in our terms: a refusal has 01's number and values. `more` is what ours has besides: the peak of
-- a match, and the generation of a verdict by a match.
-- Of a list ours also has the verdict that `single_home` gives on it.
abbrev pub told : List ℕ → Told → ours.Reply
told more (refused e) = ours.refused (answer_of (subject.Err e))
told more (storing g) = ours.storing g
told more cleared = ours.cleared
told more (matched list g) = ours.matched list (verdict_of (single-home list)) (get_or more 0 0) g
told more (resolved list) = ours.resolved list (verdict_of (single-home list))
told more (home verdict) = ours.home (verdict_of verdict) more

-- "added" refusals of these calls: 1, 2, 20 and 21; 17, 18 and 19 are never met
abbrev pub added_number : ℕ → Bool
added_number n = or (and (leb 1 n) (leb n 2)) (and (leb 20 n) (leb n 21))

abbrev pub added : ours.Reply → Bool
added (ours.refused (answer n values)) = added_number n
added (ours.storing g) = false
added ours.cleared = false
added (ours.matched list verdict peak g) = false
added (ours.resolved list verdict) = false
added (ours.home verdict values) = false

-- a refusal is compared always
abbrev pub refusing : ours.Reply → Bool
refusing (ours.refused a) = true
refusing (ours.storing g) = false
refusing ours.cleared = false
refusing (ours.matched list verdict peak g) = false
refusing (ours.resolved list verdict) = false
refusing (ours.home verdict values) = false

-- their call does not panic, our answer is theirs if `compared` says that it is to be, and `rest` holds of what is
-- there then
abbrev pub Answered : Bool → ours.Reply → Outcome (Told × World) → (World → Type 0) → Type 0
Answered compared r given rest =
    (x : Told × World)
    × (given ≡ Ok x)
    × (pick (or (refusing r) compared) ((more : List ℕ) × (r ≡ told more x.0)) (Unit {0}))
    × rest x.1

-- "a call refused by an added number is not made on the Rust's side"; any other is
abbrev pub Compared : Bool → ours.Reply → World → Outcome (Told × World) → (World → Type 0) → Type 0
Compared compared r w given rest = pick (added r) (rest w) (Answered compared r given rest)

-- an original's table of these entries: at most 2,048, for 10 is added
abbrev pub TableOf : Std → List TableEntry → Sublist ℕ → Type 0
TableOf std es table = (length es ≤ 2048) × (generation : ℕ) × (build std (builder_of es) generation ≡ Ok table)

-- the original's call for ours; a store stores `table`
abbrev pub asked : Sublist ℕ → NamedCall → Asked
asked table (j, store t es) = stores j table
asked table (j, clearing i) = clears i
asked table (j, asking subject out) = matches j subject
asked table (j, resolving i subject out) = resolves i j subject
asked table (j, asking_home subject out) = homes j subject
asked table (j, resolving_home i subject out) = homes_cached i j subject

-- which has the same entries
abbrev pub Tabled : Std → Sublist ℕ → Call → Type 0
Tabled std table (store t es) = TableOf std es table
Tabled std table (clearing i) = Unit {0}
Tabled std table (asking subject out) = Unit {0}
Tabled std table (resolving i subject out) = Unit {0}
Tabled std table (asking_home subject out) = Unit {0}
Tabled std table (resolving_home i subject out) = Unit {0}

-- the two are the same call
abbrev pub SameCall : Std → NamedCall × Asked → Type 0
SameCall std (n, d) = (table : Sublist ℕ) × (d ≡ asked table n) × Tabled std table n.1

-- fresh snapshots, each of a table with its entries, and fresh caches: "Runs against the Rust, and demand 2's equality
-- with it, are for a first table built as 0"
pub record Fresh (std : Std) (es : ℕ → List TableEntry) (w : World) : Type 0 where
  pub tables : ℕ → Sublist ℕ
  pub few : (j : ℕ) → length (es j) ≤ 2048
  pub built : (j : ℕ) → build std (builder_of (es j)) 0 ≡ Ok (tables j)
  pub made : (j : ℕ) → w.snapshots j ≡ original.new (tables j)
  pub caches : (i : ℕ) → (n : ℕ) × (w.caches i ≡ original.with-capacity n)
