-- Demand 3, stated: "Stores, clears, matches and resolves may be interleaved in any way."
use Rattle.std.specs.Prelude.{ℕ, zero, suc, ◌+◌, ◌*◌, ◌≤◌, ◌<◌, ◌^◌, max, ◌≡◌, Bool, true, false}
use Rattle.std.specs.Prelude.{List, [], ◌∷◌, ◌++◌, map, eqb, ltb, length, take, drop, get_or}
use Rattle.std.proofs.Math.Option.{Option, none, some}
use Rattle.subject_rules.specs.Choice.{pick, or}
use Rattle.subject_rules.specs.Text.{same, tokens}
use Rattle.subject_rules.specs.Fnv.{fnv}
use Rattle.subject_rules.specs.Answers.{Answer, answer, unless}
use Rattle.subject_rules.specs.Grammar.{first_of, grammar}
use Rattle.sublist_tree.specs.Lists.{concat, sum, sort, All}
use Rattle.sublist_tree.specs.Tree.{target_of, worst}
use Rattle.sublist_tree.specs.Due.{precedes}
use Rattle.sublist_tree.specs.Nodes.{nodes, peak_of}
use Rattle.sublist_tree.specs.Table.{TableEntry, root_of, matching_entries, literals}
use Rattle.sublist_entries.specs.declared.Entry.{Entry}
use Rattle.sublist_entries.specs.Entries.{read_from}
use Rattle.sublist_rules.specs.Building.{build_says}
use Rattle.sublist_snapshot.specs.Snapshot.{Table, snapshot_numbers, make}
use Rattle.resolve_cache_rules.specs.Area.{Area}
use Rattle.resolve_cache_rules.specs.Cache.{cache_numbers, with_capacity, new_cache}
use Rattle.binding.specs.declared.Resolution.{Resolution}
use Rattle.binding.specs.declared.Resolution.TheVariants.{Routed, NoStream, Ambiguous}
use Rattle.binding.specs.Built.{BuiltFrom}
use Rattle.binding.specs.Calls.{Call, store, clearing, asking, resolving, asking_home, resolving_home, Reply}
use Rattle.binding.specs.Calls.{refused, storing, cleared, matched, resolved, home, Cabinet, reply, after}

-- "the targets due are those of the standing table's entries that match, once per entry, in 01's order"
abbrev pub due : List TableEntry → List ℕ → List ℕ
due es subject = map target_of (sort (precedes same) (root_of (λ t. t) (matching_entries (tokens subject) es)))

-- "empty list NoStream, one target Routed with it, else Ambiguous with the length"
abbrev pub verdict_on : List ℕ → Resolution
verdict_on list =
    pick (eqb (length list) 0) NoStream
    (pick (eqb (length list) 1) (Routed (get_or list 0 0))
    (Ambiguous (length list)))

-- 01's peak and worst case, literals compared by hash
abbrev pub peak_due : List TableEntry → List ℕ → ℕ
peak_due es subject = peak_of eqb (map fnv (tokens subject)) (root_of fnv es)

abbrev pub worst_of : List TableEntry → ℕ
worst_of es = worst eqb 32 (root_of fnv es)

-- the distinct runs that begin a pattern
abbrev pub nodes_of : List TableEntry → ℕ
nodes_of es = length (nodes eqb (root_of fnv es))

-- "a table's length is its nodes' words plus its target words"; a node takes sixteen words
abbrev pub words_of : Table → ℕ
words_of t = t.nodes * 16 + t.targets

-- the standing table's entries, the number of accepted stores, and the words of the snapshot's area
pub record Standing : Type 0 where
  pub entries : List TableEntry
  pub stores : ℕ
  pub room : ℕ

-- the standing table is the first before any store
abbrev pub start : List TableEntry → List ℕ → Standing
start es area = record { entries = es; stores = 0; room = length area }

-- and that of the last accepted store after it
abbrev pub standing_after : Standing → Call → Standing
standing_after s (store t es) =
    pick (ltb s.room (words_of t)) s
    (record { entries = es; stores = suc s.stores; room = s.room })
standing_after s (clearing i) = s
standing_after s (asking subject out) = s
standing_after s (resolving i subject out) = s
standing_after s (asking_home subject out) = s
standing_after s (resolving_home i subject out) = s

-- a refused text is refused as the grammar numbers it
abbrev pub text_first : Answer → Reply → Reply
text_first (answer zero values) given = given
text_first (answer (suc k) values) given = refused (answer (suc k) values)

-- "The call is refused exactly when 01 refuses its subject's text or more targets are due than its output holds.
-- Otherwise its list equals the targets due"
abbrev pub demanded : List ℕ → List ℕ → ℕ → (List ℕ → Reply) → Reply
demanded dues subject room given =
    text_first (grammar false subject)
    (pick (ltb room (length dues)) (refused (answer 21 (length dues ∷ [])))
    (given dues))

-- what is asked of the reply to one call
abbrev pub Right : Standing → Call → Reply → Type 0
-- a store is refused exactly when the snapshot's area is shorter than its table, and otherwise returns its generation,
-- which is its number among the accepted stores
Right s (store t es) r = r ≡ pick (ltb s.room (words_of t)) (refused (answer 20 [])) (storing (suc s.stores))
-- a clear is never refused
Right s (clearing i) r = r ≡ cleared
-- the verdict is that of the list; the peak is 01's, and at most the worst case, which is at most 1,024; the generation
-- is the standing table's
Right s (asking subject out) r =
    (r ≡ demanded (due s.entries subject) subject (length out)
    (λ list. matched list (verdict_on list) (peak_due s.entries subject) s.stores))
    × (peak_due s.entries subject ≤ worst_of s.entries) × (worst_of s.entries ≤ 1024)
Right s (resolving i subject out) r =
    r ≡ demanded (due s.entries subject) subject (length out) (λ list. resolved list (verdict_on list))
-- the two that feed `single_home` count as a match and a resolve: refused when these are, with the verdict of their
-- list
Right s (asking_home subject out) r =
    (r ≡ demanded (due s.entries subject) subject (length out)
    (λ list. home (verdict_on list) (peak_due s.entries subject ∷ s.stores ∷ [])))
    × (peak_due s.entries subject ≤ worst_of s.entries) × (worst_of s.entries ≤ 1024)
Right s (resolving_home i subject out) r =
    r ≡ demanded (due s.entries subject) subject (length out) (λ list. home (verdict_on list) [])

-- each call takes states and areas as the last call on them, refused or not, returned and left them
abbrev pub EachRight : Standing → Cabinet → List Call → Type 0
EachRight s b [] = Unit {0}
EachRight s b (c ∷ cs) = Right s c (reply b c) × EachRight (standing_after s c) (after b c) cs

-- the same of calls as they happened, each with its reply and the cabinet as it left it
abbrev pub Happened : Cabinet → List (Call × Reply × Cabinet) → Type 0
Happened b [] = Unit {0}
Happened b (x ∷ xs) = (x.1 ≡ reply b x.0) × (x.2 ≡ after b x.0) × Happened x.2 xs

abbrev pub AllRight : Standing → List (Call × Reply × Cabinet) → Type 0
AllRight s [] = Unit {0}
AllRight s (x ∷ xs) = Right s x.0 x.1 × AllRight (standing_after s x.0) xs

-- 12: "start plus length exceeds the bytes of the lent text store"; 13, "holding the refusal 1 to 9 of that entry's
-- text"
abbrev pub holding : Answer → Option Answer
holding (answer zero values) = none
holding (answer (suc n) values) = some (answer 13 (suc n ∷ values))

abbrev pub entry_refused : List ℕ → ℕ → Entry → Option Answer
entry_refused texts index e =
    pick (ltb (length texts) (e.start + e.length)) (some (answer 12 (index ∷ [])))
    (holding (grammar true (take e.length (drop e.start texts))))

-- "entries are read in order, 12 before 13 for each"
abbrev pub entries_refused : List ℕ → ℕ → List Entry → Option Answer
entries_refused texts index [] = none
entries_refused texts index (e ∷ es) = first_of (entry_refused texts index e) (entries_refused texts (index + 1) es)

-- a build is refused exactly when its list has over 2,048 entries (10), an entry's text lies outside the store or is no
-- pattern (12, 13, the first such entry), the lent nodes are
-- fewer than the distinct runs (14), the target words fewer than the entries (15), or the worst case is over 1,024
-- (16); otherwise it gives these two counts
abbrev pub built : List Entry → List ℕ → ℕ → ℕ → ℕ → List TableEntry → Answer
built list texts nodes_lent targets_lent generation es =
    pick (ltb 2048 (length list)) (answer 10 [])
    (unless (entries_refused texts 0 list)
    (pick (ltb nodes_lent (nodes_of es)) (answer 14 (nodes_of es ∷ []))
    (pick (ltb targets_lent (length list)) (answer 15 [])
    (pick (ltb 1024 (worst_of es)) (answer 16 (worst_of es ∷ 1024 ∷ []))
    (answer 0 (nodes_of es ∷ worst_of es ∷ generation ∷ []))))))

abbrev pub BuildRight : List Entry → List ℕ → ℕ → ℕ → ℕ → Type 0
BuildRight list texts nodes_lent targets_lent generation =
    build_says list texts nodes_lent targets_lent generation
    ≡ built list texts nodes_lent targets_lent generation (read_from texts list)

-- the making of the snapshot is refused exactly when its area is shorter than the first table, with 20, for a built
-- table's counts are within its areas (19); it "shall stamp its first table 0, no matter what build was given";
-- "Its counter starts at 1"
abbrev pub SnapshotRight : Table → List ℕ → Type 0
SnapshotRight t area =
    (make t area).says
    ≡ pick (ltb (length area) (words_of t)) (answer 20 []) (answer 0 (t.nodes ∷ t.targets ∷ 0 ∷ 1 ∷ []))

-- 17: "capacity over 1,024, or the lent cache store is smaller than capacity slots"; a slot takes a stamp, 260 bytes
-- and 16 targets
abbrev pub cache_short : ℕ → Area → Bool
cache_short capacity a =
    or (ltb 1024 capacity)
    (or (ltb (length a.stamps) capacity)
    (or (ltb (length a.keys) (260 * capacity))
    (ltb (length a.kept) (16 * capacity))))

-- the making of a cache is refused exactly so; "`with_capacity` turns 0 into 1"; "A fresh cache has generation, tick
-- and walks 0", and no slot used
abbrev pub cache_made : ℕ → Area → Answer
cache_made capacity a = pick (cache_short capacity a) (answer 17 []) (answer 0 (capacity ∷ 0 ∷ 0 ∷ 0 ∷ 0 ∷ []))

abbrev pub CacheRight : ℕ → Area → Type 0
CacheRight n a = with_capacity n a ≡ cache_made (max 1 n) a

-- "`DEFAULT_CAPACITY` is 1,024"
abbrev pub NewCacheRight : Area → Type 0
NewCacheRight a = new_cache a ≡ cache_made 1024 a

-- "one fresh snapshot and fresh caches used with it alone": the states that accepted makings returned, and the areas
-- that they left
pub record Opened (t : Table) (area : List ℕ) (b : Cabinet) : Type 0 where
  pub snapshot_made : make t area ≡ record { says = answer 0 (snapshot_numbers b.snapshot); area = b.words }
  pub caches_made :
      (i : ℕ) → (n : ℕ) × (with_capacity n (b.caches i).area ≡ answer 0 (cache_numbers (b.caches i).cache))

-- "The tables come from accepted builds and are lent with their areas as build left them"
abbrev pub Lent : Call → Type 0
Lent (store t es) = BuiltFrom t es
Lent (clearing i) = Unit {0}
Lent (asking subject out) = Unit {0}
Lent (resolving i subject out) = Unit {0}
Lent (asking_home subject out) = Unit {0}
Lent (resolving_home i subject out) = Unit {0}

abbrev pub is_store : Call → ℕ
is_store (store t es) = 1
is_store (clearing i) = 0
is_store (asking subject out) = 0
is_store (resolving i subject out) = 0
is_store (asking_home subject out) = 0
is_store (resolving_home i subject out) = 0

abbrev pub stores_in : List Call → ℕ
stores_in calls = sum (map is_store calls)

-- the literal tokens in play: those of all tables' entries and of all subjects
abbrev pub tokens_of : List TableEntry → List (List ℕ)
tokens_of es = concat (map (λ e. literals (tokens e.pattern)) es)

abbrev pub tokens_in : Call → List (List ℕ)
tokens_in (store t es) = tokens_of es
tokens_in (clearing i) = []
tokens_in (asking subject out) = literals (tokens subject)
tokens_in (resolving i subject out) = literals (tokens subject)
tokens_in (asking_home subject out) = literals (tokens subject)
tokens_in (resolving_home i subject out) = literals (tokens subject)

abbrev pub in_play : List TableEntry → List Call → List (List ℕ)
in_play es calls = tokens_of es ++ concat (map tokens_in calls)

-- no two of them that differ share a hash
abbrev pub HashedApart : List (List ℕ) → Type 0
HashedApart ts = All (λ t. All (λ u. fnv t ≡ fnv u → t ≡ u) ts) ts

-- the first table with the entries that its build read, and the calls
pub record Premises (t : Table) (es : List TableEntry) (calls : List Call) : Type 0 where
  -- "The tables come from accepted builds and are lent with their areas as build left them"
  pub built : BuiltFrom t es
  pub lent : All Lent calls
  -- "There are fewer than 2^64 stores"
  pub few : stores_in calls < 2 ^ 64
  -- "and no two different literal tokens in play share a hash"
  pub apart : HashedApart (in_play es calls)

-- demand 3: builds, the makings and every call
pub record Met (t : Table) (es : List TableEntry) (area : List ℕ) (b : Cabinet) (calls : List Call) : Type 0 where
  pub builds_right :
      (list : List Entry) (texts : List ℕ) (nodes_lent targets_lent generation : ℕ)
      → BuildRight list texts nodes_lent targets_lent generation
  pub snapshot_right : SnapshotRight t area
  pub caches_right : (n : ℕ) (a : Area) → CacheRight n a
  pub new_caches_right : (a : Area) → NewCacheRight a
  pub calls_right : Opened t area b → EachRight (start es area) b calls
