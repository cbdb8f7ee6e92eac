-- Rows of ours, not 01's: what 01 says of a cache and only a definition carries, with 01's numbers written out.
use Rattle.std.specs.Prelude.{ℕ, ◌+◌, ◌*◌, ◌-◌, ◌/◌, ◌%◌, ◌^◌, ◌≡◌, List, [], ◌∷◌, ◌++◌, map, length, take, replicate}
use Rattle.subject_rules.specs.Answers.{Answer, answer}
use Rattle.sublist_tree.specs.Timetable.{bytes}
use Rattle.sublist_walk_rules.specs.Walk.{part}
use Rattle.sublist_snapshot.specs.declared.Snapshot.{Snapshot}
use Rattle.sublist_snapshot.specs.Rows.{snapshot, up_to, catch_all}
use Rattle.resolve_cache_rules.specs.declared.ResolveCache.{ResolveCache}
use Rattle.resolve_cache_rules.specs.Mark.{mark}
use Rattle.resolve_cache_rules.specs.Area.{Area, key_length, target_count, keep}
use Rattle.resolve_cache_rules.specs.Cache.{with_capacity, clear, resolve}

-- a slot as it is lent: a key, its targets, its stamp, and the key's mark or another; what a slot does not use is 7
pub data Slot : Type 0 where
  slot : (key targets : List ℕ) (stamp : ℕ) → Slot
  marked : (mark : ℕ) (key targets : List ℕ) (stamp : ℕ) → Slot

abbrev pub key_of : Slot → List ℕ
key_of (slot key targets stamp) = key
key_of (marked m key targets stamp) = key

abbrev pub targets_of : Slot → List ℕ
targets_of (slot key targets stamp) = targets
targets_of (marked m key targets stamp) = targets

abbrev pub stamp_of : Slot → ℕ
stamp_of (slot key targets stamp) = stamp
stamp_of (marked m key targets stamp) = stamp

abbrev pub mark_of : Slot → ℕ
mark_of (slot key targets stamp) = mark key
mark_of (marked m key targets stamp) = m

-- the bytes of the four lists
abbrev pub first_of : Slot → ℕ
first_of s = (length (key_of s) - 1) % 256

abbrev pub second_of : Slot → ℕ
second_of s = length (targets_of s) + 32 * ((length (key_of s) - 1) / 256)

abbrev pub third_of : Slot → ℕ
third_of s = mark_of s % 256

abbrev pub fourth_of : Slot → ℕ
fourth_of s = mark_of s / 256

-- one list behind the other, and filled up with 7
abbrev pub filled : (Slot → List ℕ) → ℕ → List Slot → List ℕ
filled of width [] = []
filled of width (s ∷ ss) = of s ++ (replicate (width - length (of s)) 7 ++ filled of width ss)

abbrev pub slots : List Slot → Area
slots ss = record {
  stamps = map stamp_of ss;
  keys = map first_of ss ++ (map second_of ss ++ (map third_of ss ++ (map fourth_of ss ++ filled key_of 256 ss)));
  kept = filled targets_of 16 ss;
}

-- capacity, slots used, generation, tick, walks
abbrev pub cache : ℕ → ℕ → ℕ → ℕ → ℕ → ResolveCache
cache capacity used generation tick walks =
    record {
      capacity = capacity;
      used = used;
      generation = record { 0 = generation };
      tick = record { 0 = tick };
      walks = walks;
    }

-- a snapshot with its words
pub record Standing : Type 0 where
  pub snapshot : Snapshot
  pub words : List ℕ

-- a table of one node, of a generation, whose `>` targets are these: each subject finds them
abbrev pub table : ℕ → List ℕ → Standing
table generation targets = record {
  snapshot = snapshot 1 (length targets) generation 1;
  words = 0 ∷ 0 ∷ 0 ∷ 0 ∷ 0 ∷ 0 ∷ 0 ∷ length targets ∷ (replicate 8 0 ++ targets);
}

-- a table of no node
abbrev pub damaged : Standing
damaged = record { snapshot = snapshot 0 0 0 1; words = [] }

-- a table of one node, of generation 0, whose `>` target lies outside: its counts stand, and a walk fails
abbrev pub broken : Standing
broken = record { snapshot = snapshot 1 0 0 1; words = catch_all }

-- n times the byte of a
abbrev pub long : ℕ → List ℕ
long n = replicate n 0x61

-- the kinds of row
pub data Row : Type 0 where
  -- a cache and its slots, a standing table, a subject and the lent output;
  -- what the resolve says; the cache, the slots and the output then
  as_resolve : (c : ResolveCache) (ss : List Slot) (t : Standing) (subject out : List ℕ)
      (says : Answer) (then' : ResolveCache) (left : List Slot) (written : List ℕ) → Row
  -- the same, refused: everything is as it was
  as_refused : (c : ResolveCache) (ss : List Slot) (t : Standing) (subject out : List ℕ) (says : Answer) → Row
  -- a capacity, the slots that the lent area has room for, and the answer
  as_making : (capacity room : ℕ) (says : Answer) → Row
  -- a cache, and what a clear leaves
  as_clear : (c then' : ResolveCache) → Row
  -- the bytes of one slot in the first two lists; the length of its key, and its number of targets
  as_read : (bytes : List ℕ) (long targets : ℕ) → Row
  -- a text, and its mark
  as_mark : (text : List ℕ) (is : ℕ) → Row
  -- a key, targets and a stamp kept in slot i of c, where all was 7: the stamps, the lists of bytes, the key with the
  -- byte behind it, the kept targets
  as_kept : (c i : ℕ) (key targets : List ℕ) (stamp : ℕ) (stamps lists keys kept : List ℕ) → Row

abbrev pub Holds : Row → Type 0
Holds (as_resolve c ss t subject out says then' left written) =
    resolve c (slots ss) t.snapshot t.words subject out
    ≡ record { says = says; cache = then'; area = slots left; out = written }
Holds (as_refused c ss t subject out says) =
    resolve c (slots ss) t.snapshot t.words subject out
    ≡ record { says = says; cache = c; area = slots ss; out = out }
Holds (as_making capacity room says) = with_capacity capacity (slots (replicate room (slot [] [] 0))) ≡ says
Holds (as_clear c then') = clear c ≡ then'
Holds (as_read bytes long targets) = (key_length 1 bytes 0 ≡ long) × (target_count 1 bytes 0 ≡ targets)
Holds (as_mark text is) = mark text ≡ is
Holds (as_kept c i key targets stamp stamps lists keys kept) =
    let a : Area = record { stamps = replicate c 7; keys = replicate (260 * c) 7; kept = replicate (16 * c) 7 } in
    let b = keep c a i key targets stamp in
    (b.stamps ≡ stamps)
    × (take (4 * c) b.keys ≡ lists)
    × (part b.keys (4 * c + 256 * i) (length key + 1) ≡ keys)
    × (b.kept ≡ kept)

-- where an accepted resolve's list lies
abbrev pub kept : ℕ → ℕ → Answer
kept from count = answer 0 (0 ∷ from ∷ count ∷ [])

abbrev pub walked : ℕ → Answer
walked count = answer 0 (1 ∷ 0 ∷ count ∷ [])

unfoldable pub rows : List Row
rows =
    -- "`with_capacity` turns 0 into 1"; "A fresh cache has generation, tick and walks 0"; 17: "the lent cache store
    -- is smaller than capacity slots"
    as_making 0 1 (answer 0 (1 ∷ 0 ∷ 0 ∷ 0 ∷ 0 ∷ []))
    ∷ as_making 0 0 (answer 17 [])
    ∷ as_making 2 1 (answer 17 [])
    -- a list of 16 targets is kept; the walk counts, and writes only the list's places
    ∷ as_resolve (cache 2 1 0 5 3) (slot (bytes "p") (9 ∷ []) 5 ∷ slot (bytes "q") (9 ∷ []) 2 ∷ []) (table 0 (up_to 16))
    (bytes "a") (replicate 17 7)
    (walked 16) (cache 2 2 0 6 4) (slot (bytes "p") (9 ∷ []) 5 ∷ slot (bytes "a") (up_to 16) 6 ∷ [])
    (up_to 16 ++ (7 ∷ []))
    -- "a list over 16 targets is walked each time, adds one to walks, moves the tick, drops and keeps nothing"
    ∷ as_resolve (cache 2 1 0 5 3) (slot (bytes "p") (9 ∷ []) 5 ∷ slot (bytes "q") (9 ∷ []) 2 ∷ []) (table 0 (up_to 17))
    (bytes "a") (replicate 18 7)
    (walked 17) (cache 2 1 0 6 4) (slot (bytes "p") (9 ∷ []) 5 ∷ slot (bytes "q") (9 ∷ []) 2 ∷ []) (up_to 17 ++ (7 ∷ []))
    -- a full cache drops nothing for it
    ∷ as_resolve (cache 1 1 0 5 3) (slot (bytes "p") (9 ∷ []) 5 ∷ []) (table 0 (up_to 17)) (bytes "a") (replicate 17 7)
    (walked 17) (cache 1 1 0 6 4) (slot (bytes "p") (9 ∷ []) 5 ∷ []) (up_to 17)
    -- a subject of 256 bytes is kept, one of 257 is not
    ∷ as_resolve (cache 1 0 0 0 0) (slot [] [] 0 ∷ []) (table 0 []) (long 256) (7 ∷ [])
    (walked 0) (cache 1 1 0 1 1) (slot (long 256) [] 1 ∷ []) (7 ∷ [])
    ∷ as_resolve (cache 1 0 0 0 0) (slot [] [] 0 ∷ []) (table 0 []) (long 257) (7 ∷ [])
    (walked 0) (cache 1 0 0 1 1) (slot [] [] 0 ∷ []) (7 ∷ [])
    -- such a resolve too empties the cache and adopts another generation
    ∷ as_resolve (cache 1 1 0 5 3) (slot (bytes "p") (9 ∷ []) 5 ∷ []) (table 2 (up_to 17)) (bytes "a") (replicate 17 7)
    (walked 17) (cache 1 0 2 1 4) (slot (bytes "p") (9 ∷ []) 5 ∷ []) (up_to 17)
    -- "A hit stamps the slot and shows the kept targets"; it "leaves the output untouched" and counts no walk; the
    -- first slot of equal keys answers
    ∷ as_resolve (cache 2 2 0 5 3) (slot (bytes "p") (8 ∷ 9 ∷ []) 4 ∷ slot (bytes "p") (1 ∷ []) 5 ∷ []) (table 0 [])
    (bytes "p") (7 ∷ 7 ∷ [])
    (kept 0 2) (cache 2 2 0 6 3) (slot (bytes "p") (8 ∷ 9 ∷ []) 6 ∷ slot (bytes "p") (1 ∷ []) 5 ∷ []) (7 ∷ 7 ∷ [])
    -- a key is all of a subject's bytes; the second slot's targets begin at 16
    ∷ as_resolve (cache 3 3 0 5 3)
    (slot (bytes "q") (9 ∷ []) 3 ∷ slot (bytes "p") (8 ∷ []) 4 ∷ slot (bytes "pp") [] 5 ∷ []) (table 0 []) (bytes "p")
    (7 ∷ [])
    (kept 16 1) (cache 3 3 0 6 3)
    (slot (bytes "q") (9 ∷ []) 3 ∷ slot (bytes "p") (8 ∷ []) 6 ∷ slot (bytes "pp") [] 5 ∷ []) (7 ∷ [])
    -- "on another generation, empty the cache, adopt it, set tick to 0": what was kept is walked again
    ∷ as_resolve (cache 2 1 0 5 3) (slot (bytes "p") (9 ∷ []) 5 ∷ slot (bytes "q") (9 ∷ []) 2 ∷ []) (table 4 (3 ∷ []))
    (bytes "p") (7 ∷ [])
    (walked 1) (cache 2 1 4 1 4) (slot (bytes "p") (3 ∷ []) 1 ∷ slot (bytes "q") (9 ∷ []) 2 ∷ []) (3 ∷ [])
    -- so too on a lower one
    ∷ as_resolve (cache 1 1 4 5 3) (slot (bytes "p") (9 ∷ []) 5 ∷ []) (table 2 (3 ∷ [])) (bytes "p") (7 ∷ [])
    (walked 1) (cache 1 1 2 1 4) (slot (bytes "p") (3 ∷ []) 1 ∷ []) (3 ∷ [])
    -- "drops the slot of smallest stamp if all are used (lowest slot on a tie)"
    ∷ as_resolve (cache 3 3 0 5 3) (slot (bytes "p") [] 5 ∷ slot (bytes "q") [] 4 ∷ slot (bytes "r") [] 4 ∷ [])
    (table 0 []) (bytes "a") []
    (walked 0) (cache 3 3 0 6 4) (slot (bytes "p") [] 5 ∷ slot (bytes "a") [] 6 ∷ slot (bytes "r") [] 4 ∷ []) []
    -- while a slot is unused none is dropped
    ∷ as_resolve (cache 2 1 0 5 3) (slot (bytes "p") [] 1 ∷ slot (bytes "q") [] 9 ∷ []) (table 0 []) (bytes "a") []
    (walked 0) (cache 2 2 0 6 4) (slot (bytes "p") [] 1 ∷ slot (bytes "a") [] 6 ∷ []) []
    -- "Next tick is tick plus one, wrapping"; "adds one to walks (modulo 2^64)": on a walk that keeps its list, on
    -- one that does not, and on a hit
    ∷ as_resolve (cache 1 0 0 (2 ^ 64 - 1) (2 ^ 64 - 1)) (slot [] [] 0 ∷ []) (table 0 []) (bytes "a") []
    (walked 0) (cache 1 1 0 0 0) (slot (bytes "a") [] 0 ∷ []) []
    ∷ as_resolve (cache 1 0 0 (2 ^ 64 - 1) (2 ^ 64 - 1)) (slot [] [] 0 ∷ []) (table 0 (up_to 17)) (bytes "a")
    (replicate 17 7)
    (walked 17) (cache 1 0 0 0 0) (slot [] [] 0 ∷ []) (up_to 17)
    ∷ as_resolve (cache 1 1 0 (2 ^ 64 - 1) 3) (slot (bytes "a") [] 5 ∷ []) (table 0 []) (bytes "a") []
    (kept 0 0) (cache 1 1 0 0 3) (slot (bytes "a") [] 0 ∷ []) []
    -- "A call's own subject .. is checked first ..; then the lowest number that applies is given": 17, 18, 19
    ∷ as_refused (cache 1025 0 0 5 3) (slot [] [] 0 ∷ []) damaged [] (7 ∷ []) (answer 3 [])
    ∷ as_refused (cache 1025 1026 0 5 3) (slot [] [] 0 ∷ []) damaged (bytes "a") (7 ∷ []) (answer 17 [])
    ∷ as_refused (cache 2 3 0 5 3) (slot [] [] 0 ∷ []) damaged (bytes "a") (7 ∷ []) (answer 17 [])
    ∷ as_refused (cache 1 2 0 5 3) (slot [] [] 0 ∷ []) damaged (bytes "a") (7 ∷ []) (answer 18 [])
    ∷ as_refused (cache 0 0 0 5 3) (slot [] [] 0 ∷ []) damaged (bytes "a") (7 ∷ []) (answer 18 [])
    ∷ as_refused (cache 1 1 0 5 3) (slot (bytes "a") (9 ∷ []) 5 ∷ []) damaged (bytes "a") (7 ∷ []) (answer 19 [])
    -- 19: "the rest arises only in a walk, so not on a cache hit"; in a walk it comes before 21
    ∷ as_resolve (cache 1 1 0 5 3) (slot (bytes "a") (9 ∷ []) 5 ∷ []) broken (bytes "a") (7 ∷ [])
    (kept 0 1) (cache 1 1 0 6 3) (slot (bytes "a") (9 ∷ []) 6 ∷ []) (7 ∷ [])
    ∷ as_refused (cache 1 1 0 5 3) (slot (bytes "p") (9 ∷ []) 5 ∷ []) broken (bytes "a") [] (answer 19 [])
    -- 18: "a used slot has a key over 256 bytes or over 16 targets", looked for on another generation too; slots that
    -- are not used are not looked at
    ∷ as_refused (cache 1 1 4 5 3) (slot (long 257) [] 5 ∷ []) (table 0 []) (bytes "a") (7 ∷ []) (answer 18 [])
    ∷ as_refused (cache 1 1 4 5 3) (slot [] (up_to 17) 5 ∷ []) (table 0 []) (bytes "a") (7 ∷ []) (answer 18 [])
    ∷ as_resolve (cache 2 1 0 5 3) (slot (long 256) (up_to 16) 5 ∷ slot (bytes "q") (up_to 17) 2 ∷ []) (table 0 [])
    (long 256) (replicate 16 7)
    (kept 0 16) (cache 2 1 0 6 3) (slot (long 256) (up_to 16) 6 ∷ slot (bytes "q") (up_to 17) 2 ∷ []) (replicate 16 7)
    -- 21, "with the length needed", hit or walk alike: nothing has changed
    ∷ as_refused (cache 1 1 0 5 3) (slot (bytes "a") (8 ∷ 9 ∷ []) 5 ∷ []) (table 0 []) (bytes "a") (7 ∷ [])
    (answer 21 (2 ∷ []))
    ∷ as_refused (cache 1 1 0 5 3) (slot (bytes "p") (9 ∷ []) 5 ∷ []) (table 2 (8 ∷ 9 ∷ [])) (bytes "a") (7 ∷ [])
    (answer 21 (2 ∷ []))
    -- a slot keeps a subject if its mark and its bytes are the subject's: the bytes alone do not do, nor does the mark
    ∷ as_resolve (cache 2 1 0 5 3) (marked 0x6294 (bytes "p") (9 ∷ []) 5 ∷ slot [] [] 0 ∷ []) (table 0 (3 ∷ []))
    (bytes "p") (7 ∷ [])
    (walked 1) (cache 2 2 0 6 4) (marked 0x6294 (bytes "p") (9 ∷ []) 5 ∷ slot (bytes "p") (3 ∷ []) 6 ∷ []) (3 ∷ [])
    ∷ as_resolve (cache 2 1 0 5 3) (marked 0x6293 (bytes "q") (9 ∷ []) 5 ∷ slot [] [] 0 ∷ []) (table 0 (3 ∷ []))
    (bytes "p") (7 ∷ [])
    (walked 1) (cache 2 2 0 6 4) (marked 0x6293 (bytes "q") (9 ∷ []) 5 ∷ slot (bytes "p") (3 ∷ []) 6 ∷ []) (3 ∷ [])
    -- the second of equal keys answers, where the first one's mark is another; both bytes of a mark count
    ∷ as_resolve (cache 2 2 0 5 3) (marked 0x6393 (bytes "p") (8 ∷ []) 4 ∷ marked 0x6293 (bytes "p") (1 ∷ []) 5 ∷ [])
    (table 0 []) (bytes "p") (7 ∷ [])
    (kept 16 1) (cache 2 2 0 6 3) (marked 0x6393 (bytes "p") (8 ∷ []) 4 ∷ marked 0x6293 (bytes "p") (1 ∷ []) 6 ∷ [])
    (7 ∷ [])
    -- 18 is whole: a key over 256 bytes and over 16 targets can both be lent, each alone and both together
    ∷ as_read (255 ∷ 16 ∷ []) 256 16
    ∷ as_read (0 ∷ 32 ∷ []) 257 0
    ∷ as_read (0 ∷ 17 ∷ []) 1 17
    ∷ as_read (255 ∷ 255 ∷ []) 2048 31
    -- marks, as a program apart from this one gives them
    ∷ as_mark (bytes "p") 0x6293
    ∷ as_mark (bytes "yard.17") 0x6577
    ∷ as_mark (bytes "yard.177") 0xb877
    ∷ as_mark (bytes "yard.1777") 0x13ed
    ∷ as_mark (bytes "yard.north.track.17.signal") 0x43bb
    ∷ as_mark (long 256) 0xd1b5
    -- where a slot lies, as docs/LAYOUT.md has it
    ∷ as_kept 2 1 (bytes "yard.17") (5 ∷ 6 ∷ []) 9
    (7 ∷ 9 ∷ []) (7 ∷ 6 ∷ 7 ∷ 2 ∷ 7 ∷ 0x77 ∷ 7 ∷ 0x65 ∷ []) (bytes "yard.17" ++ (7 ∷ []))
    (replicate 16 7 ++ (5 ∷ 6 ∷ replicate 14 7))
    -- "`clear` empties and sets tick 0; generation and walks remain"
    ∷ as_clear (cache 2 1 4 5 3) (cache 2 0 4 0 3)
    ∷ []
