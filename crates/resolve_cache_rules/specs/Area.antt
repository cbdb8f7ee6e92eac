-- The area of a resolve cache: three lent lists, and what a slot of them says. c is the cache's capacity.
use Rattle.std.specs.Prelude.{ℕ, ◌+◌, ◌*◌, ◌-◌, ◌/◌, ◌%◌, List, length, get_or, set}
use Rattle.sublist_tree.specs.Lists.{put}
use Rattle.sublist_walk_rules.specs.Walk.{part}
use Rattle.resolve_cache_rules.specs.Mark.{mark}

pub record Area : Type 0 where
  -- a number a slot: the stamp
  pub stamps : List ℕ
  -- four lists of a byte a slot, then 256 bytes a slot: the keys
  pub keys : List ℕ
  -- 16 targets a slot
  pub kept : List ℕ

-- a key's length less one has its low eight bits in the first list; the second has the rest of them in its upper three
-- bits, and the number of targets in the lower five
abbrev pub key_length : ℕ → List ℕ → ℕ → ℕ
key_length c keys i = 1 + get_or keys i 0 + 256 * (get_or keys (c + i) 0 / 32)

abbrev pub target_count : ℕ → List ℕ → ℕ → ℕ
target_count c keys i = get_or keys (c + i) 0 % 32

-- the third and the fourth have the mark, low byte and high byte
abbrev pub mark_at : ℕ → List ℕ → ℕ → ℕ
mark_at c keys i = get_or keys (2 * c + i) 0 + 256 * get_or keys (3 * c + i) 0

abbrev pub stamp_at : List ℕ → ℕ → ℕ
stamp_at stamps i = get_or stamps i 0

-- the subject that slot i keeps a list for, and the list
abbrev pub key_at : ℕ → List ℕ → ℕ → List ℕ
key_at c keys i = part keys (4 * c + 256 * i) (key_length c keys i)

abbrev pub targets_at : ℕ → List ℕ → List ℕ → ℕ → List ℕ
targets_at c keys kept i = part kept (16 * i) (target_count c keys i)

-- a key of 1 to 256 bytes in slot i, with its length, a number of targets up to 16, and its mark
abbrev pub keep_key : ℕ → List ℕ → ℕ → List ℕ → ℕ → List ℕ
keep_key c keys i key count =
    let sized = set (set keys i (length key - 1)) (c + i) count in
    let m = mark key in
    let marked = set (set sized (2 * c + i) (m % 256)) (3 * c + i) (m / 256) in
    put marked (4 * c + 256 * i) key

-- slot i, keeping a list under a key with a stamp; the rest of the slot and the other slots stay
abbrev pub keep : ℕ → Area → ℕ → List ℕ → List ℕ → ℕ → Area
keep c a i key targets stamp = record {
  stamps = set a.stamps i stamp;
  keys = keep_key c a.keys i key (length targets);
  kept = put a.kept (16 * i) targets;
}

-- slot i with another stamp
abbrev pub touch : Area → ℕ → ℕ → Area
touch a i stamp = record { stamps = set a.stamps i stamp; keys = a.keys; kept = a.kept }
