-- Numbers as bytes, lowest byte first; and the match and the resolve on areas of bytes.
use Rattle.std.specs.Prelude.{ℕ, zero, suc, ◌+◌, ◌*◌, ◌/◌, ◌%◌, List, [], ◌∷◌, ltb, length, map}
use Rattle.std.specs.List.{flat_map}
use Rattle.std.specs.Simd.{first_chunks}
use Rattle.subject_rules.specs.Choice.{pick}
use Rattle.subject_rules.specs.Answers.{answer}
use Rattle.sublist_entries.specs.Inserting.{after_answer}
use Rattle.subject_rules.specs.Outputs.{Outcome, outcome, over}
use Rattle.sublist_walk_rules.specs.Matching.{match_table}
use Rattle.sublist_snapshot.specs.declared.Snapshot.{Snapshot}
use Rattle.resolve_cache_rules.specs.declared.ResolveCache.{ResolveCache}
use Rattle.resolve_cache_rules.specs.Area.{Area}
use Rattle.resolve_cache_rules.specs.Cache.{Resolved, unchanged, resolve}

-- "for the sizes that 64 KiB of copies hold"
abbrev pub copy_bytes : ℕ
copy_bytes = 65536

-- the number that bytes spell
abbrev pub spelled : List ℕ → ℕ
spelled [] = 0
spelled (b ∷ bs) = b + spelled bs * 256

-- the bytes that spell a number, so many of them
abbrev pub spelling : ℕ → ℕ → List ℕ
spelling zero n = []
spelling (suc width) n = n % 256 ∷ spelling width (n / 256)

-- the numbers that bytes hold, so many bytes a number: every whole one
abbrev pub numbers_in : ℕ → List ℕ → List ℕ
numbers_in width bytes = map spelled (first_chunks width (length bytes / width) bytes)

-- the bytes of numbers
abbrev pub bytes_of : ℕ → List ℕ → List ℕ
bytes_of width ns = flat_map (spelling width) ns

-- a word takes four bytes, a number of `stamps` eight
abbrev pub words_in : List ℕ → List ℕ
words_in bytes = numbers_in 4 bytes

abbrev pub longs_in : List ℕ → List ℕ
longs_in bytes = numbers_in 8 bytes

-- what a match on the words of an output leaves in its bytes: an accepted one writes the words over them
abbrev pub on_bytes : Outcome → List ℕ → Outcome
on_bytes (outcome a words) bytes = outcome a (after_answer a (over (bytes_of 4 words) bytes) bytes)

-- the match on bytes of nodes, of targets and of the output: 99 if they are together more than the copies hold
unfoldable pub match_bytes : ℕ → ℕ → List ℕ → List ℕ → List ℕ → List ℕ → Outcome
match_bytes n m nodes targets subject out =
    pick (ltb copy_bytes (length nodes + length targets + length out)) (outcome (answer 99 []) out)
    (on_bytes (match_table n m (words_in nodes) (words_in targets) subject (words_in out)) out)

-- the areas of a cache, from their bytes
abbrev pub in_numbers : Area → Area
in_numbers a = record { stamps = longs_in a.stamps; keys = a.keys; kept = words_in a.kept }

-- what a resolve on the numbers of areas leaves in their bytes: an accepted one writes the numbers over them
abbrev pub in_bytes : Resolved → Area → List ℕ → Resolved
in_bytes r a out = record {
  says = r.says;
  cache = r.cache;
  area = record {
    stamps = after_answer r.says (over (bytes_of 8 r.area.stamps) a.stamps) a.stamps;
    keys = after_answer r.says r.area.keys a.keys;
    kept = after_answer r.says (over (bytes_of 4 r.area.kept) a.kept) a.kept;
  };
  out = after_answer r.says (over (bytes_of 4 r.out) out) out;
}

-- the resolve on bytes: 99 if stamps, kept targets, area and output are together more than the copies hold
unfoldable pub resolve_bytes : ResolveCache → Area → Snapshot → List ℕ → List ℕ → List ℕ → Resolved
resolve_bytes c a s area subject out =
    pick (ltb copy_bytes (length a.stamps + length a.kept + length area + length out))
    (unchanged c a subject out (answer 99 []))
    (in_bytes (resolve c (in_numbers a) s (words_in area) subject (words_in out)) a out)
