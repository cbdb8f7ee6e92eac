-- 01's number: "for the sizes that 64 KiB of copies hold; a C call lent more is refused as 99 CopyFull (added), before any other check".
-- 65,536 bytes in all are taken, one more is 99, whatever is lent.
use mathlib.Core.Path.{◌≡◌}
use mathlib.Core.List.{List, []}
use Prim.Native.Nat.{ℕ, ◌+◌, ◌≤◌, ◌<◌}
use native.Mathlib.Omega.{arith}
use lib.ListN.{length}
use borrow.Author.Tests.{lt-ltb, le-ltb}
use Rattle.subject_rules.specs.Answers.{answer}
use Rattle.subject_rules.specs.Outputs.{outcome}
use Rattle.sublist_walk_rules.specs.Matching.{match_table}
use Rattle.sublist_snapshot.specs.declared.Snapshot.{Snapshot}
use Rattle.resolve_cache_rules.specs.declared.ResolveCache.{ResolveCache}
use Rattle.resolve_cache_rules.specs.Area.{Area}
use Rattle.resolve_cache_rules.specs.Cache.{unchanged, resolve}
use Rattle.router_bytes_rules.specs.Bytes.{copy_bytes, words_in, on_bytes, match_bytes, in_numbers, in_bytes, resolve_bytes}

module _ (n m : ℕ) (nodes targets subject out : List ℕ) where
  pub match_taken : length nodes + length targets + length out ≤ 65536 → match_bytes n m nodes targets subject out ≡ on_bytes (match_table n m (words_in nodes) (words_in targets) subject (words_in out)) out
  unfolding match_bytes
  match_taken h = rw (le-ltb copy_bytes (length nodes + length targets + length out) (omega arith))

  pub match_99 : 65536 < length nodes + length targets + length out → match_bytes n m nodes targets subject out ≡ outcome (answer 99 []) out
  unfolding match_bytes
  match_99 h = rw (lt-ltb copy_bytes (length nodes + length targets + length out) (omega arith))

module _ (c : ResolveCache) (a : Area) (s : Snapshot) (area subject out : List ℕ) where
  pub resolve-taken : length a.stamps + length a.kept + length area + length out ≤ 65536 → resolve_bytes c a s area subject out ≡ in_bytes (resolve c (in_numbers a) s (words_in area) subject (words_in out)) a out
  unfolding resolve_bytes
  resolve-taken h = rw (le-ltb copy_bytes (length a.stamps + length a.kept + length area + length out) (omega arith))

  pub resolve_99 : 65536 < length a.stamps + length a.kept + length area + length out → resolve_bytes c a s area subject out ≡ unchanged c a subject out (answer 99 [])
  unfolding resolve_bytes
  resolve_99 h = rw (lt-ltb copy_bytes (length a.stamps + length a.kept + length area + length out) (omega arith))
