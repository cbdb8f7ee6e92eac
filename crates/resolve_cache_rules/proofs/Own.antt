-- The mark that keeping a key in slot i writes.
use Prim.Native.Nat.{ℕ}
use mathlib.Core.List.{List}
use Rattle.resolve_cache_rules.specs.Mark.{mark}

abbrev pub own_mark : ℕ → List ℕ → ℕ → List ℕ → ℕ
own_mark n keys i key = mark key
