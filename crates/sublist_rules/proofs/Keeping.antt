-- Where a build is refused, the passes write no target.
use Prim.Native.Nat.{ℕ, ◌-◌}
use mathlib.Core.Path.{◌≡◌, refl}
use mathlib.Core.Bool.{Bool, true, false}
use mathlib.Core.List.{List, map}
use lib.Dec.{ltb}
use lib.ListN.{length}
use Rattle.subject_rules.specs.Choice.{pick}
use Rattle.sublist_entries.specs.declared.Entry.{Entry}
use Rattle.sublist_entries.specs.Entries.{target_word}
use Rattle.sublist_rules.specs.Building.{worst_of, over_limit}
use Rattle.sublist_rules.specs.Passes.{End, Growth, growth, stopped, settled, filling, last_passes}
use Rattle.sublist_rules.specs.Leaving.{finished}
use Rattle.sublist_rules.specs.Passes.{target_words_in}

-- the last passes write targets only where neither 15 nor 16 applies and the first pass came through
pub finished_keeps : (es : List Entry) (store ts : List ℕ) (g : Growth)
    → (ltb (length ts) (length es) ≡ false → over_limit (worst_of store es) ≡ false → (n : ℕ) (a : List ℕ) (ends : List End) → g ≡ growth n a ends → ⊥)
    → target_words_in (finished es store ts g) ≡ ts
finished_keeps es store ts (stopped a) never = refl
finished_keeps es store ts (growth n a ends) never = go (ltb (length ts) (length es)) refl (over_limit (worst_of store es)) refl
  where
    go : (b : Bool) → ltb (length ts) (length es) ≡ b → (c : Bool) → over_limit (worst_of store es) ≡ c
        → target_words_in (pick b (filling a ts) (pick c (filling (settled a (n - 1)) ts) (last_passes n a ts ends (map target_word es)))) ≡ ts
    go true e c f = refl
    go false e true f = refl
    go false e false f = absurd (never e f n a ends refl)
