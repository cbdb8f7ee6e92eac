-- Only private contracts cite this file. When refusals do not apply.
use Rattle.std.specs.Prelude.{ℕ, ◌*◌, ◌≤◌, ◌<◌, ◌≡◌, false, List, [], ◌∷◌, length}
use Rattle.subject_rules.specs.Answers.{answer}
use Rattle.subject_rules.specs.Grammar.{grammar}
use Rattle.resolve_cache_rules.specs.declared.ResolveCache.{ResolveCache}
use Rattle.resolve_cache_rules.specs.Area.{Area, key_length, target_count}

-- the three lists have room for n slots, 1,024 at the most
pub record Wide (n : ℕ) (a : Area) : Type 0 where
  pub few : n ≤ 1024
  pub stamps : n ≤ length a.stamps
  pub keys : 260 * n ≤ length a.keys
  pub kept : 16 * n ≤ length a.kept

-- 17 and 18 on the capacity do not apply
pub record Ready (c : ResolveCache) (a : Area) : Type 0 where
  pub any : 1 ≤ c.capacity
  pub fits : c.used ≤ c.capacity
  pub wide : Wide c.capacity a

-- 1 to 9 do not apply
abbrev pub Accepted : List ℕ → Type 0
Accepted subject = (n : ℕ) × (grammar false subject ≡ answer 0 (n ∷ []))

-- the first n slots of c have keys of at most 256 bytes and at most 16 targets
abbrev pub Small : ℕ → List ℕ → ℕ → Type 0
Small c keys n = (i : ℕ) → i < n → (key_length c keys i ≤ 256) × (target_count c keys i ≤ 16)
