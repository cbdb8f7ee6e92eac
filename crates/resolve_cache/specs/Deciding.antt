-- Only private contracts cite this file: what the steps of a resolve leave.
use Rattle.std.specs.Prelude.{◌≡◌, ℕ, ◌*◌, ◌≤◌, ◌<◌, true, false, List, length, Option, Some, None, Result}
use Rattle.subject_rules.specs.Choice.{pick}
use Rattle.resolve_cache_rules.specs.declared.ResolveCache.{ResolveCache}
use Rattle.resolve_cache.specs.declared.Slots.{Slots}
use Rattle.resolve_cache.specs.declared.ListPlace.{ListPlace}
use Rattle.resolve_cache.specs.declared.ResolveError.{ResolveError}
use Rattle.resolve_cache_rules.specs.Area.{Area, keep}
use Rattle.resolve_cache_rules.specs.Cache.{keeps_at, place, ticked, walked, grown, qualifies}
use Rattle.resolve_cache_rules.specs.Cache.{Resolved}
use Rattle.resolve_cache.specs.Answers.{resolve_answer}

-- a list of keys has room for so many slots, 1,024 at the most
abbrev pub Roomy : ℕ → List ℕ → Type 0
Roomy c keys = (c ≤ 1024) × (260 * c ≤ length keys)

-- no slot from one place up to another keeps the subject
abbrev pub Absent : ℕ → List ℕ → List ℕ → ℕ → ℕ → Type 0
Absent c keys subject from to = (i : ℕ) → from ≤ i → i < to → keeps_at c keys subject i ≡ false

-- the first slot from one place up to another that keeps the subject, if there is one. As exact as an equation with
-- `find_from`, and a relation, since what joins runs asks of each slot of a run before whether it keeps the subject
abbrev pub FirstOf : ℕ → List ℕ → List ℕ → ℕ → ℕ → Option ℕ → Type 0
FirstOf c keys subject from to None = Absent c keys subject from to
FirstOf c keys subject from to (Some i) =
    (from ≤ i) × (i < to) × (keeps_at c keys subject i ≡ true) × Absent c keys subject from i

-- the three lent lists as an area, and that they are the same ones
abbrev pub area_of : Slots → Area
area_of s = record { stamps = s.stamps.now; keys = s.keys.now; kept = s.kept.now }

abbrev pub SameLists : Slots → Slots → Type 0
SameLists s t =
    (t.stamps.ghost_name ≡ s.stamps.ghost_name)
    × (t.keys.ghost_name ≡ s.keys.ghost_name)
    × (t.kept.ghost_name ≡ s.kept.ghost_name)

-- what a resolve answers and leaves, by its parts
abbrev pub leaving : Result ListPlace ResolveError → ResolveCache → Area → List ℕ → Resolved
leaving r c a out = record { says = resolve_answer r; cache = c; area = a; out = out }

-- a walk's list is kept, or is not
pub record Keeps (e : ResolveCache) (a : Area) (subject list : List ℕ) (c : ResolveCache) (after : Area) : Type 0 where
  pub cache : c ≡ pick (qualifies subject list) (grown e) (walked e)
  pub area : after ≡ pick (qualifies subject list) (keep e.capacity a (place e a) subject list (ticked e).0) a
