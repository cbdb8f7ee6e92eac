-- A refused resolve: its number is not 0.
use Rattle.std.proofs.Common.{◌≡◌, ℕ, zero, suc, List, [], ◌∷◌, Err, refl}
use Rattle.subject_rules.specs.Answers.{Answer, answer, when_accepted}
use Rattle.subject.specs.Answers.{refusal}
use Rattle.subject.proofs.Refusals.{refused_stands}
use Rattle.resolve_cache.specs.declared.ResolveError.{ResolveError}
use Rattle.resolve_cache.specs.declared.ResolveError.TheVariants.{Invalid, CacheShort, BadSlot, Damaged, OutShort}
use Rattle.resolve_cache.specs.Answers.{resolve_refusal}

-- an answer that stands, whatever would come after it
pub numbered : (y : Answer) → ((after : Answer) → y ≡ when_accepted y after) → (k : ℕ) × (values : List ℕ) × (y ≡ answer (suc k) values)
numbered (answer zero values) h = let e = h (answer 1 []) in absurd (cc)
numbered (answer (suc k) values) h = (k, values, refl)

pub refusal-number : (e : ResolveError) → (k : ℕ) × (values : List ℕ) × (resolve_refusal e ≡ answer (suc k) values)
refusal-number (Invalid e) = numbered (refusal e) (λ after. refused_stands (Err e) e after refl)
refusal-number CacheShort = (16, [], refl)
refusal-number BadSlot = (17, [], refl)
refusal-number Damaged = (18, [], refl)
refusal-number (OutShort needed) = (20, needed ∷ [], refl)
