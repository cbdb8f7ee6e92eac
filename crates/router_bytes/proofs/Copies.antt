-- The calls on bytes, by what the copies of their areas are: whether the copies hold them, how long numbers and their
-- bytes are, and what a match on the copies says of the match on the bytes.
use Rattle.std.specs.Result.{is_ok}
use Rattle.std.proofs.Common.{Result, Ok, Err, ◌≡◌, ℕ, zero, suc, ◌*◌, ◌/◌, ◌≤◌, true, false, List, [], ◌∷◌, length, sum, refl, sym, ap, ◌∙◌, arith, ltb, ltb-true, ltb-false}
use Rattle.std.proofs.lemmas.Bool.{false≢true}
use Rattle.std.proofs.Math.Nat.{div-mul-le_self}
use Rattle.subject_rules.specs.Answers.{Answer, answer, when_accepted}
use Rattle.subject.specs.Answers.{refusal}
use Rattle.subject.proofs.Refusals.{refused_stands}
use Rattle.sublist_walk.specs.declared.MatchError.{MatchError}
use Rattle.sublist_walk.specs.declared.MatchError.TheVariants.{Invalid, Damaged, OutShort}
use Rattle.sublist_walk.specs.Answers.{match_refusal}
use Rattle.resolve_cache.specs.declared.ListPlace.{ListPlace}
use Rattle.resolve_cache.specs.declared.ListPlace.TheVariants.{Kept, Walked}
use Rattle.resolve_cache.specs.declared.ResolveError.{ResolveError}
use Rattle.resolve_cache.specs.declared.ResolveError.TheVariants.{Invalid as ResolveInvalid, CacheShort, BadSlot, Damaged as ResolveDamaged, OutShort as ResolveShort}
use Rattle.resolve_cache.specs.Answers.{resolve_refusal, resolve_answer}
use Rattle.sublist_entries.specs.Inserting.{after_answer}
use Rattle.subject_rules.specs.Outputs.{outcome, over}
use Rattle.sublist_walk_rules.specs.Matching.{match_table}
use Rattle.router_bytes_rules.specs.Bytes.{copy_bytes, numbers_in, bytes_of, words_in, on_bytes, match_bytes}
use Rattle.router_bytes_rules.proofs.Spelled.{length-numbers_in}
use Rattle.router_bytes_rules.proofs.Limits.{match_taken, match_99}

-- a refused match leaves what was there
pub refused : (e : MatchError) (new old : List ℕ) → old ≡ after_answer (match_refusal e) new old
refused (Invalid e) new old = sym (ap (λ a. after_answer a new old) (refused_stands (Err e) e (answer 1 []) refl) ∙ go (refusal e))
  where
    go : (a : Answer) → after_answer (when_accepted a (answer 1 [])) new old ≡ old
    go (answer zero values) = refl
    go (answer (suc k) values) = refl
refused Damaged new old = refl
refused (OutShort needed) new old = refl

-- a refused resolve too; an accepted one leaves the new list
refused_resolve : (e : ResolveError) (new old : List ℕ) → old ≡ after_answer (resolve_refusal e) new old
refused_resolve (ResolveInvalid e) new old = refused (Invalid e) new old
refused_resolve CacheShort new old = refl
refused_resolve BadSlot new old = refl
refused_resolve ResolveDamaged new old = refl
refused_resolve (ResolveShort needed) new old = refl

pub wrote : (a : Result ListPlace ResolveError) → is_ok a ≡ true → (new old : List ℕ) → new ≡ after_answer (resolve_answer a) new old
wrote (Ok (Kept from count)) y new old = refl
wrote (Ok (Walked count)) y new old = refl
wrote (Err e) y new old = absurd (false≢true y)

pub stayed : (a : Result ListPlace ResolveError) → is_ok a ≡ false → (new old : List ℕ) → old ≡ after_answer (resolve_answer a) new old
stayed (Ok place) n new old = absurd (false≢true (sym n))
stayed (Err e) n new old = refused_resolve e new old

-- as many numbers as bytes hold fit over them
pub fit : (width : ℕ) (bytes was now : List ℕ) → was ≡ numbers_in width bytes → length now ≡ length was → length now * width ≤ length bytes
fit width bytes was now e long =
    let count : length now ≡ length bytes / width = long ∙ ap length e ∙ length-numbers_in width bytes in
    rw count (div-mul-le_self (length bytes) width)

-- a match on bytes, where sizes is the sum of its areas' lengths
module _ (n m : ℕ) (nodes targets subject out : List ℕ) where
  abbrev sizes : ℕ
  sizes = sum (length nodes ∷ length targets ∷ length out ∷ [])

  -- 99
  pub match_full : true ≡ ltb copy_bytes sizes → outcome (answer 99 []) out ≡ match_bytes n m nodes targets subject out
  match_full over = sym (match_99 n m nodes targets subject out (omega (arith, ltb-true copy_bytes sizes (sym over))))

  -- the match on the copies answers a and leaves words
  module _ (small : false ≡ ltb copy_bytes sizes) (a : Answer) (words node_words target_words out_words : List ℕ) where
    matched : node_words ≡ words_in nodes → target_words ≡ words_in targets → out_words ≡ words_in out → outcome a words ≡ match_table n m node_words target_words subject out_words
        → outcome a (after_answer a (over (bytes_of 4 words) out) out) ≡ match_bytes n m nodes targets subject out
    matched e f g found = ap (λ o. on_bytes o out) (found ∙ rw (e, f, g)) ∙ sym (match_taken n m nodes targets subject out (omega (arith, ltb-false copy_bytes sizes (sym small))))

  module _ (small : false ≡ ltb copy_bytes sizes) (words node_words target_words out_words : List ℕ) (e : node_words ≡ words_in nodes) (f : target_words ≡ words_in targets) (g : out_words ≡ words_in out) where
    -- 1 to 9, 19, 21
    pub match_refused : (why : MatchError) → outcome (match_refusal why) words ≡ match_table n m node_words target_words subject out_words
        → outcome (match_refusal why) out ≡ match_bytes n m nodes targets subject out
    match_refused why found = ap (outcome (match_refusal why)) (refused why (over (bytes_of 4 words) out) out) ∙ matched small (match_refusal why) words node_words target_words out_words e f g found

    pub match_found : (values bytes : List ℕ) → outcome (answer 0 values) words ≡ match_table n m node_words target_words subject out_words → bytes ≡ over (bytes_of 4 words) out
        → outcome (answer 0 values) bytes ≡ match_bytes n m nodes targets subject out
    match_found values bytes found left = ap (outcome (answer 0 values)) left ∙ matched small (answer 0 values) words node_words target_words out_words e f g found

-- each way that refuses a match
pub ruleset match_down = (match_full, match_refused)
