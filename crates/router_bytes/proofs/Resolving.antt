-- A resolve on numbers that are copied from bytes: a refused one leaves the areas, and what an accepted one leaves goes back to the bytes.
use mathlib.Core.Path.{◌≡◌, refl, sym, ap, ◌∙◌, subst}
use native.Mathlib.Omega.{arith}
use mathlib.Core.Bool.{true, false}
use mathlib.Core.List.{List, [], ◌∷◌}
use Rattle.std.specs.List.{sum}
use Prim.Native.Nat.{ℕ, zero, suc}
use lib.Dec.{ltb}
use lib.ListN.{length}
use borrow.Author.Tests.{ltb-true, ltb-false}
use Rattle.subject_rules.specs.Answers.{Answer, answer}
use Rattle.sublist_entries.specs.Inserting.{after_answer}
use Rattle.subject_rules.specs.Outputs.{over}
use Rattle.sublist_snapshot.specs.declared.Snapshot.{Snapshot}
use Rattle.resolve_cache_rules.specs.declared.ResolveCache.{ResolveCache}
use Rattle.std.specs.Prelude.{Result}
use Rattle.resolve_cache_rules.specs.declared.Answered.{Answered}
use Rattle.resolve_cache.specs.declared.ListPlace.{ListPlace}
use Rattle.resolve_cache.specs.declared.ResolveError.{ResolveError}
use Rattle.resolve_cache_rules.specs.Area.{Area}
use Rattle.resolve_cache_rules.specs.Cache.{Resolved, resolve}
use Rattle.resolve_cache.specs.Answers.{resolve_answer, left}
use Rattle.resolve_cache_rules.specs.Answers.{lent}
use Rattle.resolve_cache_rules.proofs.Outputs.{Leaves, resolve_leaves}
use Rattle.router_bytes_rules.specs.Bytes.{copy_bytes, bytes_of, words_in, longs_in, in_bytes, resolve_bytes}
use Rattle.router_bytes_rules.proofs.Limits.{resolve-taken, resolve_99}

-- the keys are not copied: a refused resolve leaves them
keys-after : (c : ResolveCache) (a : Area) (out : List ℕ) (r : Resolved) (says : Answer) → Leaves c a out r says → r.area.keys ≡ after_answer says r.area.keys a.keys
keys-after c a out r (answer zero values) l = refl
keys-after c a out r (answer (suc n) values) l = ap (λ (b : Area). b.keys) l.1

same_left : (r : Answered (Result ListPlace ResolveError)) (h h' k k' t t' o o' : List ℕ) → h ≡ h' → k ≡ k' → t ≡ t' → o ≡ o' → left r (lent h k t) o ≡ left r (lent h' k' t') o'
same_left r h h' k k' t t' o o' e f g p = rw (e, f, g, p)

module _ (c : ResolveCache) (s : Snapshot) (stamps keys kept area subject out : List ℕ) where
  abbrev sizes : ℕ
  sizes = sum (length stamps ∷ length kept ∷ length area ∷ length out ∷ [])

  -- 99
  pub resolve_full : true ≡ ltb copy_bytes sizes → ◌≡◌ {A = Resolved} (record { says = answer 99 []; cache = c; area = lent stamps keys kept; out = out }) (resolve_bytes c (lent stamps keys kept) s area subject out)
  resolve_full over = sym (resolve_99 c (lent stamps keys kept) s area subject out (omega (arith, ltb-true copy_bytes sizes (sym over))))

  -- r, longs, keys_after, words and outs are what a resolve on the copies returned and left; h, t and o are the bytes of
  -- stamps, kept targets and output then
  pub resolved : false ≡ ltb copy_bytes sizes → (r : Answered (Result ListPlace ResolveError)) (longs keys_after words outs old old_words area_words old_outs h t o : List ℕ)
      → let says = resolve_answer r.answer in
      old ≡ longs_in stamps → old_words ≡ words_in kept → area_words ≡ words_in area → old_outs ≡ words_in out
      → left r (lent longs keys_after words) outs ≡ resolve c (lent old keys old_words) s area_words subject old_outs
      → (h ≡ after_answer says (over (bytes_of 8 longs) stamps) stamps)
      → (t ≡ after_answer says (over (bytes_of 4 words) kept) kept)
      → (o ≡ after_answer says (over (bytes_of 4 outs) out) out)
      → left r (lent h keys_after t) o ≡ resolve_bytes c (lent stamps keys kept) s area subject out
  resolved small r longs keys_after words outs old old_words area_words old_outs h t o e f g p ran hs ts os =
      let before = lent old keys old_words in
      let after : Resolved = left r (lent longs keys_after words) outs in
      let leaves : Leaves c before old_outs after (resolve_answer r.answer) = subst (λ (y : Resolved). Leaves c before old_outs y y.says) (sym ran) (resolve_leaves c before subject old_outs s area_words) in
      same_left r h _ keys_after _ t _ o _ hs (keys-after c before old_outs after (resolve_answer r.answer) leaves) ts os
      ∙ ap (λ (y : Resolved). in_bytes y (lent stamps keys kept) out) (ran ∙ rw (e, f, g, p))
      ∙ sym (resolve-taken c (lent stamps keys kept) s area subject out (omega (arith, ltb-false copy_bytes sizes (sym small))))
