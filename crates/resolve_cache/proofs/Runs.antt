-- The first slot of n, run by run: what `find_map` over the runs answers.
use Rattle.std.proofs.Common.{◌≡◌, ℕ, zero, suc, ◌+◌, ◌-◌, [], ◌∷◌, length, sym, ap, subst, ◌∙◌, ◌*◌, ◌/◌, ◌<◌, ◌≤◌, Bool, true, false, List, min, Some, None, refl, arith, eqb, ltb, ltb-true, ltb-false}
use Rattle.std.specs.Prelude.{Option, MatchOption, IfSome, IsSomeAnd}
use Rattle.std.specs.List.{slice_get}
use Rattle.std.specs.Iterator.{Yields}
use Rattle.std.specs.Iterator.Runs.{Run, YieldsRun, AllItemsGive, IsFirstToGive}
use Rattle.std.specs.Bool.{IsTrue}
use Rattle.std.specs.declared.ops.Range.{Range}
use denote.Param.Members.{Mut, Called}
use borrow.Author.Tests.{eqb-true, eqb-false}
use mathlib.Core.Option.{none, some}
use Rattle.subject_rules.specs.Choice.{pick}
use Rattle.subject.specs.Answers.{optional}
use Rattle.resolve_cache_rules.specs.Cache.{keeps_at, find_from}
use Rattle.resolve_cache.specs.Deciding.{Absent, FirstOf}

-- the first slot that keeps a subject, by what is known of each
module _ (c : ℕ) (keys subject : List ℕ) where
  absent-none : (from n : ℕ) → Absent c keys subject from (from + n) → find_from c keys subject from n ≡ none
  absent-none from zero h = refl
  absent-none from (suc n) h = rw (h from (omega arith) (omega arith)) (absent-none (suc from) n (λ i k l. h i (omega arith) (omega arith)))

  first-some : (from n i : ℕ) → from ≤ i → i < from + n → keeps_at c keys subject i ≡ true → Absent c keys subject from i → find_from c keys subject from n ≡ some i
  first-some from zero i after before here others = absurd (omega arith)
  first-some from (suc n) i after before here others = go (eqb from i) refl (first-some (suc from) n i)
    where
      go : (b : Bool) → eqb from i ≡ b
          → (suc from ≤ i → i < suc from + n → keeps_at c keys subject i ≡ true → Absent c keys subject (suc from) i → find_from c keys subject (suc from) n ≡ some i)
          → pick (keeps_at c keys subject from) (some from) (find_from c keys subject (suc from) n) ≡ some i
      go true q ih = rw (eqb-true from i q, here)
      go false q ih =
          let later : suc from ≤ i = omega (arith, eqb-false from i q) in
          rw (others from (omega arith) later) (ih later (omega arith) here (λ j k l. others j (omega arith) l))

  pub first_is : (n : ℕ) (r : Option ℕ) → FirstOf c keys subject 0 n r → (optional r ≡ find_from c keys subject 0 n) × IfSome r (λ i. i < n)
  first_is n None absent = (sym (absent-none 0 n (λ i h k. absent i h (omega arith))), tt)
  first_is n (Some i) (after, before, here, others) = (sym (first-some 0 n i after (omega arith) here others), before)

-- the run of slot i
module _ (c : ℕ) (keys subject : List ℕ) (n : ℕ) where
  abbrev pub In_run : ℕ → Option ℕ → Type 0
  In_run run r = FirstOf c keys subject (32 * run) (min n (32 * run + 32)) r

  absent_before : (m : ℕ) → ((run : ℕ) → run < m → In_run run None) → Absent c keys subject 0 (min n (32 * m))
  absent_before m each i after before = each (i / 32) (omega arith) i (omega arith) (omega arith)

  pub none_in_runs : (m : ℕ) → n ≤ 32 * m → ((run : ℕ) → run < m → In_run run None) → FirstOf c keys subject 0 n None
  none_in_runs m all each i after before = absent_before m each i after (omega arith)

  pub some_in_runs : (m i : ℕ) → ((run : ℕ) → run < m → In_run run None) → In_run m (Some i) → FirstOf c keys subject 0 n (Some i)
  some_in_runs m i each (from, below, keeps, others) = (omega arith, omega arith, keeps, all)
    where
      all : Absent c keys subject 0 i
      all j after before = go (ltb j (32 * m)) refl
        where
          go : (b : Bool) → ltb j (32 * m) ≡ b → keeps_at c keys subject j ≡ false
          go true e = absent_before m each j after (omega (arith, ltb-true j (32 * m) e))
          go false e = others j (ltb-false j (32 * m) e) before

-- one call of a range's `next`
abbrev nat_range_steps : Range ℕ → Option ℕ → Range ℕ → Type 0
nat_range_steps s r t = (t.end ≡ s.end) × MatchOption r ((s.end - s.start ≡ 0) × (t.start ≡ s.start)) (λ x. (0 < s.end - s.start) × (x ≡ s.start) × (t.start ≡ s.start + 1))

-- what a range gives: its numbers in order, and all of them where it ended
range-at : (s t : Range ℕ) (xs : List ℕ) (k : ℕ) → Yields nat_range_steps s xs t → k < length xs → slice_get xs k ≡ Some (s.start + k)
range-at s t [] k y h = absurd (omega arith)
range-at s t (x ∷ xs) zero (j, step, y) h = ap Some (omega (arith, step.1.1))
range-at s t (x ∷ xs) (suc k) (j, step, y) h =
    let next : j.start + k ≡ s.start + suc k = omega (arith, step.1.2) in
    range-at j t xs k y (omega arith) ∙ ap Some next

range-long : (s t : Range ℕ) (xs : List ℕ) → Yields nat_range_steps s xs t → (t.start ≡ s.start + length xs) × (t.end ≡ s.end)
range-long s t [] y = (omega (arith, ap (λ r. r.start) y), ap (λ r. r.end) (sym y))
range-long s t (x ∷ xs) (j, step, y) = let l = range-long j t xs y in (omega (arith, l.0, step.1.2), l.1 ∙ step.0)

module _ {F : Type 0} (g : Mut F (ℕ × Unit {0}) (Option ℕ)) (f : F) (c : ℕ) (keys subject : List ℕ) (n : ℕ)
    (answers : (run : ℕ) (r : Option ℕ) (q : F) → Called g f (run, tt) r q → (q ≡ f) × In_run c keys subject n run r) where
  item : (p : Run nat_range_steps) → p.from.start ≡ 0 → (k : ℕ) → k < p.len → p.at k ≡ Some k
  unfolding YieldsRun
  item p zeroth k h =
      let first : p.from.start + k ≡ k = omega (arith, zeroth) in
      p.gave.1 k ∙ range-at p.from p.gave.0.0 p.items k p.gave.0.1 (omega (arith, p.long, h)) ∙ ap Some first

  whole-long : (p : Run nat_range_steps) (m : ℕ) → p.from.start ≡ 0 → p.from.end ≡ m → p.whole ≡ true → m ≤ p.len
  unfolding YieldsRun
  whole-long p m zeroth last w =
      let l = range-long p.from p.gave.0.0 p.items p.gave.0.1 in
      let e = p.gave.0.2 w in
      omega (arith, l.0, l.1, e.1.1.0, p.long, zeroth, last)

  pub first_in_runs : (s : Range ℕ) (m : ℕ) → s.start ≡ 0 → s.end ≡ m → n ≤ 32 * m → (r : Option ℕ) → (p : Run nat_range_steps) → p.from ≡ s
      → MatchOption r (IsTrue p.whole × AllItemsGive p g f None) (λ y. (i : ℕ) × (i < p.len) × (p.len ≡ i + 1) × IsFirstToGive p g f (Some y) None i) → FirstOf c keys subject 0 n r
  first_in_runs s m zeroth last all None p on (w, gives) =
      let long = whole-long p m (ap (λ x. x.start) on ∙ zeroth) (ap (λ x. x.end) on ∙ last) w in
      none_in_runs c keys subject n p.len (omega (arith, long))
      (λ run h. (answers run None f (subst (λ o. IfSome o (λ x. Called g f (x, tt) None f)) (item p (ap (λ x. x.start) on ∙ zeroth) run h) (gives (λ a b q k. (answers a.0 b q k).0) run))).1)
  first_in_runs s m zeroth last all (Some y) p on (i, inside, long, gives) =
      let both = gives (λ a b q k. (answers a.0 b q k).0) in
      let at : (k : ℕ) → k < p.len → p.at k ≡ Some k = item p (ap (λ x. x.start) on ∙ zeroth) in
      some_in_runs c keys subject n i y
      (λ run h. (answers run None f (subst (λ o. IsSomeAnd o (λ x. Called g f (x, tt) None f)) (at run (omega (arith, long))) (both.1 run h))).1)
      (answers i (Some y) f (subst (λ o. IsSomeAnd o (λ x. Called g f (x, tt) (Some y) f)) (at i inside) both.0)).1
