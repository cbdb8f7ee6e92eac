-- `resolve_cache::Keys::new` meets its contract. Assumes nothing.
use Rattle.std.proofs.Common.{◌≡◌, ◌+◌, ◌||◌, ℕ, Bool, false, nat_lt, slice_range, sym, refl, ◌∙◌, arith, rules, tests}
use Rattle.std.proofs.lemmas.Iterator.{YieldsList-from_slice}
use Rattle.std.proofs.lemmas.Iterator.Consumers.{fold_from_yields_List}
use Rattle.resolve_cache_rules.specs.Cache.{bad_from}
use Rattle.resolve_cache_rules.proofs.Slots.{small_from}
use Rattle.resolve_cache.proofs.Marks.{bad_read}
use Rattle.resolve_cache.proofs.Keys.new.Goals as goal
use Rattle.resolve_cache.proofs.Keys.new.Goals.{After-fold-bad}

-- what the fold says
is : (k : After-fold-bad) → k.fold-bad.result ≡ bad_from k.args.capacity k.args.bytes.now 0 k.args.used
is k =
    fold_from_yields_List _ (λ (bad : Bool) (n : ℕ). bad || nat_lt 16 n) false _ k.fold-bad.ensures.ran
    (YieldsList-from_slice (slice_range k.args.bytes.now k.args.capacity (k.args.capacity + k.args.used)) cc) (λ a x b q c. search (rules, tests))
    ∙ bad_read k.args.capacity k.args.used k.args.bytes.now (omega arith) (λ i. omega (arith, k.type_inv.bytes i))

pub returns-then-bad : goal.returns-then-bad
returns-then-bad c = sym (is (goal.at.returns-then-bad c).After-fold-bad) ∙ c.if-bad.true

pub invariant_of-result : goal.invariant_of-result
invariant_of-result c =
    let none = sym (is (goal.at.invariant_of-result c).After-fold-bad) ∙ c.if-bad.false in
    record {
      inside = omega arith;
      room = (omega arith, omega arith);
      each = λ i. omega (arith, c.type_inv.bytes i);
      small = λ i h. small_from c.args.capacity c.args.bytes.now 0 c.args.used none i (omega arith) (omega arith);
    }

pub returns : goal.returns
returns c = (sym (is (goal.at.returns c).After-fold-bad) ∙ c.if-bad.false, refl, refl, refl)
