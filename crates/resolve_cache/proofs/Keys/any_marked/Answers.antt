-- `resolve_cache::Keys::any_marked` meets its contract. Assumes nothing.
use Rattle.std.proofs.Common.{◌≡◌, ◌/◌, ◌%◌, sym, ap, ◌∙◌, ◌+◌, ◌*◌, ◌||◌, ◌&&◌, ℕ, Bool, false, nat_eq, slice_range, get_or, arith, rules, tests}
use Rattle.std.proofs.lemmas.Iterator.{YieldsList-from_slice, YieldsList-from_zip}
use Rattle.std.proofs.lemmas.Iterator.Consumers.{fold_from_yields_List}
use Rattle.resolve_cache.proofs.Marks.{unmarked}
use Rattle.resolve_cache.proofs.Keys.any_marked.Goals as goal

pub returns : goal.returns
returns c =
    let keys = c.args.self.now in
    let lows = slice_range keys.bytes.now (2 * keys.capacity + c.args.from) (2 * keys.capacity + c.args.from + 32) in
    let highs = slice_range keys.bytes.now (3 * keys.capacity + c.args.from) (3 * keys.capacity + c.args.from + 32) in
    let low : get_or c.to_le_bytes.result 0 0 ≡ c.args.sought % 256 = ap (λ l. get_or l 0 0) c.to_le_bytes.ensures in
    let high : get_or c.to_le_bytes.result 1 0 ≡ c.args.sought / 256 % 256 = ap (λ l. get_or l 1 0) c.to_le_bytes.ensures in
    let all = fold_from_yields_List _ (λ (any : Bool) (p : ℕ × ℕ). any || (nat_eq p.0 (get_or c.to_le_bytes.result 0 0) && nat_eq p.1 (get_or c.to_le_bytes.result 1 0))) false _ c.fold.ensures.ran
    (YieldsList-from_zip (YieldsList-from_slice lows cc) (YieldsList-from_slice highs cc)) (λ a x b q k. search (rules, tests)) in
    λ none k h e.
    unmarked keys.capacity c.args.from _ _ keys.bytes.now keys.each (omega arith) (omega arith) (omega arith) (sym all ∙ none) k h (omega (arith, low, high, e))
