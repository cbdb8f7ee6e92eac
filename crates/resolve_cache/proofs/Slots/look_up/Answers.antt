-- `resolve_cache::Slots::look_up` meets its contract. Assumes nothing.
use mathlib.Core.Option.{some}
use Rattle.std.proofs.Common.{◌≡◌, ◌≤◌, length, sym, ap, ◌∙◌, arith, length-take-le}
use Rattle.sublist_snapshot.specs.Snapshot.{match_in, match_parsed_in}
use Rattle.sublist_snapshot.proofs.Fronts.{parsed_match}
use Rattle.resolve_cache_rules.specs.Cache.{find_from, adopt, resolve}
use Rattle.resolve_cache_rules.specs.Ready.{Small}
use Rattle.resolve_cache_rules.proofs.Faithful.{accepted_some}
use Rattle.resolve_cache.specs.Deciding.{area_of}
use Rattle.resolve_cache.proofs.Resolving.{Asked, walking, asked_ready, walks, hit-short, hit-shown}
use Rattle.resolve_cache.proofs.Keeping.{Lists, walk_refused, walk_lists, kept-walk}
use Rattle.resolve_cache.proofs.Slots.look_up.Goals as goal
use Rattle.resolve_cache.proofs.Slots.look_up.Goals.{After-adopt-current, In_default-find, In-Some-find, In_ok-found}

-- the refusals before do not apply, and the cache is on the standing table's generation
asked : (k : After-adopt-current) → Asked k.args.cache.now (area_of k.args.self.now) k.args.standing.now.snapshot k.args.standing.now.area.now k.args.subject.now k.adopt-current.result
asked k = record {
  accepted = (k.in_ok-parse_literal.field-0, sym k.in_ok-parse_literal.ensures);
  fits = sym k.is_short.ensures ∙ k.if-is_short.false;
  good = k.in-Some.ensures.0;
  stands = sym k.stands.ensures ∙ k.if-not-stands.false;
  on = k.adopt-current.ensures ∙ ap (λ g. adopt g k.args.cache.now) k.generation.ensures;
}

-- no slot in use keeps the subject
missing : (k : In_default-find) → walking k.args.cache.now (area_of k.args.self.now) k.args.standing.now.snapshot k.args.standing.now.area.now k.args.subject.now k.args.out.now
    ≡ resolve k.args.cache.now (area_of k.args.self.now) k.args.standing.now.snapshot k.args.standing.now.area.now k.args.subject.now k.args.out.now
missing k = walks _ _ _ _ _ _ _ (asked (goal.at.In_default-find k).After-adopt-current) (rw (k.in-Some.ensures.2, k.in-Some.ensures.1) at (sym k.in_default-find.ensures.0))

-- and the match of the parsed subject is the match
matched : (k : In_default-find) → match_parsed_in k.args.standing.now.snapshot k.args.standing.now.area.now k.args.subject.now k.args.out.now
    ≡ match_in k.args.standing.now.snapshot k.args.standing.now.area.now k.args.subject.now k.args.out.now
matched k = parsed_match _ _ _ _ _ (sym k.in_ok-parse_literal.ensures)

-- the slot that was found, and that no slot in use is bad
first : (k : In-Some-find) → find_from k.args.cache.now.capacity k.args.self.now.keys.now k.args.subject.now 0 k.adopt-current.result.used ≡ some k.in-Some-find.slot
first k = rw (k.in-Some.ensures.2, k.in-Some.ensures.1) at (sym k.in-Some-find.ensures.0)

small : (k : In-Some-find) → Small k.args.cache.now.capacity k.args.self.now.keys.now k.args.cache.now.used
small k = rw (k.in-Some.ensures.3, k.in-Some.ensures.2, k.in-Some.ensures.1) at k.in-Some.in_use.small

-- the list that was found
listed : (k : In_ok-found) → Lists k.args.cache.now (area_of k.args.self.now) k.args.standing.now.snapshot k.args.standing.now.area.now k.args.subject.now k.args.out.now
    k.in_ok-found.found.count k.match_parsed.new.out
listed k =
    walk_lists _ _ _ _ _ _ _ _ _ _ (k.in_ok-found.ensures ∙ matched (goal.at.In_ok-found k).In_default-find)

-- so many places are there
inside : (k : In_ok-found) → k.in_ok-found.found.count ≤ length k.match_parsed.new.out
inside k = let l = listed k in omega (arith, l.counted, l.fits, k.match_parsed.auto.out)

pub returns-in_err-found-clause-leaves : goal.returns-in_err-found-clause-leaves
returns-in_err-found-clause-leaves c =
    let k = (goal.at.returns-in_err-found-clause-leaves c).In_default-find in
    walk_refused _ _ _ _ _ _ _ _ (c.in_err-found.ensures ∙ matched k) _ c.from_residual-in_err-found.ensures.1 ∙ missing k

pub slice_bounds-keep_list-end : goal.slice_bounds-keep_list-end
slice_bounds-keep_list-end c = inside (goal.at.slice_bounds-keep_list-end c).In_ok-found

pub slice_bounds-keep_list-end-in_default-find : goal.slice_bounds-keep_list-end-in_default-find
slice_bounds-keep_list-end-in_default-find c = sym (length-take-le _ _ (inside (goal.at.slice_bounds-keep_list-end-in_default-find c).In_ok-found))

pub keep_list-requires : goal.keep_list-requires
keep_list-requires c =
    let k = goal.at.keep_list-requires c in
    record {
      ready = asked_ready _ _ _ _ _ _ (asked k.After-adopt-current);
      not_empty = accepted_some c.args.subject.now _ (sym c.in_ok-parse_literal.ensures);
    }

pub returns-in_default-find-clause-leaves : goal.returns-in_default-find-clause-leaves
returns-in_default-find-clause-leaves c =
    let k = goal.at.returns-in_default-find-clause-leaves c in
    kept-walk _ _ _ _ _ _ _ _ (listed k.In_ok-found) c.adopt-current.result (asked k.After-adopt-current).on _ _ c.keep_list.ensures.kept
    ∙ missing k.In_default-find

pub returns-then-out-count-clause-leaves : goal.returns-then-out-count-clause-leaves
returns-then-out-count-clause-leaves c =
    let k = goal.at.returns-then-out-count-clause-leaves c in
    hit-short _ _ _ _ _ _ _ (asked k.After-adopt-current) (small k.In-Some-find) c.in-Some-find.slot (first k.In-Some-find) c.if-out-count.true

pub returns-clause-leaves : goal.returns-clause-leaves
returns-clause-leaves c =
    let k = goal.at.returns-clause-leaves c in
    rw (c.hit.ensures, c.next_tick.ensures)
    (hit-shown _ _ _ _ _ _ _ (asked k.After-adopt-current) (small k.In-Some-find) c.in-Some-find.slot (first k.In-Some-find) c.if-out-count.false)
