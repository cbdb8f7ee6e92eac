-- `binding::resolve_single_home` meets its contract. Assumes nothing.
use Rattle.std.proofs.Common.{◌≤◌, length, sym, arith, length-take-le}
use Rattle.binding.proofs.Judging.{match_inside}
use Rattle.binding.proofs.resolve_single_home.Goals as goal
use Rattle.binding.proofs.resolve_single_home.Goals.{In_ok-found}

-- the list lies within the output
inside : (k : In_ok-found) → k.in_ok-found.found.count ≤ length k.match_into.new.out
inside k = omega (arith, match_inside _ _ _ _ _ _ _ _ k.in_ok-found.ensures, k.match_into.auto.out)

pub slice_bounds-single_home-end : goal.slice_bounds-single_home-end
slice_bounds-single_home-end c = inside (goal.at.slice_bounds-single_home-end c).In_ok-found

pub slice_bounds-single_home-end-2 : goal.slice_bounds-single_home-end-2
slice_bounds-single_home-end-2 c = sym (length-take-le _ _ (inside (goal.at.slice_bounds-single_home-end-2 c).In_ok-found))
