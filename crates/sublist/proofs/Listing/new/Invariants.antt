-- `sublist::Listing::new` meets its contract. The loop's invariant: the entries that are left give the answer for all.
use Rattle.std.proofs.Common.{◌≡◌, drop}
use Rattle.sublist_rules.specs.Building.{bad_entries}
use Rattle.sublist.proofs.Listing.new.Given as goal

abbrev pub invariant-loop-i : goal.invariant-loop-i
invariant-loop-i g l =
    bad_entries l.store l.i (drop l.i (g.F.EntryForm.entries l.entries)) ≡ bad_entries l.store 0 (g.F.EntryForm.entries l.entries)
