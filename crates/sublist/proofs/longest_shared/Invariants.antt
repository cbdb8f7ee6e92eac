-- `sublist::longest_shared` meets its contract. The loop's invariant: `most` is the longest run shared with the entries passed.
use Rattle.std.proofs.Common.{◌≡◌, take}
use Rattle.sublist.specs.Sharing.{longest}
use Rattle.sublist.proofs.longest_shared.Given as goal

abbrev pub invariant-loop-j : goal.invariant-loop-j
invariant-loop-j g l = l.most ≡ longest l.list.store l.text (take l.j l.list.entries)
