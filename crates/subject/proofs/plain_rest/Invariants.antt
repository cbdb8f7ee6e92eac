-- The loop's invariant: the pass from the index on gives what the pass over all gives.
use Rattle.std.proofs.Common.{◌≡◌, ◌+◌, ◌≤◌, drop}
use Rattle.subject.specs.Plain.{plain_from}
use Rattle.subject.proofs.plain_rest.Given as goal

abbrev pub invariant-loop-b : goal.invariant-loop-b
invariant-loop-b l = (l.n ≤ l.dots + l.b-index) × (plain_from l.behind l.n (drop l.b-index l.rest) ≡ plain_from l.dot l.dots l.rest)
