-- `router_bytes::load` meets its contract: the numbers read so far are those of the bytes.
use Rattle.std.proofs.Common.{◌≡◌, map, take}
use Rattle.router_bytes.proofs.load.Given as goal

abbrev pub invariant-loop-i : goal.invariant-loop-i
invariant-loop-i g l = take l.i l.numbers ≡ map g.T.Spelled.read (take l.i l.parts)
