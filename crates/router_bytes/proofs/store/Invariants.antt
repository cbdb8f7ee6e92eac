-- `router_bytes::store` meets its contract: the bytes written so far are those of the numbers.
use Rattle.std.proofs.Common.{◌≡◌, ◌*◌, take, drop}
use Rattle.std.specs.List.{flat_map}
use Rattle.router_bytes.proofs.store.Given as goal

abbrev pub invariant-loop-i : goal.invariant-loop-i
invariant-loop-i g l = record {
  written : take (l.i * g.row.WIDTH) l.bytes ≡ flat_map g.T.Spelled.spell (take l.i l.numbers);
  left : drop (l.i * g.row.WIDTH) l.bytes ≡ drop (l.i * g.row.WIDTH) l.initial.bytes;
}
