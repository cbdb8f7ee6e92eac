-- Only private contracts cite this file: what a writer puts.
use Rattle.std.specs.Prelude as std
use Rattle.std.specs.Prelude.{◌≡◌, List, ℕ}
use Rattle.std.proofs.Math.Option.{Option}
use Rattle.crossing.specs.declared.Writer.{Writer}
use Rattle.crossing.specs.Writing.{Progress, upto, nowhere, progress}

-- what was reached
abbrev pub reached_by : std.Option (Unit {0}) → Writer → Progress
reached_by (std.Some _) w = upto w.at w.out.now
reached_by std.None w = nowhere

-- tokens are put, if there are any to put, in the same output and with the same filler
abbrev pub Puts : Option (List (List ℕ)) → std.Option (Unit {0}) → Writer → Writer → Type 0
Puts tokens result old new =
    (new.out.ghost_name ≡ old.out.ghost_name)
    × (new.filler ≡ old.filler)
    × (reached_by result new ≡ progress tokens old.at old.out.now)
