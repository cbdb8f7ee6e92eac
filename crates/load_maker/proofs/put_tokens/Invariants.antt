-- `load_maker::put_tokens` meets its contract. The loop's invariant: the stores and draws that are left give what all of them give.
use Rattle.std.proofs.Common.{◌≡◌, ◌-◌, ◌*◌}
use Rattle.std.proofs.lemmas.List.Edits.{sets}
use Rattle.subject_rules.specs.Text.{joined}
use Rattle.load_maker_rules.specs.Xorshift.{draws}
use Rattle.load_maker_rules.specs.Load.{made_tokens}
use Rattle.load_maker.proofs.put_tokens.Given as goal

abbrev pub invariant-loop-i : goal.invariant-loop-i
invariant-loop-i l =
    (draws (l.count - l.i) l.state ≡ draws l.count l.from)
    × (sets l.out (2 * l.i) (joined (made_tokens l.wild (l.count - l.i) l.state)) ≡ sets l.initial.out 0 (joined (made_tokens l.wild l.count l.from)))
