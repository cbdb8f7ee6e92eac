-- What each turn over the subjects makes of `routes`.
use Rattle.std.proofs.Math.Nat.{add-sub_cancel_left}
use Rattle.std.proofs.Common.{◌≡◌, ℕ, ◌+◌, ◌-◌, ◌<◌, List, [], ◌++◌, length, map, get_or, take, drop, Result, Ok, Err, None, sym, ◌∙◌, drop-cons, add-one}
use Rattle.sublist_walk_rules.specs.Walk.{Walked, found, failed}
use Rattle.binding.specs.declared.Resolution.{Resolution}
use Rattle.binding.specs.declared.Resolution.TheVariants.{Routed, NoStream, Ambiguous}
use Rattle.binding.specs.Verdict.{single_home, routed}
use Rattle.whole_move_rules.specs.Move.{text_at, Routes, targets, ended, turned_down, stopped, on_verdict, on_walk, routes}
use Rattle.whole_move.specs.declared.MoveError.{MoveError}
use Rattle.whole_move.specs.declared.MoveError.TheVariants.{Damaged}
use Rattle.whole_move.specs.Answers.{move_refusal}
use Rattle.whole_move.specs.Told.{span_of, verdict_of}
use Rattle.whole_move.proofs.Sound.{sound-accepted}

-- what is left of the verdicts, behind the targets gathered
abbrev pub behind : List ℕ → Routes → Routes
behind ts (targets us) = targets (ts ++ us)
behind ts (ended says) = ended says

-- x is what all subjects come to, those from place i on behind the first i targets; r is the verdict on the one at i
module _ (walk : List ℕ → Walked) (bytes : List ℕ) (spans : List (List ℕ)) (ts : List ℕ) (i : ℕ) (x : Routes)
    (e : behind ts (routes walk i (map (text_at bytes) (map span_of (drop i spans)))) ≡ x) (h : i < length spans) (r : Result Resolution MoveError) where
  abbrev here : List ℕ
  here = get_or spans i []

  module _ (q : r ≡ verdict_of (walk (take (get_or here 0 0 + get_or here 1 0 - get_or here 0 0) (drop (get_or here 0 0) bytes)))) where
    abbrev rest : Routes
    rest = routes walk (i + 1) (map (text_at bytes) (map span_of (drop (i + 1) spans)))

    judged : r ≡ verdict_of (walk (text_at bytes (span_of here)))
    judged = rw (add-sub_cancel_left (get_or here 0 0) (get_or here 1 0)) at q

    step : behind ts (on_walk i (walk (text_at bytes (span_of here))) rest) ≡ x
    step = rw (add-one i) (rw (drop-cons spans i [] h, add-one i) at e)

    pub routes-damaged : (why : MoveError) → r ≡ Err why → ended (turned_down (move_refusal why)) ≡ x
    routes-damaged why k = go (walk (text_at bytes (span_of here))) (sym k ∙ judged) step
      where
        go : (w : Walked) → Err why ≡ verdict_of w → behind ts (on_walk i w rest) ≡ x → ended (turned_down (move_refusal why)) ≡ x
        go (failed f) j s = let z : why ≡ Damaged = cc in rw z s
        go (found list peak) j s = absurd (cc)

    pub routes-stopped : (v : Resolution) → r ≡ Ok v → None ≡ routed v → ended (stopped i v) ≡ x
    routes-stopped v k n = go (walk (text_at bytes (span_of here))) (sym k ∙ judged) step
      where
        ends : (v : Resolution) → None ≡ routed v → behind ts (on_verdict i v rest) ≡ x → ended (stopped i v) ≡ x
        ends (Routed t) n s = absurd (cc)
        ends NoStream n s = s
        ends (Ambiguous m) n s = s

        go : (w : Walked) → Ok v ≡ verdict_of w → behind ts (on_walk i w rest) ≡ x → ended (stopped i v) ≡ x
        go (failed f) j s = absurd (cc)
        go (found list peak) j s = let z : v ≡ single_home list = cc in ends v n (rw z s)

-- each way through a turn
pub ruleset turns = (sound-accepted, routes-damaged, routes-stopped)
