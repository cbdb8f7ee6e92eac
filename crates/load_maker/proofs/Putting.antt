-- One token more of a text that is written: what is left to write gives what all of it gives.
use Rattle.std.proofs.Common.{◌≡◌, ◌≢◌, ℕ, suc, ◌+◌, ◌-◌, ◌*◌, ◌<◌, Bool, List, nat_eq, arith}
use Rattle.std.proofs.lemmas.Bool.{eq-eqb, ne_eqb}
use Rattle.std.proofs.Math.Dec.{eqb-suc-zero}
use Rattle.std.proofs.lemmas.List.Edits.{sets}
use Rattle.std.proofs.Math.ListN.{set}
use Rattle.subject_rules.specs.Text.{joined}
use Rattle.load_maker_rules.specs.Xorshift.{draw, draws}
use Rattle.load_maker_rules.specs.Load.{token_byte, made_tokens}

module _ (i count s d : ℕ) (h : i < count) (e : d ≡ draw s) where
  -- a draw
  pub drawn : draws (count - (i + 1)) d ≡ draws (count - i) s
  drawn = let left : count - i ≡ suc (count - (i + 1)) = omega arith in rw (left, e)

  module _ (wild : Bool) (out : List ℕ) (b : ℕ) (q : b ≡ token_byte wild (nat_eq (i + 1) count) d) where
    -- a token, and a dot if one more is left
    pub put_inner : i + 1 ≢ count
        → sets (set (set out (2 * i) b) (2 * i + 1) 0x2e) (2 * (i + 1)) (joined (made_tokens wild (count - (i + 1)) d))
        ≡ sets out (2 * i) (joined (made_tokens wild (count - i) s))
    put_inner n =
        let left : count - i ≡ suc (suc (count - (i + 2))) = omega arith in
        let behind : count - (i + 1) ≡ suc (count - (i + 2)) = omega arith in
        let next : 2 * i + 1 ≡ suc (2 * i) = omega arith in
        let after : 2 * (i + 1) ≡ suc (suc (2 * i)) = omega arith in
        rw (q, ne_eqb (i + 1) count n, left, behind, next, after, e, eqb-suc-zero)

    pub put_last : i + 1 ≡ count
        → sets (set out (2 * i) b) (2 * (i + 1)) (joined (made_tokens wild (count - (i + 1)) d))
        ≡ sets out (2 * i) (joined (made_tokens wild (count - i) s))
    put_last l =
        let left : count - i ≡ 1 = omega arith in
        let behind : count - (i + 1) ≡ 0 = omega arith in
        rw (q, eq-eqb (i + 1) count l, left, behind, e)

-- each way through a turn
pub ruleset turns = (drawn, put_inner, put_last)
