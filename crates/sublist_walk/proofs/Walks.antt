-- What each way through a turn of `walk`'s loop, and its end, make of a walk: w is what it ends with.
use Rattle.std.proofs.Common.{◌≡◌, ℕ, ◌+◌, ◌-◌, ◌*◌, ◌≤◌, min, max, List, [], ◌∷◌, ◌++◌, map, length, take, drop, refl, sym, ap, ◌∙◌, arith, length-append}
use lib.Seq.{sets}
use Rattle.std.proofs.lemmas.List.{length-map, nil_from_length}
use borrow.Rule.Slice.PartMut.{put_mid}
use Rattle.subject_rules.specs.Text.{tokens}
use Rattle.subject_rules.specs.Fnv.{fnv}
use Rattle.subject_rules.proofs.Tokens.{tokens_most}
use Rattle.sublist_walk_rules.specs.Walk.{Level, level, broken, at, stuck, Walked, failed, visits, arrived, on_token, on_tokens, exact, found, listed, ended, walk_over}
use Rattle.sublist_walk_rules.specs.declared.Failure.{Failure}
use Rattle.sublist_walk.specs.Told.{Added}
use Rattle.sublist_walk.proofs.Stores.{behind_stored}
use Rattle.sublist_walk.proofs.Visits.{why_of, list_of, visiting, collecting, all_failed, all_on}
use Rattle.sublist_walk_rules.proofs.Narrow.{exact-any}

-- a frontier, and the list and the peak so far: with the hashes left the walk ends with w; at most 2^42 targets are listed for each token
pub record Under (w : Walked) (k : ℕ) (a : List ℕ) (n m : ℕ) (ts front : List ℕ) (peak count : ℕ) (hs out now : List ℕ) : Type 0 where
  pub list : List ℕ
  pub same : ended k a n m ts (on_tokens k a n m ts (at front list peak) hs) ≡ w
  pub counts : count ≡ length list
  pub most : count + length hs * 4398046511104 ≤ 4097 * 4398046511104
  pub stored : now ≡ sets out 0 list

-- the hashes left, by the tokens left
pub hashes-next : (left rest : List (List ℕ)) (token : List ℕ) (hash : ℕ) → left ≡ token ∷ rest → hash ≡ fnv token → map fnv left ≡ hash ∷ map fnv rest
hashes-next left rest token hash e f = rw (e, f)

module _ (k : ℕ) (a : List ℕ) (n m : ℕ) (ts : List ℕ) where
  -- the root alone
  pub at-root : (subject out : List ℕ) → length subject ≤ 4096
      → Under (walk_over k a n m ts (map fnv (tokens subject))) k a n m ts (0 ∷ []) 1 0 (map fnv (tokens subject)) out out
  unfolding walk_over
  at-root subject out s = record {
    list = [];
    same = refl;
    counts = refl;
    most = rw length-map (omega (arith, tokens_most subject));
    stored = refl;
  }

  tokens-stuck : (why : Failure) (hs : List ℕ) → on_tokens k a n m ts (stuck why) hs ≡ stuck why
  unfolding on_tokens on_token
  tokens-stuck why [] = refl
  tokens-stuck why (h ∷ hs) = tokens-stuck why hs

  -- no frontier, no change
  tokens_idle : (list : List ℕ) (peak : ℕ) (hs : List ℕ) → on_tokens k a n m ts (at [] list peak) hs ≡ at [] list peak
  unfolding on_tokens on_token arrived visits
  tokens_idle list peak [] = refl
  tokens_idle list peak (h ∷ hs) =
      let e : max peak 0 ≡ peak = omega arith in
      rw e (tokens_idle list peak hs)

  module _ (w : Walked) (front : List ℕ) (peak count : ℕ) (hs out now : List ℕ) (u : Under w k a n m ts front peak count hs out now) where
    -- one token more
    module _ (h : ℕ) (rest : List ℕ) (some : hs ≡ h ∷ rest) where
      next : ended k a n m ts (on_tokens k a n m ts (arrived k a n m ts peak (visits k a n m ts h (level [] u.list) front)) rest) ≡ w
      unfolding on_tokens on_token
      next = rw some at u.same

      pub goes_on : (front1 : List ℕ) (peak1 count1 r : ℕ) (after : List ℕ) → r ≡ min (length now) count
          → Added (visits k a n m ts h (level [] []) front) front1 count1 1024 (take (length now - r) (drop r now)) after
          → peak1 ≡ max (length front1) peak → Under w k a n m ts front1 peak1 (count + count1) rest out (put_mid r (length now - r) now after)
      unfolding arrived
      goes_on front1 peak1 count1 r after p v q =
          let e : peak1 ≡ max peak (length front1) = omega arith in
          record {
            list = u.list ++ v.list;
            same = rw e (rw (all_on _ _ (visiting k a n m ts h) u.list front front1 v.list v.is) at next);
            counts = rw (length-append u.list v.list) (let x = u.counts in let y = v.counts in omega arith);
            most = let x = u.most in let y = v.most in let z = ap length some in omega arith;
            stored = behind_stored out u.list v.list now after r (rw u.counts at p) u.stored v.stored;
          }

  -- the ways out: a failure at a token, an empty frontier behind one, a failure at the end, the end
  module _ (front list : List ℕ) (peak : ℕ) where
    module _ (h : ℕ) (rest : List ℕ) where
      abbrev met : Level
      met = visits k a n m ts h (level [] []) front

      turn : on_tokens k a n m ts (at front list peak) (h ∷ rest) ≡ on_tokens k a n m ts (arrived k a n m ts peak (visits k a n m ts h (level [] list) front)) rest
      unfolding on_tokens on_token
      turn = refl

      pub goes_wrong : met ≡ broken (why_of met)
          → ended k a n m ts (on_tokens k a n m ts (at front list peak) (h ∷ rest)) ≡ failed (why_of met)
      unfolding arrived ended
      goes_wrong e = rw (turn, all_failed _ _ (visiting k a n m ts h) list front _ e, tokens-stuck (why_of met) rest)

      pub goes_out : (new : List ℕ) → met ≡ level new (list_of met) → length new ≡ 0
          → ended k a n m ts (on_tokens k a n m ts (at front list peak) (h ∷ rest)) ≡ found (list ++ list_of met) (max (length new) peak)
      unfolding arrived ended exact listed
      goes_out new e none =
          let d : max peak (length new) ≡ max (length new) peak = omega arith in
          rw (turn, all_on _ _ (visiting k a n m ts h) list front new _ e, d, nil_from_length new none)
          (rw (tokens_idle (list ++ list_of met) (max 0 peak) rest) refl)

    abbrev met_last : Level
    met_last = exact 0 a 0 m ts (level [] []) front

    pub ends_wrong : met_last ≡ broken (why_of met_last)
        → ended k a n m ts (on_tokens k a n m ts (at front list peak) []) ≡ failed (why_of met_last)
    unfolding on_tokens ended listed
    ends_wrong e = rw (all_failed _ _ (collecting k a n m ts) list front _ (exact-any k a n m ts (level [] []) front ∙ e))

    pub ends_on : met_last ≡ level [] (list_of met_last)
        → ended k a n m ts (on_tokens k a n m ts (at front list peak) []) ≡ found (list ++ list_of met_last) peak
    unfolding on_tokens ended listed
    ends_on e = rw (all_on _ _ (collecting k a n m ts) list front [] _ (exact-any k a n m ts (level [] []) front ∙ e))

-- the loop's start, a turn, and the ways out
pub ruleset turns = (hashes-next, at-root, goes_on, goes_wrong, goes_out, ends_wrong, ends_on, behind_stored, length-append)
