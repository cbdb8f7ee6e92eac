-- What each way through a turn over a pattern's tokens makes of the run of its line.
use Rattle.std.proofs.Common.{◌≡◌, ℕ, Bool, true, false, List, [], ◌∷◌, Result, Ok, Err, sym, refl, ◌∙◌}
use Rattle.subject_rules.specs.Text.{is_tail}
use Rattle.subject_rules.specs.Fnv.{fnv}
use Rattle.sublist_tree.specs.Tree.{Key, Line, line, onto, line_of}
use Rattle.sublist_area_rules.specs.declared.Placed.{Placed}
use Rattle.sublist_area_rules.specs.declared.PlaceError.{PlaceError}
use Rattle.sublist_area_rules.specs.Growing.{child_or_new, onward, grown}
use Rattle.sublist_rules.specs.Passes.{end, Growth, growth, stopped}
use Rattle.sublist_area_rules.specs.Words.{token_key}
use Rattle.sublist_rules.specs.Core.{run_in}

refusal-stays : (e : PlaceError) (a : List ℕ) (ks : List (Key ℕ)) → grown (Err e, a) ks ≡ (Err e, a)
unfolding grown onward
refusal-stays e a [] = refl
refusal-stays e a (k ∷ ks) = refusal-stays e a ks

run_stuck : (e : PlaceError) (a : List ℕ) (l : Line ℕ) → run_in (Err e, a) l ≡ stopped a
unfolding run_in
run_stuck e a (line ks tail target) = rw (refusal-stays e a ks)

run_onto : (s : Result Placed PlaceError × List ℕ) (k : Key ℕ) (l : Line ℕ) → run_in s (onto k l) ≡ run_in (onward s.0 s.1 k) l
unfolding run_in grown
run_onto s k (line ks tail target) = refl

-- the first token of a line
line-tail : (t : List ℕ) (ts : List (List ℕ)) (x : ℕ) → is_tail t ≡ true → line_of fnv (t ∷ ts) x ≡ line [] true x
line-tail t ts x e = rw e

line_key : (t : List ℕ) (ts : List (List ℕ)) (x : ℕ) → is_tail t ≡ false → line_of fnv (t ∷ ts) x ≡ onto (token_key t) (line_of fnv ts x)
line_key t ts x e = rw e

-- x is where the whole line comes, and the tokens that are left lead there from a node, in a
module _ (x : Growth) (a : List ℕ) (p : Placed) (ts : List (List ℕ)) (e : run_in (Ok p, a) (line_of fnv ts 0) ≡ x) where
  pub run_end : ts ≡ [] → growth p.count a (end p.node false ∷ []) ≡ x
  unfolding run_in grown
  run_end none = rw none at e

  -- one of them is left, which is told to be `>` or not
  module _ (t : List ℕ) (rest : List (List ℕ)) (next : ts ≡ t ∷ rest) (b : Bool) (told : b ≡ is_tail t) where
    pub run_tail : b ≡ true → growth p.count a (end p.node true ∷ []) ≡ x
    unfolding run_in grown
    run_tail q = rw (next, line-tail t rest 0 (sym told ∙ q)) at e

    -- its key is looked up or made
    module _ (q : b ≡ false) (k : Key ℕ) (key : k ≡ token_key t) (r : Result Placed PlaceError) (c : List ℕ) (s : (r, c) ≡ child_or_new a p.count p.node k) where
      run_turn : run_in (r, c) (line_of fnv rest 0) ≡ x
      unfolding onward
      run_turn = rw (s, key) (sym (run_onto (Ok p, a) _ _) ∙ (rw (next, line_key t rest 0 (sym told ∙ q)) at e))

      pub run_on : (m : Placed) → r ≡ Ok m → run_in (Ok m, c) (line_of fnv rest 0) ≡ x
      run_on m h = rw h at run_turn

      pub run_stop : (f : PlaceError) → r ≡ Err f → stopped c ≡ x
      run_stop f h = sym (run_stuck f c _) ∙ (rw h at run_turn)
