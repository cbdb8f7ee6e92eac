-- The first pass puts every line into the tree that the area holds, counts it where it ends, and says where that is; or there is no room for the tree.
use Prim.Native.Nat.{ℕ, suc, ◌+◌, ◌*◌, ◌%◌, ◌<◌, ◌≤◌, ◌^◌}
use native.Mathlib.Omega.{arith}
use native.Mathlib.Decide.{dec_lt}
use mathlib.Core.Path.{◌≡◌, refl, sym, ap, ◌∙◌, subst}
use mathlib.Core.Bool.{Bool, true, false}
use mathlib.Core.Logic.{◌⊎◌, inl, inr}
use mathlib.Core.List.{List, [], ◌∷◌, ◌++◌, map, append_assoc}
use Rattle.std.proofs.Common.{Result, Err, append-nil}
use lib.Dec.{eqb}
use lib.ListN.{length, get_or, length-append}
use lib.Seq.{get_or-set_other}
use Rattle.subject_rules.specs.Choice.{pick}
use Rattle.sublist_tree.specs.Lists.{All}
use Rattle.sublist_tree.specs.Tree.{Key, Line, line}
use Rattle.sublist_tree.proofs.Bytes.{eqb_sound, eqb_whole}
use Rattle.sublist_trie.proofs.Trie.{Trie, size, ins_t, built_from}
use Rattle.sublist_trie.proofs.Ends.{LineEnd, line_end, ends_from}
use Rattle.sublist_trie.proofs.Runs.{size_pos}
use Rattle.sublist_trie.proofs.Growth.{run_ins}
use Rattle.sublist_area_rules.specs.declared.Placed.{Placed}
use Rattle.sublist_area_rules.specs.declared.PlaceError.{PlaceError}
use Rattle.sublist_area_rules.specs.declared.PlaceError.TheVariants.{Full}
use Rattle.sublist_area_rules.specs.Words.{word}
use Rattle.sublist_area_rules.specs.Growing.{placed_at, grown}
use Rattle.sublist_area_rules.proofs.Grown.{LeftWord, Fits}
use Rattle.sublist_area_rules.proofs.Hashes.{Rep, Grew, RunEnds, rep_store, grown_all, ins_more}
use Rattle.sublist_rules.specs.Passes.{End, end, Growth, growth, stopped, start_word, count_word, counted, joined, line_in, lines_in}
use Rattle.sublist_rules.proofs.Filling.{node_of, end_is_lem, hit, count_ends, end_is, end_own, length-counted, counted_start, counted_own, counted_other}

abbrev pub to_end : LineEnd → End
to_end (line_end j tail target) = end j tail

count_more : (i : ℕ) (b : Bool) (es : List End) (e : End) → count_ends i b (es ++ (e ∷ [])) ≡ count_ends i b es + hit e i b
count_more i b [] e = omega arith
count_more i b (d ∷ es) e = omega (arith, count_more i b es e)

count_most : (i : ℕ) (b : Bool) (es : List End) → count_ends i b es ≤ length es
count_most i b [] = omega arith
count_most i b (e ∷ es) = go (end_is_lem e i b) (count_most i b es)
  where
    go : (h : Bool) → count_ends i b es ≤ length es → pick h 1 0 + count_ends i b es ≤ suc (length es)
    go true l = omega arith
    go false l = omega arith

all_snoc : (P : End → Type 0) (es : List End) (e : End) → All P es → P e → All P (es ++ (e ∷ []))
all_snoc P [] e a p = (p, tt)
all_snoc P (d ∷ es) e a p = (a.0, all_snoc P es e a.1 p)

all_more : (n m : ℕ) (es : List End) → n ≤ m → All (λ e. node_of e < n) es → All (λ e. node_of e < m) es
all_more n m [] l a = tt
all_more n m (e ∷ es) l a = (omega (arith, a.0), all_more n m es l a.1)

-- a node that no line ends at
count_none : (n i : ℕ) (b : Bool) (es : List End) → n ≤ i → All (λ e. node_of e < n) es → count_ends i b es ≡ 0
count_none n i b [] l a = refl
count_none n i b (end j tail ∷ es) l a = go (end_is_lem (end j tail) i b) refl (count_none n i b es l a.1)
  where
    go : (h : Bool) → end_is_lem (end j tail) i b ≡ h → count_ends i b es ≡ 0 → pick h 1 0 + count_ends i b es ≡ 0
    go true e z = absurd (omega (arith, (end_is j tail i b e).0, a.0))
    go false e z = omega arith

-- what holds after some lines: the area holds the tree, its counts are those of the ends, and the words for starts are 0
pub record Entered (a : List ℕ) (t : Trie ℕ) (es : List End) : Type 0 where
  pub rep : Rep a t
  pub inside : All (λ e. node_of e < size t) es
  pub counts : (i : ℕ) (b : Bool) → i < size t → word a i (count_word b) ≡ count_ends i b es
  pub starts : (i : ℕ) (b : Bool) → i < size t → word a i (start_word b) ≡ 0

left-count : (b : Bool) → LeftWord (count_word b)
left-count true = inl (omega arith, omega arith)
left-count false = inl (omega arith, omega arith)

left-start : (b : Bool) → LeftWord (start_word b)
left-start true = inl (omega arith, omega arith)
left-start false = inl (omega arith, omega arith)

rep_counted : (a : List ℕ) (t : Trie ℕ) (j : ℕ) (tail : Bool) → Rep a t → Rep (counted a j tail) t
unfolding counted
rep_counted a t j true r = rep_store a t j 7 ((word a j 7 + 1) % 4294967296) (omega arith) (omega arith) r
rep_counted a t j false r = rep_store a t j 5 ((word a j 5 + 1) % 4294967296) (omega arith) (omega arith) r

-- one line more
module _ (a : List ℕ) (t : Trie ℕ) (es : List End) (ok : Entered a t es) (b : List ℕ) (u : Trie ℕ) (grew : Grew a t b u) (j : ℕ) (tail : Bool) (inside : j < size u) (few : length es + 1 < 4294967296) where
  before_it : (i : ℕ) (c : Bool) → i < size u → word b i (count_word c) ≡ count_ends i c es
  before_it i c l = go (dec_lt i (size t))
    where
      go : Dec (i < size t) → word b i (count_word c) ≡ count_ends i c es
      go (yes h) = grew.old i (count_word c) h (left-count c) ∙ ok.counts i c h
      go (no f) = grew.new i (count_word c) (omega arith) l (left-count c) ∙ sym (count_none (size t) i c es (omega arith) ok.inside)

  counts_it : (i : ℕ) (c : Bool) → i < size u → word (counted b j tail) i (count_word c) ≡ count_ends i c (es ++ (end j tail ∷ []))
  counts_it i c l = go (end_is_lem (end j tail) i c) refl ∙ sym (count_more i c es (end j tail))
    where
      go : (h : Bool) → end_is_lem (end j tail) i c ≡ h → word (counted b j tail) i (count_word c) ≡ count_ends i c es + hit (end j tail) i c
      go true e =
          let q = end_is j tail i c e in
          let room = grew.rep.room in
          subst (λ x. word (counted b j tail) x (count_word c) ≡ count_ends x c es + hit (end j tail) x c) q.0
          (subst (λ x. word (counted b j tail) j (count_word x) ≡ count_ends j x es + hit (end j tail) j x) q.1
          (counted_own b j tail (omega arith) (omega (arith, before_it j tail inside, count_most j tail es, few))
          ∙ omega (arith, before_it j tail inside, ap (λ h. pick {A = ℕ} h 1 0) (end_own j tail))))
      go false e = counted_other b j tail i c e ∙ omega (arith, before_it i c l, ap (λ h. pick {A = ℕ} h 1 0) e)

  entered_more : Entered (counted b j tail) u (es ++ (end j tail ∷ []))
  entered_more = record {
    rep = rep_counted b u j tail grew.rep;
    inside = all_snoc (λ e. node_of e < size u) es (end j tail) (all_more (size t) (size u) es grew.more ok.inside) inside;
    counts = counts_it;
    starts = λ i c l. counted_start b j tail i c ∙ starts_it i c l (dec_lt i (size t));
  }
    where
      starts_it : (i : ℕ) (c : Bool) → i < size u → Dec (i < size t) → word b i (start_word c) ≡ 0
      starts_it i c l (yes h) = grew.old i (start_word c) h (left-start c) ∙ ok.starts i c h
      starts_it i c l (no f) = grew.new i (start_word c) (omega arith) l (left-start c)

-- what the pass ends with: the tree of all lines, in an area whose words behind its nodes are left; or no room
abbrev pub AllIn : List ℕ → Trie ℕ → List End → Growth → Type 0
AllIn a t es g = (b : List ℕ) × (g ≡ growth (size t) b es) × Entered b t es × (length b ≡ length a) × ((x : ℕ) → size t * 16 ≤ x → get_or b x 0 ≡ get_or a x 0)

abbrev pub Stopped : List ℕ → Growth → Type 0
Stopped a g = (b : List ℕ) × (g ≡ stopped b) × (length b ≡ length a)

pub stays : (a : List ℕ) (ls : List (Line ℕ)) → lines_in (stopped a) ls ≡ stopped a
unfolding lines_in line_in
stays a [] = refl
stays a (line ks tail x ∷ ls) = stays a ls

from_more : (ls : List (Line ℕ)) (t : Trie ℕ) → size t ≤ size (built_from eqb t ls)
unfolding built_from
from_more [] t = omega arith
from_more (line ks tail x ∷ ls) t = omega (arith, ins_more ks t 0, from_more ls (ins_t eqb t 0 ks).0)

counted_behind : (a : List ℕ) (j : ℕ) (tail : Bool) (y : ℕ) → j * 16 + 16 ≤ y → get_or (counted a j tail) y 0 ≡ get_or a y 0
unfolding counted
counted_behind a j true y l = get_or-set_other a (j * 16 + 7) y ((word a j 7 + 1) % 4294967296) 0 (λ e. omega arith)
counted_behind a j false y l = get_or-set_other a (j * 16 + 5) y ((word a j 5 + 1) % 4294967296) 0 (λ e. omega arith)

-- one line, and then the others
one_line : (n : ℕ) (a : List ℕ) (es : List End) (ks : List (Key ℕ)) (tail : Bool) (x : ℕ) (ls : List (Line ℕ)) (s : Result Placed PlaceError × List ℕ)
    → grown (placed_at 0 n, a) ks ≡ s → lines_in (growth n a es) (line ks tail x ∷ ls) ≡ lines_in (joined s tail es) ls
unfolding lines_in line_in
one_line n a es ks tail x ls s e = ap (λ r. lines_in (joined r tail es) ls) e

joined_at : (j n : ℕ) (a : List ℕ) (tail : Bool) (es : List End) → joined (placed_at j n, a) tail es ≡ growth n (counted a j tail) (es ++ (end j tail ∷ []))
unfolding joined
joined_at j n a tail es = refl

joined_full : (a : List ℕ) (tail : Bool) (es : List End) → joined (Err Full, a) tail es ≡ stopped a
unfolding joined
joined_full a tail es = refl

-- all lines are put in, or there is no room for their tree
abbrev pub Outcome : List ℕ → Trie ℕ → List End → List (Line ℕ) → Growth → Type 0
Outcome a t es ls g =
    (Fits a (built_from eqb t ls) × AllIn a (built_from eqb t ls) (es ++ map to_end (ends_from eqb t ls)) g)
    ⊎ ((Fits a (built_from eqb t ls) → ⊥) × Stopped a g)

module _ (a : List ℕ) (t : Trie ℕ) (es : List End) (ok : Entered a t es) (ks : List (Key ℕ)) (tail : Bool) (x : ℕ) (ls : List (Line ℕ)) where
  -- the line was put in: b holds the tree with it
  more_lines : (b : List ℕ) (j : ℕ) (u : Trie ℕ) (g : Growth) → Grew a t b u → j < size u → ins_t eqb t 0 ks ≡ (u, j)
      → Outcome (counted b j tail) u (es ++ (end j tail ∷ [])) ls g → Outcome a t es (line ks tail x ∷ ls) g
  unfolding built_from ends_from
  more_lines b j u g grew inside e o =
      subst (λ v. (Fits a (built_from eqb v.0 ls) × AllIn a (built_from eqb v.0 ls) (es ++ (end v.1 tail ∷ map to_end (ends_from eqb v.0 ls))) g)
      ⊎ ((Fits a (built_from eqb v.0 ls) → ⊥) × Stopped a g)) (sym e) (go o)
    where
      long : length (counted b j tail) ≡ length a
      long = length-counted b j tail ∙ grew.same

      behind : (y : ℕ) → size u * 16 ≤ y → get_or (counted b j tail) y 0 ≡ get_or b y 0
      behind y l = counted_behind b j tail y (omega arith)

      go : Outcome (counted b j tail) u (es ++ (end j tail ∷ [])) ls g
          → (Fits a (built_from eqb u ls) × AllIn a (built_from eqb u ls) (es ++ (end j tail ∷ map to_end (ends_from eqb u ls))) g)
          ⊎ ((Fits a (built_from eqb u ls) → ⊥) × Stopped a g)
      go (inl w) =
          let m = w.1 in
          let join = append_assoc es (end j tail ∷ []) (map to_end (ends_from eqb u ls)) in
          inl (
            (omega (arith, w.0.0, long), w.0.1),
            (
              m.0,
              m.1 ∙ ap (growth (size (built_from eqb u ls)) m.0) join,
              subst (Entered m.0 (built_from eqb u ls)) join m.2,
              m.3 ∙ long,
              (λ y l. m.4 y l ∙ behind y (omega (arith, l, from_more ls u)) ∙ grew.behind y (omega (arith, l, from_more ls u))),
            ),
          )
      go (inr w) =
          let m = w.1 in
          inr ((λ f. w.0 (omega (arith, f.0, long), f.1)), (m.0, m.1, m.2 ∙ long))

pub enters : (ls : List (Line ℕ)) (a : List ℕ) (t : Trie ℕ) (es : List End) → Entered a t es → size t < 2 ^ 32 → length es + length ls < 4294967296
    → Outcome a t es ls (lines_in (growth (size t) a es) ls)
unfolding built_from lines_in ends_from
enters [] a t es ok small few =
    inl ((ok.rep.room, small), (a, ap (growth (size t) a) (sym (append-nil es)), subst (Entered a t) (sym (append-nil es)) ok, refl, (λ x l. refl)))
enters (line ks tail x ∷ ls) a t es ok small few =
    go (grown_all ks a t 0 ok.rep (size_pos t) small)
    (λ b w l. enters ls (counted b (ins_t eqb t 0 ks).1 tail) (ins_t eqb t 0 ks).0 (es ++ (end (ins_t eqb t 0 ks).1 tail ∷ [])) w l (omega (arith, length-append es (end (ins_t eqb t 0 ks).1 tail ∷ []))))
  where
    go : RunEnds a t (grown (placed_at 0 (size t), a) ks) (ins_t eqb t 0 ks)
        → ((b : List ℕ) → Entered (counted b (ins_t eqb t 0 ks).1 tail) (ins_t eqb t 0 ks).0 (es ++ (end (ins_t eqb t 0 ks).1 tail ∷ [])) → size (ins_t eqb t 0 ks).0 < 2 ^ 32
        → Outcome (counted b (ins_t eqb t 0 ks).1 tail) (ins_t eqb t 0 ks).0 (es ++ (end (ins_t eqb t 0 ks).1 tail ∷ [])) ls
        (lines_in (growth (size (ins_t eqb t 0 ks).0) (counted b (ins_t eqb t 0 ks).1 tail) (es ++ (end (ins_t eqb t 0 ks).1 tail ∷ []))) ls))
        → Outcome a t es (line ks tail x ∷ ls) (lines_in (growth (size t) a es) (line ks tail x ∷ ls))
    go (inl w) ih =
        let m = w.1 in
        let end_in = (run_ins eqb eqb_sound eqb_whole t ks ok.rep.good).1 in
        let entered = entered_more a t es ok m.0 (ins_t eqb t 0 ks).0 m.2 (ins_t eqb t 0 ks).1 tail end_in (omega arith) in
        subst (Outcome a t es (line ks tail x ∷ ls)) (sym (one_line (size t) a es ks tail x ls (placed_at (ins_t eqb t 0 ks).1 (size (ins_t eqb t 0 ks).0), m.0) m.1 ∙ ap (λ g. lines_in g ls) (joined_at (ins_t eqb t 0 ks).1 (size (ins_t eqb t 0 ks).0) m.0 tail es)))
        (more_lines a t es ok ks tail x ls m.0 (ins_t eqb t 0 ks).1 (ins_t eqb t 0 ks).0 _ m.2 end_in refl (ih m.0 entered w.0.1))
    go (inr w) ih =
        let m = w.1 in
        inr (
          (λ f. w.0 (omega (arith, f.0, from_more ls (ins_t eqb t 0 ks).0), omega (arith, f.1, from_more ls (ins_t eqb t 0 ks).0))),
          (m.0, one_line (size t) a es ks tail x ls (Err Full, m.0) m.1 ∙ ap (λ g. lines_in g ls) (joined_full m.0 tail es) ∙ stays m.0 ls, m.2),
        )
