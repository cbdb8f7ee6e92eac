-- What an accepted build leaves: its areas hold the tree of its entries, whose worst case is at most 1,024, and the places behind are left.
use Prim.Native.Nat.{ℕ, zero, suc, ◌+◌, ◌-◌, ◌*◌, ◌/◌, ◌<◌, ◌≤◌, ◌^◌}
use native.Mathlib.Omega.{arith}
use mathlib.Core.Path.{◌≡◌, refl, sym, ap, ◌∙◌, subst}
use mathlib.Core.Bool.{Bool, true, false}
use mathlib.Core.List.{List, [], ◌∷◌, map}
use mathlib.Core.Option.{Option, none, some}
use lib.Dec.{eqb, ltb}
use lib.ListN.{length, get_or}
use borrow.Author.Tests.{le-ltb, ltb-true, ltb-false}
use Rattle.subject_rules.specs.Choice.{pick}
use Rattle.subject_rules.specs.Answers.{Answer, answer, unless}
use Rattle.subject_rules.specs.Grammar.{grammar, first_of}
use Rattle.sublist_tree.specs.Lists.{All}
use Rattle.sublist_tree.specs.Table.{Accepted}
use Rattle.sublist_trie.proofs.Trie.{Trie, size, built}
use Rattle.sublist_trie.proofs.Runs.{size_pos}
use Rattle.sublist_trie.proofs.Ends.{ends_of}
use Rattle.sublist_area_rules.specs.Growing.{planted}
use Rattle.sublist_area_rules.proofs.Stores.{planted_behind}
use Rattle.sublist_walk_rules.specs.Holds.{Holds}
use Rattle.sublist_entries.specs.declared.Entry.{Entry}
use Rattle.sublist_entries.specs.Entries.{text_of, target_word, read_from, lines_of}
use Rattle.sublist_rules.specs.Building.{invalid, bad_entry, bad_entries, needed, worst_of, over_limit, build_says}
use Rattle.sublist_rules.specs.Passes.{End, Growth, growth, stopped, lines_in, settled, laid, Filling, filling, last_passes}
use Rattle.sublist_rules.specs.Leaving.{started, build_leaves}
use Rattle.sublist_rules.specs.Passes.{node_words_in, target_words_in}
use Rattle.sublist_rules.proofs.Entering.{to_end, AllIn}
use Rattle.sublist_rules.proofs.Over.{within, not_over}
use Rattle.sublist_rules.proofs.Standing.{target_end, stands, targets-kept}
use Rattle.sublist_rules.proofs.Composed.{says_of, long, no_room, all_accepted, needs, ends-length, end-targets, entered}
use Rattle.sublist_rules.proofs.Behind.{settled-left, laid-left, filled-left}
use Rattle.sublist_rules.proofs.Keeping.{finished_keeps}

-- what an accepted answer says
pub record Taken (es : List Entry) (store : List ℕ) (room places : ℕ) : Type 0 where
  pub few : length es ≤ 2048
  pub sound : bad_entries store 0 es ≡ none
  pub fits : needed store es ≤ room
  pub wide : length es ≤ places
  pub fork : worst_of store es ≤ 1024

-- an entry's refusal is none of success
abbrev Refusing : Option Answer → Type 0
Refusing none = Unit {0}
Refusing (some (answer zero vs)) = ⊥
Refusing (some (answer (suc k) vs)) = Unit {0}

refusing-entry : (store : List ℕ) (i : ℕ) (e : Entry) → Refusing (bad_entry store i e)
refusing-entry store i e = go (ltb (length store) (e.start + e.length)) (grammar true (text_of store e))
  where
    go : (b : Bool) (g : Answer) → Refusing (pick b (some (answer 12 (i ∷ []))) (invalid g))
    go true g = tt
    go false (answer zero vs) = tt
    go false (answer (suc k) vs) = tt

refusing-first : (o p : Option Answer) → Refusing o → Refusing p → Refusing (first_of o p)
refusing-first none p q r = r
refusing-first (some (answer zero vs)) p q r = q
refusing-first (some (answer (suc k) vs)) p q r = tt

refusing : (store : List ℕ) (i : ℕ) (es : List Entry) → Refusing (bad_entries store i es)
refusing store i [] = tt
refusing store i (e ∷ es) = refusing-first (bad_entry store i e) (bad_entries store (i + 1) es) (refusing-entry store i e) (refusing store (i + 1) es)

pub taken : (es : List Entry) (store : List ℕ) (room places generation : ℕ) (vs : List ℕ) → build_says es store room places generation ≡ answer 0 vs
    → Taken es store room places × (vs ≡ needed store es ∷ worst_of store es ∷ generation ∷ [])
unfolding build_says
taken es store room places generation vs e =
    go (ltb 2048 (length es)) refl (bad_entries store 0 es) refl (ltb room (needed store es)) refl (ltb places (length es)) refl (over_limit (worst_of store es)) refl e
  where
    go : (b : Bool) → ltb 2048 (length es) ≡ b → (o : Option Answer) → bad_entries store 0 es ≡ o → (c : Bool) → ltb room (needed store es) ≡ c
        → (d : Bool) → ltb places (length es) ≡ d → (f : Bool) → over_limit (worst_of store es) ≡ f
        → pick b (answer 10 []) (unless o (says_of es store generation c d f)) ≡ answer 0 vs
        → Taken es store room places × (vs ≡ needed store es ∷ worst_of store es ∷ generation ∷ [])
    go true p o q c r d s f t e = absurd (cc)
    go false p (some (answer zero ws)) q c r d s f t e = absurd (subst Refusing q (refusing store 0 es))
    go false p (some (answer (suc k) ws)) q c r d s f t e = absurd (cc)
    go false p none q true r d s f t e = absurd (cc)
    go false p none q false r true s f t e = absurd (cc)
    go false p none q false r false s true t e = absurd (cc)
    go false p none q false r false s false t e = (
      record { few = ltb-false 2048 (length es) p; sound = q; fits = ltb-false room (needed store es) r; wide = ltb-false places (length es) s; fork = not_over (worst_of store es) t },
      cc,
    )

-- an accepted build
module _ (es : List Entry) (store a ts : List ℕ) (t : Taken es store (length a / 16) (length ts)) where
  abbrev T : Trie ℕ
  T = built eqb (lines_of store es)

  abbrev E : List End
  E = map to_end (ends_of eqb (lines_of store es))

  -- what the first pass leaves
  abbrev m : AllIn (planted a) T E (lines_in (growth 1 (planted a) []) (lines_of store es))
  m = entered es store t.few t.sound a t.fits

  abbrev b : List ℕ
  b = m.0

  -- the ends of the lines and their targets
  abbrev ends : List ℕ
  ends = map target_end (ends_of eqb (lines_of store es))

  long-ends : length E ≡ length es
  long-ends = ends-length es store t.few t.sound

  wide-ends : length E ≤ length ts
  wide-ends = omega (arith, long-ends, t.wide)

  few-ends : length E < 2 ^ 32
  few-ends = omega (arith, long-ends, t.few)

  pub leaves_are : build_leaves es store a ts ≡ last_passes (size T) b ts E (map target_word es)
  unfolding build_leaves
  leaves_are =
      rw (
        le-ltb 2048 (length es) t.few,
        t.sound,
        le-ltb (length a) 16 (long es store t.few t.sound a t.fits),
        m.1,
        le-ltb (length ts) (length es) t.wide,
        within (worst_of store es) t.fork,
      ) refl

  -- areas hold the tree of the entries, with so many nodes and targets
  abbrev Held : Filling → ℕ → ℕ → Type 0
  Held f nodes targets = Holds (node_words_in f) nodes targets (target_words_in f) (lines_of store es)

  -- those of the build do
  pub build_stands : Holds (node_words_in (build_leaves es store a ts)) (needed store es) (length es) (target_words_in (build_leaves es store a ts)) (lines_of store es)
  build_stands =
      subst (λ f. Held f (needed store es) (length es)) (sym leaves_are)
      (subst (λ xs. Held (last_passes (size T) b ts E xs) (needed store es) (length es)) (end-targets es store t.few t.sound)
      (subst (λ n. Held (last_passes (size T) b ts E ends) n (length es)) (needs es store t.few t.sound)
      (subst (λ k. Held (last_passes (size T) b ts E ends) (size T) k) long-ends (stands (lines_of store es) b m.2 ts wide-ends few-ends))))

  pub build-accepted : All Accepted (read_from store es)
  build-accepted = all_accepted es store t.few t.sound

  -- the node words behind are left
  pub nodes-left : (x : ℕ) → needed store es * 16 ≤ x → get_or (node_words_in (build_leaves es store a ts)) x 0 ≡ get_or a x 0
  nodes-left x h =
      let n = needs es store t.few t.sound in
      let up : size T * 16 ≤ x = omega arith in
      let up16 : 16 ≤ x = omega (arith, size_pos T) in
      ap (λ f. get_or (node_words_in f) x 0) leaves_are
      ∙ filled-left E (map target_word es) (laid (settled b (size T - 1)) 0 (size T) 0) ts (size T) m.2.inside x up
      ∙ laid-left (size T) 0 (settled b (size T - 1)) 0 (size T) (omega arith) x up
      ∙ settled-left (size T - 1) b (size T) (omega (arith, size_pos T)) x up
      ∙ m.4 x up ∙ planted_behind a x up16

  -- and so are the target words behind
  pub places-left : (p : ℕ) → length es ≤ p → get_or (target_words_in (build_leaves es store a ts)) p 0 ≡ get_or ts p 0
  places-left p h =
      ap (λ f. get_or (target_words_in f) p 0) leaves_are
      ∙ ap (λ xs. get_or (target_words_in (last_passes (size T) b ts E xs)) p 0) (sym (end-targets es store t.few t.sound))
      ∙ targets-kept (lines_of store es) b m.2 ts wide-ends few-ends p (omega (arith, long-ends))

-- a refused build leaves the targets
pub refused-targets : (es : List Entry) (store a ts : List ℕ) (generation k : ℕ) (vs : List ℕ) → build_says es store (length a / 16) (length ts) generation ≡ answer (suc k) vs
    → target_words_in (build_leaves es store a ts) ≡ ts
unfolding build_says build_leaves
refused-targets es store a ts generation k vs refused = go (ltb 2048 (length es)) refl (bad_entries store 0 es) refl (ltb (length a) 16) refl refused
  where
    go : (b : Bool) → ltb 2048 (length es) ≡ b → (o : Option Answer) → bad_entries store 0 es ≡ o → (c : Bool) → ltb (length a) 16 ≡ c
        → pick b (answer 10 []) (unless o (says_of es store generation (ltb (length a / 16) (needed store es)) (ltb (length ts) (length es)) (over_limit (worst_of store es)))) ≡ answer (suc k) vs
        → target_words_in (pick b (filling a ts) (started es store a ts o)) ≡ ts
    go true p o q c r e = refl
    go false p (some x) q c r e = refl
    go false p none q true r e = rw r refl
    go false p none q false r e =
        rw r (finished_keeps es store ts (lines_in (growth 1 (planted a) []) (lines_of store es)) (λ s t n b ends g. never s t n b ends g (ltb (length a / 16) (needed store es)) refl))
      where
        never : ltb (length ts) (length es) ≡ false → over_limit (worst_of store es) ≡ false → (n : ℕ) (b : List ℕ) (ends : List End) → lines_in (growth 1 (planted a) []) (lines_of store es) ≡ growth n b ends
            → (c : Bool) → ltb (length a / 16) (needed store es) ≡ c → ⊥
        never s t n b ends g true u =
            let m = no_room es store (ltb-false 2048 (length es) p) q a (ltb-true (length a / 16) (needed store es) u) in
            let z : ◌≡◌ {A = Growth} (growth n b ends) (stopped m.0) = sym g ∙ (rw r at m.1) in
            let y : ◌≡◌ {A = ℕ} 0 1 = cc in omega arith
        never s t n b ends g false u =
            let z : answer 0 (needed store es ∷ worst_of store es ∷ generation ∷ []) ≡ answer (suc k) vs = rw (u, s, t) at e in
            let y : ◌≡◌ {A = ℕ} 0 1 = cc in omega arith
