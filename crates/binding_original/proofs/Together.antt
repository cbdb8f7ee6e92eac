-- What holds between calls on both sides, and what keeps it.
--
--   Together       each pair of snapshots is Both, each pair of caches Sound; and while no two tables that stood had one generation, Right beside every snapshot that a call was made on
--   later          Together → Together one call later
--   with_caches    Together → other caches that are Sound and Right → Together of them
--   stands         Together → a table of generation h in snapshot j on both sides → Together of them, h among those that stood
--   meets          Together → Together of what is known when a call is made on snapshot j
--   stays          Together of y → Together of y as a call on snapshot j leaves it if it leaves the snapshot
use Prim.Native.Nat.{ℕ, suc, ◌≤◌}
use mathlib.Core.Path.{◌≡◌, refl, sym, ◌∙◌, ap, subst, fun_ext}
use mathlib.Core.Bool.{Bool, true, false}
use mathlib.Core.List.{List, ◌∷◌}
use lib.Dec.{eqb}
use borrow.Author.Tests.{eqb-true, eqb-false, ne_eqb}
use Rattle.std.proofs.lemmas.Bool.{true≢false}
use Rattle.subject_rules.specs.Choice.{pick, or}
use Rattle.subject_rules.specs.Fnv.{fnv}
use Rattle.subject_rules.proofs.Booleans.{or_true}
use Rattle.sublist_tree.specs.Lists.{All}
use Rattle.sublist_tree.specs.Table.{TableEntry, root_of, Accepted}
use Rattle.sublist_tree.proofs.Bytes.{eqb_whole}
use Rattle.sublist_walk_rules.specs.Walk.{among}
use Rattle.sublist_original.specs.Original.{Std}
use Rattle.sublist_snapshot.proofs.Copies.{HoldsIn}
use Rattle.binding.specs.Calls.{Kept}
use Rattle.binding.specs.Demand.{worst_of}
use Rattle.resolve_cache_rules.proofs.Slots.{or_false}
use Rattle.binding_original.specs.Original.{SublistSnapshot, ResolveCache}
use Rattle.binding_original.specs.Calls.{SnapshotInArea, Yard, with_cabinet, World, with_snapshot}
use Rattle.binding_original.specs.Caches.{Seen, standing, meeting}
use Rattle.binding_original.proofs.Stamping.{walked_by, Walks}
use Rattle.binding_original.proofs.SameResolve.{Sound, Right, later_sound, stood-sound, new-right}

-- a snapshot of ours and one of the original's hold a table of the same entries under one generation, and their counters are equal
pub record Both (std : Std) (es : List TableEntry) (s : SnapshotInArea) (o : SublistSnapshot ℕ) : Type 0 where
  pub accepted : All Accepted es
  pub worst_case : worst_of es ≤ 1024
  pub holds : HoldsIn s.snapshot s.words (root_of fnv es)
  pub walks : Walks std es o.current
  pub generation : o.current.generation ≡ s.snapshot.generation.0
  pub next : o.next_generation ≡ s.snapshot.next.0

-- the generation of the table that stands in snapshot j
abbrev pub stands_at : Yard → ℕ → ℕ
stands_at y j = (y.snapshots j).snapshot.generation.0

pub record Together (std : Std) (k : Seen) (m : ℕ) (y : Yard) (w : World) : Type 0 where
  pub entries : ℕ → List TableEntry
  pub snapshots : (j : ℕ) → Both std (entries j) (y.snapshots j) (w.snapshots j)
  -- of the snapshots that a call was made on, the table's generation is among those that stood; and no two have one
  pub among-stood : (j : ℕ) → among j k.named ≡ true → among (stands_at y j) k.stood ≡ true
  pub apart : k.mixed ≡ false → (i j : ℕ) → among i k.named ≡ true → among j k.named ≡ true → stands_at y i ≡ stands_at y j → i ≡ j
  pub caches : (i : ℕ) → Sound (k.spoiled i) k.mixed k.stood m (y.caches i) (w.caches i)
  pub right : k.mixed ≡ false → (j : ℕ) → among j k.named ≡ true → (i : ℕ) → Right (walked_by (entries j)) (stands_at y j) (y.caches i) (w.caches i)

-- what is known after a call, by the generation that it stamped and the caches that it spoiled
abbrev pub seen_by : Seen → (ℕ → Bool) → Seen
seen_by t f = record { spoiled = λ j. or (t.spoiled j) (f j); named = t.named; stood = t.stood; mixed = t.mixed }

abbrev pub nothing : ℕ → Bool
nothing j = false

module _ (std : Std) (k : Seen) (m : ℕ) (y : Yard) (w : World) (held : Together std k m y w) where
  -- the same snapshots, other caches
  pub with_caches : (f : ℕ → Bool) (ys : ℕ → Kept) (ws : ℕ → ResolveCache ℕ)
      → ((i : ℕ) → Sound (or (k.spoiled i) (f i)) k.mixed k.stood (suc m) (ys i) (ws i))
      → (k.mixed ≡ false → (j : ℕ) → among j k.named ≡ true → (i : ℕ) → Right (walked_by (held.entries j)) (stands_at y j) (ys i) (ws i))
      → Together std (seen_by k f) (suc m) (record { snapshots = y.snapshots; caches = ys }) (record { snapshots = w.snapshots; caches = ws })
  with_caches f ys ws sound right = record {
    entries = held.entries;
    snapshots = held.snapshots;
    among-stood = held.among-stood;
    apart = held.apart;
    caches = sound;
    right = right;
  }

  -- a cache that stays as it is
  pub later_cache : (f : ℕ → Bool) (i : ℕ) → Sound (or (k.spoiled i) (f i)) k.mixed k.stood (suc m) (y.caches i) (w.caches i)
  later_cache f i =
      later_sound (k.spoiled i) k.mixed k.stood m (y.caches i) (w.caches i) (held.caches i) (or (k.spoiled i) (f i)) (λ e. (or_false (k.spoiled i) (f i) e).0)

  pub later : Together std (seen_by k nothing) (suc m) y w
  later = with_caches nothing y.caches w.caches (later_cache nothing) held.right

  -- ---- a table stands

  module _ (j : ℕ) (es : List TableEntry) (s : SnapshotInArea) (o : SublistSnapshot ℕ) (both : Both std es s o) where
    abbrev h : ℕ
    h = s.snapshot.generation.0

    -- snapshot x then, d says whether it is snapshot j
    abbrev then' : Bool → ℕ → SnapshotInArea
    then' d x = pick d s (y.snapshots x)

    abbrev entries_then : Bool → ℕ → List TableEntry
    entries_then d x = pick d es (held.entries x)

    named-before : (x : ℕ) → eqb j x ≡ false → among x (j ∷ k.named) ≡ true → among x k.named ≡ true
    named-before x q n = rw (ne_eqb x j (λ e. eqb-false j x q (sym e))) at n

    -- a table that stood before has another generation
    other : among h k.stood ≡ false → (x : ℕ) → among x k.named ≡ true → h ≡ stands_at y x → ⊥
    other new x n e = true≢false (sym (ap (λ g. among g k.stood) e ∙ held.among-stood x n) ∙ new)

    pub stands : Together std (standing k j h) m (record { snapshots = λ i. pick (eqb j i) s (y.snapshots i); caches = y.caches }) (with_snapshot w j o)
    stands = record {
      entries = λ x. entries_then (eqb j x) x;
      snapshots = λ x. one x (eqb j x);
      among-stood = λ x n. known x (eqb j x) refl n;
      apart = λ q x z n p e. parted (or_false k.mixed (among h k.stood) q) x (eqb j x) refl z (eqb j z) refl n p e;
      caches = λ i. stood-sound (k.spoiled i) k.mixed k.stood m (y.caches i) (w.caches i) (held.caches i) h;
      right = λ q x n i. kept (or_false k.mixed (among h k.stood) q) x (eqb j x) refl n i;
    }
      where
        one : (x : ℕ) (d : Bool) → Both std (entries_then d x) (then' d x) (pick d o (w.snapshots x))
        one x true = both
        one x false = held.snapshots x

        known : (x : ℕ) (d : Bool) → eqb j x ≡ d → among x (j ∷ k.named) ≡ true → among (then' d x).snapshot.generation.0 (h ∷ k.stood) ≡ true
        known x true q n = rw (eqb_whole h)
        known x false q n = rw (held.among-stood x (named-before x q n)) (or_true (eqb (stands_at y x) h))

        parted : (k.mixed ≡ false) × (among h k.stood ≡ false) → (x : ℕ) (d : Bool) → eqb j x ≡ d → (z : ℕ) (c : Bool) → eqb j z ≡ c
            → among x (j ∷ k.named) ≡ true → among z (j ∷ k.named) ≡ true → (then' d x).snapshot.generation.0 ≡ (then' c z).snapshot.generation.0 → x ≡ z
        parted new x true q z true r n p e = sym (eqb-true j x q) ∙ eqb-true j z r
        parted new x true q z false r n p e = absurd (other new.1 z (named-before z r p) e)
        parted new x false q z true r n p e = absurd (other new.1 x (named-before x q n) (sym e))
        parted new x false q z false r n p e = held.apart new.0 x z (named-before x q n) (named-before z r p) e

        kept : (k.mixed ≡ false) × (among h k.stood ≡ false) → (x : ℕ) (d : Bool) → eqb j x ≡ d → among x (j ∷ k.named) ≡ true
            → (i : ℕ) → Right (walked_by (entries_then d x)) (then' d x).snapshot.generation.0 (y.caches i) (w.caches i)
        kept new x true q n i = new-right (k.spoiled i) k.mixed k.stood m (y.caches i) (w.caches i) (held.caches i) (walked_by es) h new.0 new.1
        kept new x false q n i = held.right new.0 x (named-before x q n) i

-- ---- a call is made on snapshot j

-- what is put back in its place
pub put_back : {A : Type 0} (f : ℕ → A) (j : ℕ) → (λ i. pick (eqb j i) (f j) (f i)) ≡ f
put_back f j = fun_ext λ i. go i (eqb j i) refl
  where
    go : (i : ℕ) (d : Bool) → eqb j i ≡ d → pick d (f j) (f i) ≡ f i
    go i true q = ap f (eqb-true j i q)
    go i false q = refl

pub stays : (std : Std) (k : Seen) (m : ℕ) (y : Yard) (w : World) (j : ℕ) → Together std k m y w
    → Together std k m (with_cabinet y j (record { snapshot = (y.snapshots j).snapshot; words = (y.snapshots j).words; caches = y.caches })) w
stays std k m y w j held = subst (λ f. Together std k m (record { snapshots = f; caches = y.caches }) w) (sym (put_back y.snapshots j)) held

pub meets : (std : Std) (k : Seen) (m : ℕ) (y : Yard) (w : World) (j : ℕ) → Together std k m y w → Together std (meeting k j (stands_at y j)) m y w
meets std k m y w j held = go (among j k.named)
  where
    met : Together std (standing k j (stands_at y j)) m (record { snapshots = λ i. pick (eqb j i) (y.snapshots j) (y.snapshots i); caches = y.caches }) (with_snapshot w j (w.snapshots j))
    met = stands std k m y w held j (held.entries j) (y.snapshots j) (w.snapshots j) (held.snapshots j)

    go : (d : Bool) → Together std (pick d k (standing k j (stands_at y j))) m y w
    go true = held
    go false =
        subst (λ f. Together std (standing k j (stands_at y j)) m y (record { snapshots = f; caches = w.caches })) (put_back w.snapshots j)
        (subst (λ f. Together std (standing k j (stands_at y j)) m (record { snapshots = f; caches = y.caches }) (with_snapshot w j (w.snapshots j))) (put_back y.snapshots j) met)

-- and snapshot j is named then
pub met-named : (k : Seen) (j g : ℕ) → among j (meeting k j g).named ≡ true
met-named k j g = go (among j k.named) refl
  where
    go : (d : Bool) → among j k.named ≡ d → among j (pick d k (standing k j g)).named ≡ true
    go true q = q
    go false q = rw (eqb_whole j)
