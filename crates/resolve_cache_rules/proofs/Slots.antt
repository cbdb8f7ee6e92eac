-- What keeping and touching a slot leave in each slot, and what the scans over slots find.
use Prim.Native.Nat.{ℕ, zero, suc, ◌+◌, ◌*◌, ◌-◌, ◌/◌, ◌%◌, ◌≤◌, ◌<◌}
use native.Mathlib.Omega.{arith}
use mathlib.Core.Path.{◌≡◌, refl, sym, ◌∙◌, ap}
use mathlib.Core.Logic.{◌≢◌}
use mathlib.Core.Bool.{Bool, true, false}
use mathlib.Core.List.{List}
use mathlib.Core.Option.{none, some}
use lib.Dec.{eqb, ltb}
use lib.ListN.{length, get_or, set, take, length-take, length-drop, length-set}
use lib.Seq.{get_or-set_same, get_or-set_other, drop-set-lt}
use borrow.Author.Tests.{ltb-true, ltb-false, le-ltb, eqb-true, eqb-false, eq-eqb}
use Rattle.subject_rules.specs.Choice.{pick, or}
use Rattle.subject_rules.specs.Text.{same}
use Rattle.subject_rules.proofs.Booleans.{and_both}
use Rattle.sublist_tree.proofs.Bytes.{same-sound, same_whole}
use Rattle.sublist_walk_rules.specs.Walk.{part}
use Rattle.sublist_tree.specs.Lists.{put}
use Rattle.resolve_cache_rules.specs.declared.ResolveCache.{ResolveCache}
use Rattle.resolve_cache_rules.specs.Mark.{mark}
use Rattle.resolve_cache_rules.specs.Area.{Area, key_length, target_count, mark_at, stamp_at, key_at, targets_at, keep_key, keep, touch}
use Rattle.resolve_cache_rules.specs.Cache.{short, bad_slot, bad_from, bad, keeps_at, find_from, oldest_from, place, grown}
use Rattle.resolve_cache_rules.specs.Ready.{Wide}
use Rattle.resolve_cache_rules.proofs.Own.{own_mark}
use Rattle.resolve_cache_rules.proofs.Put.{length-put, part-put, part-before, part_behind}
use Rattle.resolve_cache_rules.proofs.Put.{get_d_put-before}

pub or_false : (a b : Bool) → or a b ≡ false → (a ≡ false) × (b ≡ false)
or_false true b e = (e, cc)
or_false false b e = (refl, e)

-- 18 does not apply
pub not_bad : (c : ResolveCache) (a : Area) → bad c a ≡ false → (1 ≤ c.capacity) × (c.used ≤ c.capacity) × (bad_from c.capacity a.keys 0 c.used ≡ false)
not_bad c a b =
    let p = or_false (eqb c.capacity 0) (or (ltb c.capacity c.used) (bad_from c.capacity a.keys 0 c.used)) b in
    let q = or_false (ltb c.capacity c.used) (bad_from c.capacity a.keys 0 c.used) p.1 in
    (omega (arith, eqb-false c.capacity 0 p.0), ltb-false c.capacity c.used q.0, q.1)

pub short-wide : (n : ℕ) (a : Area) → short n a ≡ false → Wide n a
short-wide n a e =
    let p =
    or_false (ltb 1024 n)
    (or (ltb (length a.stamps) n) (or (ltb (length a.keys) (260 * n)) (ltb (length a.kept) (16 * n)))) e in
    let q = or_false (ltb (length a.stamps) n) (or (ltb (length a.keys) (260 * n)) (ltb (length a.kept) (16 * n))) p.1 in
    let r = or_false (ltb (length a.keys) (260 * n)) (ltb (length a.kept) (16 * n)) q.1 in
    record {
      few = ltb-false 1024 n p.0;
      stamps = ltb-false (length a.stamps) n q.0;
      keys = ltb-false (length a.keys) (260 * n) r.0;
      kept = ltb-false (length a.kept) (16 * n) r.1;
    }

pub wide_short : (n : ℕ) (a : Area) → Wide n a → short n a ≡ false
wide_short n a w =
    rw (le-ltb 1024 n w.few, le-ltb (length a.stamps) n w.stamps, le-ltb (length a.keys) (260 * n) w.keys, le-ltb (length a.kept) (16 * n) w.kept)

-- slot i of c is not bad, and its mark is its key's
pub record Fit (c : ℕ) (keys : List ℕ) (i : ℕ) : Type 0 where
  pub length : key_length c keys i ≤ 256
  pub count : target_count c keys i ≤ 16
  pub mark : mark_at c keys i ≡ mark (key_at c keys i)

-- slot j of c says the same in both areas, but for its stamp
pub record Alike (c : ℕ) (a b : Area) (j : ℕ) : Type 0 where
  pub length : key_length c b.keys j ≡ key_length c a.keys j
  pub count : target_count c b.keys j ≡ target_count c a.keys j
  pub mark : mark_at c b.keys j ≡ mark_at c a.keys j
  pub key : key_at c b.keys j ≡ key_at c a.keys j
  pub targets : targets_at c b.keys b.kept j ≡ targets_at c a.keys a.kept j

pub alike_fit : (c : ℕ) (a b : Area) (j : ℕ) → Alike c a b j → Fit c a.keys j → Fit c b.keys j
alike_fit c a b j o f = record { length = omega (arith, o.length, f.length); count = omega (arith, o.count, f.count); mark = o.mark ∙ f.mark ∙ ap mark (sym o.key) }

-- four places set, one behind the other
module _ (l : List ℕ) (p q r s x y u v : ℕ) (first : p < q) (second : q < r) (third : r < s) (inside : s < length l) where
  abbrev four : List ℕ
  four = set (set (set (set l p x) q y) r u) s v

  length_four : length four ≡ length l
  length_four = simp length-set refl

  four_first : get_or four p 0 ≡ x
  four_first =
      get_or-set_other (set (set (set l p x) q y) r u) s p v 0 (omega arith)
      ∙ get_or-set_other (set (set l p x) q y) r p u 0 (omega arith)
      ∙ get_or-set_other (set l p x) q p y 0 (omega arith)
      ∙ get_or-set_same l p x 0 (omega arith)

  four_second : get_or four q 0 ≡ y
  four_second =
      get_or-set_other (set (set (set l p x) q y) r u) s q v 0 (omega arith)
      ∙ get_or-set_other (set (set l p x) q y) r q u 0 (omega arith)
      ∙ get_or-set_same (set l p x) q y 0 (omega (arith, length-set l p x))

  four_third : get_or four r 0 ≡ u
  four_third =
      get_or-set_other (set (set (set l p x) q y) r u) s r v 0 (omega arith)
      ∙ get_or-set_same (set (set l p x) q y) r u 0 (omega (arith, length-set l p x, length-set (set l p x) q y))

  four_fourth : get_or four s 0 ≡ v
  four_fourth = get_or-set_same (set (set (set l p x) q y) r u) s v 0 (omega (arith, length-set l p x, length-set (set l p x) q y, length-set (set (set l p x) q y) r u))

  four_other : (k : ℕ) → k ≢ p → k ≢ q → k ≢ r → k ≢ s → get_or four k 0 ≡ get_or l k 0
  four_other k a b c d =
      get_or-set_other (set (set (set l p x) q y) r u) s k v 0 d
      ∙ get_or-set_other (set (set l p x) q y) r k u 0 c
      ∙ get_or-set_other (set l p x) q k y 0 b
      ∙ get_or-set_other l p k x 0 a

  four_part : (from m : ℕ) → s < from → part four from m ≡ part l from m
  four_part from m h =
      ap (take m)
      (drop-set-lt from (set (set (set l p x) q y) r u) s v h
      ∙ drop-set-lt from (set (set l p x) q y) r u (omega arith)
      ∙ drop-set-lt from (set l p x) q y (omega arith)
      ∙ drop-set-lt from l p x (omega arith))

module _ (n : ℕ) (a : Area) (w : Wide n a) (i : ℕ) (inside : i < n) where
  -- the bytes of a key that is kept
  module _ (key : List ℕ) (count : ℕ) (filled : 1 ≤ length key) (fits : length key ≤ 256) (few : count ≤ 16) where
    abbrev own : ℕ
    own = own_mark n a.keys i key

    below : 3 * n + i < length a.keys
    below = omega (arith, w.keys)

    abbrev bytes : List ℕ
    bytes = set (set (set (set a.keys i (length key - 1)) (n + i) count) (2 * n + i) (own % 256)) (3 * n + i) (own / 256)

    abbrev keys : List ℕ
    keys = keep_key n a.keys i key count

    bytes-length : length bytes ≡ length a.keys
    bytes-length = length_four a.keys i (n + i) (2 * n + i) (3 * n + i) (length key - 1) count (own % 256) (own / 256) (omega arith) (omega arith) (omega arith) below

    in_keys : 4 * n + 256 * i + length key ≤ length bytes
    in_keys = omega (arith, w.keys, bytes-length)

    keys_length : length keys ≡ length a.keys
    keys_length = length-put bytes (4 * n + 256 * i) key in_keys ∙ bytes-length

    -- the lists lie before the keys
    before : (p : ℕ) → p < 4 * n → get_or keys p 0 ≡ get_or bytes p 0
    before p h = get_d_put-before bytes (4 * n + 256 * i) key in_keys p 0 (omega arith)

    first : get_or keys i 0 ≡ length key - 1
    first = before i (omega arith) ∙ four_first a.keys i (n + i) (2 * n + i) (3 * n + i) (length key - 1) count (own % 256) (own / 256) (omega arith) (omega arith) (omega arith) below

    second : get_or keys (n + i) 0 ≡ count
    second = before (n + i) (omega arith) ∙ four_second a.keys i (n + i) (2 * n + i) (3 * n + i) (length key - 1) count (own % 256) (own / 256) (omega arith) (omega arith) (omega arith) below

    third : get_or keys (2 * n + i) 0 ≡ own % 256
    third = before (2 * n + i) (omega arith) ∙ four_third a.keys i (n + i) (2 * n + i) (3 * n + i) (length key - 1) count (own % 256) (own / 256) (omega arith) (omega arith) (omega arith) below

    fourth : get_or keys (3 * n + i) 0 ≡ own / 256
    fourth = before (3 * n + i) (omega arith) ∙ four_fourth a.keys i (n + i) (2 * n + i) (3 * n + i) (length key - 1) count (own % 256) (own / 256) (omega arith) (omega arith) (omega arith) below

    length_here : key_length n keys i ≡ length key
    length_here = rw (first, second) (let e : 1 + (length key - 1) + 256 * (count / 32) ≡ length key = omega arith in e)

    count_here : target_count n keys i ≡ count
    count_here = rw second (let e : count % 32 ≡ count = omega arith in e)

    mark_here : mark_at n keys i ≡ mark key
    mark_here = rw (third, fourth) (whole own)
      where
        whole : (m : ℕ) → m % 256 + 256 * (m / 256) ≡ m
        whole m = omega arith

    key_here : key_at n keys i ≡ key
    key_here = ap (part keys (4 * n + 256 * i)) length_here ∙ part-put bytes (4 * n + 256 * i) key in_keys

    -- a byte of the lists that is not slot i's
    byte_other : (p : ℕ) → p < 4 * n → p ≢ i → p ≢ n + i → p ≢ 2 * n + i → p ≢ 3 * n + i → get_or keys p 0 ≡ get_or a.keys p 0
    byte_other p b d e f g =
        before p b
        ∙ four_other a.keys i (n + i) (2 * n + i) (3 * n + i) (length key - 1) count (own % 256) (own / 256) (omega arith) (omega arith) (omega arith) below p d e f g

    key_other : (j m : ℕ) → j ≢ i → m ≤ 256 → part keys (4 * n + 256 * j) m ≡ part a.keys (4 * n + 256 * j) m
    key_other j m o s = go (ltb j i) refl ∙ four_part a.keys i (n + i) (2 * n + i) (3 * n + i) (length key - 1) count (own % 256) (own / 256) (omega arith) (omega arith) (omega arith) below (4 * n + 256 * j) m (omega arith)
      where
        go : (b : Bool) → ltb j i ≡ b → part keys (4 * n + 256 * j) m ≡ part bytes (4 * n + 256 * j) m
        go true e = part-before bytes (4 * n + 256 * i) key in_keys (4 * n + 256 * j) m (omega (arith, ltb-true j i e))
        go false e = part_behind bytes (4 * n + 256 * i) key in_keys (4 * n + 256 * j) m (omega (arith, ltb-false j i e))

  module _ (key targets : List ℕ) (stamp : ℕ) (filled : 1 ≤ length key) (fits : length key ≤ 256) (few : length targets ≤ 16) where
    in_kept : 16 * i + length targets ≤ length a.kept
    in_kept = omega (arith, w.kept)

    pub keep-wide : Wide n (keep n a i key targets stamp)
    keep-wide = record {
      few = w.few;
      stamps = rw (length-set a.stamps i stamp) w.stamps;
      keys = rw (keys_length key (length targets) filled fits few) w.keys;
      kept = rw (length-put a.kept (16 * i) targets in_kept) w.kept;
    }

    pub keep-stamp : stamp_at (keep n a i key targets stamp).stamps i ≡ stamp
    keep-stamp = get_or-set_same a.stamps i stamp 0 (omega (arith, w.stamps))

    pub keep_key_lem : key_at n (keep n a i key targets stamp).keys i ≡ key
    keep_key_lem = key_here key (length targets) filled fits few

    pub keep-targets : targets_at n (keep n a i key targets stamp).keys (keep n a i key targets stamp).kept i ≡ targets
    keep-targets =
        ap (part (put a.kept (16 * i) targets) (16 * i)) (count_here key (length targets) filled fits few) ∙ part-put a.kept (16 * i) targets in_kept

    pub keep_fit : Fit n (keep n a i key targets stamp).keys i
    keep_fit = record {
      length = omega (arith, length_here key (length targets) filled fits few);
      count = omega (arith, count_here key (length targets) filled fits few);
      mark = mark_here key (length targets) filled fits few ∙ ap mark (sym keep_key_lem);
    }

    -- another slot
    kept_other : (j m : ℕ) → j ≢ i → m ≤ 16 → part (put a.kept (16 * i) targets) (16 * j) m ≡ part a.kept (16 * j) m
    kept_other j m h s = go (ltb j i) refl
      where
        go : (b : Bool) → ltb j i ≡ b → part (put a.kept (16 * i) targets) (16 * j) m ≡ part a.kept (16 * j) m
        go true e = part-before a.kept (16 * i) targets in_kept (16 * j) m (omega (arith, ltb-true j i e))
        go false e = part_behind a.kept (16 * i) targets in_kept (16 * j) m (omega (arith, ltb-false j i e))

    pub keep-stamp_other : (j : ℕ) → j ≢ i → stamp_at (keep n a i key targets stamp).stamps j ≡ stamp_at a.stamps j
    keep-stamp_other j h = get_or-set_other a.stamps i j stamp 0 h

    pub keep_other : (j : ℕ) → j ≢ i → j < n → Fit n a.keys j → Alike n a (keep n a i key targets stamp) j
    keep_other j h l f =
        let byte = byte_other key (length targets) filled fits few in
        let x = byte j (omega arith) h (omega arith) (omega arith) (omega arith) in
        let y = byte (n + j) (omega arith) (omega arith) (omega arith) (omega arith) (omega arith) in
        let u = byte (2 * n + j) (omega arith) (omega arith) (omega arith) (omega arith) (omega arith) in
        let v = byte (3 * n + j) (omega arith) (omega arith) (omega arith) (omega arith) (omega arith) in
        let p : key_length n (keep n a i key targets stamp).keys j ≡ key_length n a.keys j = rw (x, y) in
        let q : target_count n (keep n a i key targets stamp).keys j ≡ target_count n a.keys j = rw y in
        record {
          length = p;
          count = q;
          mark = rw (u, v);
          key =
              ap (part (keep_key n a.keys i key (length targets)) (4 * n + 256 * j)) p
              ∙ key_other key (length targets) filled fits few j (key_length n a.keys j) h f.length;
          targets = ap (part (put a.kept (16 * i) targets) (16 * j)) q ∙ kept_other j (target_count n a.keys j) h f.count;
        }

  module _ (stamp : ℕ) where
    pub touch-wide : Wide n (touch a i stamp)
    touch-wide = record { few = w.few; stamps = rw (length-set a.stamps i stamp) w.stamps; keys = w.keys; kept = w.kept }

    pub touch-stamp : stamp_at (touch a i stamp).stamps i ≡ stamp
    touch-stamp = get_or-set_same a.stamps i stamp 0 (omega (arith, w.stamps))

    pub touch-stamp_other : (j : ℕ) → j ≢ i → stamp_at (touch a i stamp).stamps j ≡ stamp_at a.stamps j
    touch-stamp_other j h = get_or-set_other a.stamps i j stamp 0 h

-- the length of a list that a slot keeps
pub targets-length : (n : ℕ) (a : Area) (w : Wide n a) (i : ℕ) → i < n → target_count n a.keys i ≤ 16
    → length (targets_at n a.keys a.kept i) ≡ target_count n a.keys i
targets-length n a w i h s = simp (length-take, length-drop) (omega (arith, w.kept))

-- the scans
pub small_good : (c : ℕ) (keys : List ℕ) (i n : ℕ) → ((j : ℕ) → i ≤ j → j < i + n → Fit c keys j) → bad_from c keys i n ≡ false
small_good c keys i zero f = refl
small_good c keys i (suc n) f =
    let s = f i (omega arith) (omega arith) in
    rw (le-ltb 256 (key_length c keys i) s.length, le-ltb 16 (target_count c keys i) s.count) (small_good c keys (suc i) n (λ j p q. f j (omega arith) (omega arith)))

-- 18 does not apply to the slots
pub small_from : (c : ℕ) (keys : List ℕ) (i n : ℕ) → bad_from c keys i n ≡ false → (j : ℕ) → i ≤ j → j < i + n → (key_length c keys j ≤ 256) × (target_count c keys j ≤ 16)
small_from c keys i zero e j h k = absurd (omega arith)
small_from c keys i (suc n) e j h k = go (eqb i j) refl (λ l. small_from c keys (suc i) n both.1 j l (omega arith))
  where
    both : (bad_slot c keys i ≡ false) × (bad_from c keys (suc i) n ≡ false)
    both = or_false (bad_slot c keys i) (bad_from c keys (suc i) n) e

    here : (key_length c keys i ≤ 256) × (target_count c keys i ≤ 16)
    here =
        let neither = or_false (ltb 256 (key_length c keys i)) (ltb 16 (target_count c keys i)) both.0 in
        (ltb-false 256 (key_length c keys i) neither.0, ltb-false 16 (target_count c keys i) neither.1)

    go : (b : Bool) → eqb i j ≡ b → (suc i ≤ j → (key_length c keys j ≤ 256) × (target_count c keys j ≤ 16)) → (key_length c keys j ≤ 256) × (target_count c keys j ≤ 16)
    go true q ih = rw (sym (eqb-true i j q)) here
    go false q ih = ih (omega (arith, eqb-false i j q))

pub record Found (c : ℕ) (keys subject : List ℕ) (i n j : ℕ) : Type 0 where
  pub from : i ≤ j
  pub below : j < i + n
  pub key : key_at c keys j ≡ subject

pub find-sound : (c : ℕ) (keys subject : List ℕ) (i n j : ℕ) → find_from c keys subject i n ≡ some j → Found c keys subject i n j
find-sound c keys subject i zero j e = absurd (cc)
find-sound c keys subject i (suc n) j e = go (keeps_at c keys subject i) refl e (find-sound c keys subject (suc i) n j)
  where
    go : (b : Bool) → keeps_at c keys subject i ≡ b → pick b (some i) (find_from c keys subject (suc i) n) ≡ some j
        → (find_from c keys subject (suc i) n ≡ some j → Found c keys subject (suc i) n j) → Found c keys subject i (suc n) j
    go true q e ih =
        let r : i ≡ j = cc in
        let both = and_both (eqb (mark_at c keys i) (mark subject)) (same (key_at c keys i) subject) q in
        record { from = omega arith; below = omega arith; key = ap (key_at c keys) (sym r) ∙ same-sound (key_at c keys i) subject both.1 }
    go false q e ih = let f = ih e in record { from = omega (arith, f.from); below = omega (arith, f.below); key = f.key }

pub oldest_below : (stamps : List ℕ) (best i n m : ℕ) → best < m → i + n ≤ m → oldest_from stamps best i n < m
oldest_below stamps best i zero m h k = h
oldest_below stamps best i (suc n) m h k = oldest_below stamps (pick (ltb (stamp_at stamps i) (stamp_at stamps best)) i best) (suc i) n m (go (ltb (stamp_at stamps i) (stamp_at stamps best))) (omega arith)
  where
    go : (b : Bool) → pick b i best < m
    go true = omega arith
    go false = h

-- where marks are those of the keys, a subject that is not found is the key of no slot
pub find_none : (c : ℕ) (keys subject : List ℕ) (i n : ℕ) → find_from c keys subject i n ≡ none → (j : ℕ) → i ≤ j → j < i + n → Fit c keys j → key_at c keys j ≡ subject → ⊥
find_none c keys subject i zero e j h k f q = omega arith
find_none c keys subject i (suc n) e j h k f q = go (keeps_at c keys subject i) refl e (find_none c keys subject (suc i) n)
  where
    kept : keeps_at c keys subject j ≡ true
    kept = rw (eq-eqb (mark_at c keys j) (mark subject) (f.mark ∙ ap mark q), q) (same_whole subject)

    go : (b : Bool) → keeps_at c keys subject i ≡ b → pick b (some i) (find_from c keys subject (suc i) n) ≡ none
        → (find_from c keys subject (suc i) n ≡ none → (j : ℕ) → suc i ≤ j → j < suc i + n → Fit c keys j → key_at c keys j ≡ subject → ⊥) → ⊥
    go true p e ih = cc
    go false p e ih =
        let other : i ≡ j → ⊥ = λ r. (let s : keeps_at c keys subject i ≡ true = rw r kept in cc) in
        ih e j (omega (arith, other)) (omega arith) f q

pub oldest_least : (stamps : List ℕ) (best i n : ℕ)
    → (stamp_at stamps (oldest_from stamps best i n) ≤ stamp_at stamps best) × ((j : ℕ) → i ≤ j → j < i + n → stamp_at stamps (oldest_from stamps best i n) ≤ stamp_at stamps j)
oldest_least stamps best i zero = (omega arith, λ j h k. absurd (omega arith))
oldest_least stamps best i (suc n) = go (ltb (stamp_at stamps i) (stamp_at stamps best)) refl (λ m. oldest_least stamps m (suc i) n)
  where
    go : (b : Bool) → ltb (stamp_at stamps i) (stamp_at stamps best) ≡ b
        → ((m : ℕ) → (stamp_at stamps (oldest_from stamps m (suc i) n) ≤ stamp_at stamps m) × ((j : ℕ) → suc i ≤ j → j < suc i + n → stamp_at stamps (oldest_from stamps m (suc i) n) ≤ stamp_at stamps j))
        → (stamp_at stamps (oldest_from stamps (pick b i best) (suc i) n) ≤ stamp_at stamps best)
        × ((j : ℕ) → i ≤ j → j < i + suc n → stamp_at stamps (oldest_from stamps (pick b i best) (suc i) n) ≤ stamp_at stamps j)
    go true e ih = (omega (arith, (ih i).0, ltb-true (stamp_at stamps i) (stamp_at stamps best) e), λ j h k. at j h k (eqb i j) refl)
      where
        at : (j : ℕ) → i ≤ j → j < i + suc n → (d : Bool) → eqb i j ≡ d → stamp_at stamps (oldest_from stamps i (suc i) n) ≤ stamp_at stamps j
        at j h k true q = omega (arith, (ih i).0, ap (stamp_at stamps) (eqb-true i j q))
        at j h k false q = (ih i).1 j (omega (arith, eqb-false i j q)) (omega arith)
    go false e ih = ((ih best).0, λ j h k. at j h k (eqb i j) refl)
      where
        at : (j : ℕ) → i ≤ j → j < i + suc n → (d : Bool) → eqb i j ≡ d → stamp_at stamps (oldest_from stamps best (suc i) n) ≤ stamp_at stamps j
        at j h k true q = omega (arith, (ih best).0, ltb-false (stamp_at stamps i) (stamp_at stamps best) e, ap (stamp_at stamps) (eqb-true i j q))
        at j h k false q = (ih best).1 j (omega (arith, eqb-false i j q)) (omega arith)

-- the slot that a new list goes to is one of the cache's; the slots used then are; and but for that one they were used before
pub record Grows (e : ResolveCache) (a : Area) : Type 0 where
  pub inside : place e a < e.capacity
  pub fits : (grown e).used ≤ e.capacity
  pub others : (j : ℕ) → j ≢ place e a → j < (grown e).used → j < e.used

pub place_grows : (e : ResolveCache) (a : Area) → 1 ≤ e.capacity → e.used ≤ e.capacity → Grows e a
place_grows e a any fits = let g = go (ltb e.used e.capacity) refl in record { inside = g.0; fits = g.1; others = g.2 }
  where
    go : (b : Bool) → ltb e.used e.capacity ≡ b
        → (pick b e.used (oldest_from a.stamps 0 1 (e.used - 1)) < e.capacity) × (pick b (suc e.used) e.used ≤ e.capacity)
        × ((j : ℕ) → j ≢ pick b e.used (oldest_from a.stamps 0 1 (e.used - 1)) → j < pick b (suc e.used) e.used → j < e.used)
    go true q = (ltb-true e.used e.capacity q, omega (arith, ltb-true e.used e.capacity q), λ j n h. omega arith)
    go false q =
        let full = ltb-false e.used e.capacity q in
        (omega (arith, oldest_below a.stamps 0 1 (e.used - 1) e.capacity (omega arith) (omega arith)), fits, λ j n h. h)
