-- Entries of a HashMap: what get, refresh, remove and insert do to each, and to their number.
use Prim.Native.Nat.{ℕ, suc}
use mathlib.Core.Path.{◌≡◌, refl, sym, ◌∙◌, ap, subst}
use mathlib.Core.Logic.{◌⊎◌, inl, inr}
use mathlib.Core.Bool.{Bool, true, false}
use mathlib.Core.List.{List, [], ◌∷◌, ◌++◌, Memᴰ}
use mathlib.Core.Option.{none, some}
use lib.ListN.{length}
use Rattle.subject_rules.specs.Original.{when◌then◌else◌, equal}
use Rattle.subject_rules.proofs.SameMatching.{equal-same}
use Rattle.sublist_tree.proofs.Bytes.{same-sound, same_whole}
use Rattle.binding_original.specs.Original.{CacheEntry, HashMap, Each, get, refresh, remove}

-- a key and its entry
abbrev pub Pair : Type 0
Pair = List ℕ × CacheEntry ℕ

equal-sound : (xs ys : List ℕ) → equal xs ys ≡ true → xs ≡ ys
equal-sound xs ys e = same-sound xs ys (sym (equal-same xs ys) ∙ e)

pub equal_whole : (xs : List ℕ) → equal xs xs ≡ true
equal_whole xs = equal-same xs xs ∙ same_whole xs

pub equal_other : (xs ys : List ℕ) → (xs ≡ ys → ⊥) → equal xs ys ≡ false
equal_other xs ys n = go (equal xs ys) refl
  where
    go : (b : Bool) → equal xs ys ≡ b → equal xs ys ≡ false
    go true e = absurd (n (equal-sound xs ys e))
    go false e = e

unequal : (xs ys : List ℕ) → equal xs ys ≡ false → xs ≡ ys → ⊥
unequal xs ys e s = let t : equal xs ys ≡ true = rw s (equal_whole ys) in cc

pub each_at : (P : Pair → Type 0) (es : HashMap ℕ) (x : Pair) → Each P es → Memᴰ x es → P x
each_at P [] x a x4 = elim x4 [ ]
each_at P (y ∷ ys) x a (Memᴰ.head e) = subst P (sym e) a.0
each_at P (y ∷ ys) x a (Memᴰ.tail m) = each_at P ys x a.1 m

pub each_of : (P : Pair → Type 0) (es : HashMap ℕ) → ((x : Pair) → Memᴰ x es → P x) → Each P es
each_of P [] f = tt
each_of P (y ∷ ys) f = (f y (Memᴰ.head refl), each_of P ys (λ x m. f x (Memᴰ.tail m)))

-- no entry has the key
abbrev pub Absent : HashMap ℕ → List ℕ → Type 0
Absent es key = Each (λ x. x.0 ≡ key → ⊥) es

-- each key once
abbrev pub Once : HashMap ℕ → Type 0
Once [] = Unit {0}
Once (x ∷ es) = Absent es x.0 × Once es

pub absent_of : (es : HashMap ℕ) (key : List ℕ) → ((x : Pair) → Memᴰ x es → x.0 ≡ key → ⊥) → Absent es key
absent_of es key f = each_of (λ x. x.0 ≡ key → ⊥) es f

-- ---- get

pub get_none : (es : HashMap ℕ) (key : List ℕ) → get es key ≡ none → Absent es key
get_none [] key e = tt
get_none ((k, d) ∷ es) key e = go (equal k key) refl e (get_none es key)
  where
    go : (b : Bool) → equal k key ≡ b → (when b then some d else get es key) ≡ none → (get es key ≡ none → Absent es key) → Absent ((k, d) ∷ es) key
    go true p e ih = absurd (cc)
    go false p e ih = (unequal k key p, ih e)

pub get_some : (es : HashMap ℕ) (key : List ℕ) (e : CacheEntry ℕ) → get es key ≡ some e → Memᴰ (key, e) es
get_some [] key e q = absurd (cc)
get_some ((k, d) ∷ es) key e q = go (equal k key) refl q (get_some es key e)
  where
    go : (b : Bool) → equal k key ≡ b → (when b then some d else get es key) ≡ some e → (get es key ≡ some e → Memᴰ (key, e) es) → Memᴰ (key, e) ((k, d) ∷ es)
    go true p q ih = let s : d ≡ e = cc in let t = equal-sound k key p in let r : ◌≡◌ {A = Pair} (key, e) (k, d) = cc in Memᴰ.head r
    go false p q ih = Memᴰ.tail (ih q)

-- ---- refresh

-- an entry, refreshed if it has the key
abbrev pub upd : List ℕ → ℕ → Pair → Pair
upd key t (k, e) = when equal k key then (k, record { targets = e.targets; last_used = t }) else (k, e)

upd_key : (key : List ℕ) (t : ℕ) (x : Pair) → (upd key t x).0 ≡ x.0
upd_key key t (k, e) = go (equal k key)
  where
    go : (b : Bool) → ◌≡◌ {A = List ℕ} (let y : Pair = when b then (k, record { targets = e.targets; last_used = t }) else (k, e) in y).0 k
    go true = refl
    go false = refl

refresh-step : (k : List ℕ) (e : CacheEntry ℕ) (es : HashMap ℕ) (key : List ℕ) (t : ℕ) → refresh ((k, e) ∷ es) key t ≡ upd key t (k, e) ∷ refresh es key t
refresh-step k e es key t = go (equal k key)
  where
    go : (b : Bool)
        → ◌≡◌ {A = HashMap ℕ} (when b then (k, record { targets = e.targets; last_used = t }) ∷ refresh es key t else (k, e) ∷ refresh es key t)
        ((let y : Pair = when b then (k, record { targets = e.targets; last_used = t }) else (k, e) in y) ∷ refresh es key t)
    go true = refl
    go false = refl

pub refresh-length : (es : HashMap ℕ) (key : List ℕ) (t : ℕ) → length (refresh es key t) ≡ length es
refresh-length [] key t = refl
refresh-length ((k, e) ∷ es) key t = ap length (refresh-step k e es key t) ∙ ap suc (refresh-length es key t)

pub refresh_to : (es : HashMap ℕ) (key : List ℕ) (t : ℕ) (x : Pair) → Memᴰ x es → Memᴰ (upd key t x) (refresh es key t)
refresh_to [] key t x x3 = elim x3 [ ]
refresh_to ((k, e) ∷ es) key t x (Memᴰ.head q) = rw (refresh-step k e es key t) (Memᴰ.head (ap (upd key t) q))
refresh_to ((k, e) ∷ es) key t x (Memᴰ.tail m) = rw (refresh-step k e es key t) (Memᴰ.tail (refresh_to es key t x m))

pub refresh_from : (es : HashMap ℕ) (key : List ℕ) (t : ℕ) (y : Pair) → Memᴰ y (refresh es key t) → (x : Pair) × Memᴰ x es × (y ≡ upd key t x)
refresh_from [] key t y m = elim m [ ]
refresh_from ((k, e) ∷ es) key t y m = go (subst (Memᴰ y) (refresh-step k e es key t) m) (refresh_from es key t y)
  where
    go : Memᴰ y (upd key t (k, e) ∷ refresh es key t) → (Memᴰ y (refresh es key t) → (x : Pair) × Memᴰ x es × (y ≡ upd key t x))
        → (x : Pair) × Memᴰ x ((k, e) ∷ es) × (y ≡ upd key t x)
    go (Memᴰ.head q) ih = ((k, e), Memᴰ.head refl, q)
    go (Memᴰ.tail n) ih = let r = ih n in (r.0, Memᴰ.tail r.1, r.2)

pub refresh_once : (es : HashMap ℕ) (key : List ℕ) (t : ℕ) → Once es → Once (refresh es key t)
refresh_once [] key t o = tt
refresh_once ((k, e) ∷ es) key t o = rw (refresh-step k e es key t) (
  absent_of (refresh es key t) (upd key t (k, e)).0 (λ y m q.
      let r = refresh_from es key t y m in
      each_at (λ x. x.0 ≡ k → ⊥) es r.0 o.0 r.1 (sym (upd_key key t r.0) ∙ ap (λ (p : Pair). p.0) (sym r.2) ∙ q ∙ upd_key key t (k, e))),
  refresh_once es key t o.1,
)

-- ---- remove

pub remove_absent : (es : HashMap ℕ) (key : List ℕ) → Absent es key → remove es key ≡ es
remove_absent [] key a = refl
remove_absent ((k, e) ∷ es) key a = rw (equal_other k key a.0, remove_absent es key a.1)

pub remove_from : (es : HashMap ℕ) (key : List ℕ) (y : Pair) → Memᴰ y (remove es key) → Memᴰ y es × (y.0 ≡ key → ⊥)
remove_from [] key y m = elim m [ ]
remove_from ((k, e) ∷ es) key y m = go (equal k key) refl m (remove_from es key y)
  where
    go : (b : Bool) → equal k key ≡ b → Memᴰ y (when b then remove es key else (k, e) ∷ remove es key)
        → (Memᴰ y (remove es key) → Memᴰ y es × (y.0 ≡ key → ⊥)) → Memᴰ y ((k, e) ∷ es) × (y.0 ≡ key → ⊥)
    go true p m ih = let r = ih m in (Memᴰ.tail r.0, r.1)
    go false p (Memᴰ.head q) ih = (Memᴰ.head q, λ s. unequal k key p (ap (λ (x : Pair). x.0) (sym q) ∙ s))
    go false p (Memᴰ.tail n) ih = let r = ih n in (Memᴰ.tail r.0, r.1)

pub remove_to : (es : HashMap ℕ) (key : List ℕ) (x : Pair) → Memᴰ x es → (x.0 ≡ key → ⊥) → Memᴰ x (remove es key)
remove_to [] key x x4 n = elim x4 [ ]
remove_to ((k, e) ∷ es) key x (Memᴰ.head q) n = rw (equal_other k key (λ s. n (ap (λ (y : Pair). y.0) q ∙ s))) (Memᴰ.head q)
remove_to ((k, e) ∷ es) key x (Memᴰ.tail m) n = go (equal k key) (remove_to es key x m n)
  where
    go : (b : Bool) → Memᴰ x (remove es key) → Memᴰ x (when b then remove es key else (k, e) ∷ remove es key)
    go true r = r
    go false r = Memᴰ.tail r

pub remove_once : (es : HashMap ℕ) (key : List ℕ) → Once es → Once (remove es key)
remove_once [] key o = tt
remove_once ((k, e) ∷ es) key o = go (equal k key) (remove_once es key o.1)
  where
    go : (b : Bool) → Once (remove es key) → Once (when b then remove es key else (k, e) ∷ remove es key)
    go true r = r
    go false r = (absent_of (remove es key) k (λ y m q. each_at (λ x. x.0 ≡ k → ⊥) es y o.0 (remove_from es key y m).0 q), r)

pub remove-length : (es : HashMap ℕ) (x : Pair) → Once es → Memᴰ x es → suc (length (remove es x.0)) ≡ length es
remove-length [] x o x4 = elim x4 [ ]
remove-length ((k, e) ∷ es) x o (Memᴰ.head q) =
    let s : k ≡ x.0 = ap (λ (y : Pair). y.0) (sym q) in
    let t : remove ((k, e) ∷ es) x.0 ≡ es = rw (← s, equal_whole k) (remove_absent es k o.0) in
    ap (λ l. suc (length l)) t
remove-length ((k, e) ∷ es) x o (Memᴰ.tail m) =
    let n : k ≡ x.0 → ⊥ = λ s. each_at (λ y. y.0 ≡ k → ⊥) es x o.0 m (sym s) in
    let t : remove ((k, e) ∷ es) x.0 ≡ (k, e) ∷ remove es x.0 = rw (equal_other k x.0 n) in
    ap (λ l. suc (length l)) t ∙ ap suc (remove-length es x o.1 m)

-- ---- push

pub push_old : (es : HashMap ℕ) (x y : Pair) → Memᴰ y es → Memᴰ y (es ++ (x ∷ []))
push_old [] x y x3 = elim x3 [ ]
push_old (z ∷ es) x y (Memᴰ.head q) = Memᴰ.head q
push_old (z ∷ es) x y (Memᴰ.tail m) = Memᴰ.tail (push_old es x y m)

pub push-new : (es : HashMap ℕ) (x : Pair) → Memᴰ x (es ++ (x ∷ []))
push-new [] x = Memᴰ.head refl
push-new (y ∷ es) x = Memᴰ.tail (push-new es x)

pub push_from : (es : HashMap ℕ) (x y : Pair) → Memᴰ y (es ++ (x ∷ [])) → Memᴰ y es ⊎ (y ≡ x)
push_from [] x y (mathlib.Core.List.Memᴰ.tail m) = elim m [ ]
push_from [] x y (Memᴰ.head q) = inr q
push_from (z ∷ es) x y (Memᴰ.head q) = inl (Memᴰ.head q)
push_from (z ∷ es) x y (Memᴰ.tail m) = go (push_from es x y m)
  where
    go : Memᴰ y es ⊎ (y ≡ x) → Memᴰ y (z ∷ es) ⊎ (y ≡ x)
    go (inl n) = inl (Memᴰ.tail n)
    go (inr q) = inr q

pub push_once : (es : HashMap ℕ) (x : Pair) → Once es → Absent es x.0 → Once (es ++ (x ∷ []))
push_once [] x o a = (tt, tt)
push_once (y ∷ es) x o a = (
  absent_of (es ++ (x ∷ [])) y.0 (λ z m q. by z q (push_from es x z m)),
  push_once es x o.1 a.1,
)
  where
    by : (z : Pair) → z.0 ≡ y.0 → Memᴰ z es ⊎ (z ≡ x) → ⊥
    by z q (inl n) = each_at (λ w. w.0 ≡ y.0 → ⊥) es z o.0 n q
    by z q (inr e) = a.0 (sym q ∙ ap (λ (w : Pair). w.0) e)
