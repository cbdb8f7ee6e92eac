-- What an insert wrote is read back.
--
--   put-part        a part that lies before the place written over is as it was
--   put_whole       what was written is there
--   insert_reads    an accepted insert's list reads as before, and then the pattern and its target, where the texts in use lie below `used`
--   inserts_right   over any inserts from an empty list on, accepted and refused, the list holds those accepted, in order, and each is answered as 01 says
use Prim.Native.Nat.{ℕ, zero, suc, ◌+◌, ◌-◌, ◌≤◌, ◌<◌}
use native.Mathlib.Omega.{arith}
use native.Mathlib.Numerals.{add-one}
use mathlib.Core.Path.{◌≡◌, refl, sym, ◌∙◌, ap, subst}
use mathlib.Core.Bool.{Bool, true, false}
use mathlib.Core.List.{List, [], ◌∷◌, ◌++◌, map-append}
use mathlib.Core.Option.{none, some}
use lib.Dec.{ltb, leb}
use lib.ListN.{length, take, drop, set, length-drop, length-append, take-append-drop}
use lib.Seq.{take-append-le, drop-append-le, take-append_seam, drop_at, take-suc-set, length-take-le}
use borrow.Author.Tests.{ltb-false, leb-false}
use Rattle.subject_rules.specs.Choice.{pick, or}
use Rattle.subject_rules.specs.Answers.{Answer, answer, unless, when_accepted}
use Rattle.subject_rules.specs.Grammar.{grammar}
use Rattle.sublist_tree.specs.Lists.{put, All}
use Rattle.sublist_tree.specs.Table.{TableEntry}
use Rattle.sublist_entries.specs.declared.Entry.{Entry}
use Rattle.sublist_entries.specs.declared.ListState.{ListState}
use Rattle.sublist_entries.specs.Entries.{in_use, text_of, word32, read_from}
use Rattle.sublist_entries.specs.Inserting.{with_pattern, list_numbers, insert_says, appended, after_answer, insert_into}
use Rattle.sublist_entries.specs.Inserts.{Desk, empty_desk, state_after, insert_on, desk_after, held_on, bytes_of, demanded, taken_after, EachTaken}

-- ---- parts of a store that is written over

seen : (p rest : List ℕ) (s n : ℕ) → s + n ≤ length p → take n (drop s (p ++ rest)) ≡ take n (drop s p)
seen p rest s n h = rw (drop-append-le s p rest (omega arith)) (take-append-le n (drop s p) rest (omega (arith, length-drop s p)))

module _ (xs : List ℕ) (at : ℕ) (new : List ℕ) (inside : at ≤ length xs) where
  pub put-part : (s n : ℕ) → s + n ≤ at → take n (drop s (put xs at new)) ≡ take n (drop s xs)
  put-part s n h =
      let long = length-take-le at xs inside in
      seen (take at xs) (new ++ drop (at + length new) xs) s n (omega arith)
      ∙ sym (ap (λ (l : List ℕ). take n (drop s l)) (sym (take-append-drop at xs)) ∙ seen (take at xs) (drop at xs) s n (omega arith))

  pub put_whole : take (length new) (drop at (put xs at new)) ≡ new
  put_whole = rw (drop_at (take at xs) (new ++ drop (at + length new) xs) at (length-take-le at xs inside)) (take-append_seam new (drop (at + length new) xs))

  pub put-length : at + length new ≤ length xs → length (put xs at new) ≡ length xs
  put-length h =
      length-append (take at xs) (new ++ drop (at + length new) xs)
      ∙ omega (arith, length-take-le at xs inside, length-append new (drop (at + length new) xs), length-drop (at + length new) xs)

-- ---- an accepted insert

-- neither 10 nor 11 was met
pub record Room (list : ListState) (places bytes size : ℕ) : Type 0 where
  pub few : list.entries < 2048
  pub place : list.entries < places
  pub text : size ≤ bytes - list.used

module _ (list : ListState) (places bytes : ℕ) (pattern values : List ℕ) where
  pub accepted-room : insert_says list places bytes pattern ≡ answer 0 values → Room list places bytes (length pattern) × (values ≡ list_numbers (with_pattern list (length pattern)))
  unfolding insert_says
  accepted-room = go (grammar true pattern) (leb 2048 list.entries) refl (leb places list.entries) refl (ltb (bytes - list.used) (length pattern)) refl
    where
      go : (g : Answer) (b : Bool) → leb 2048 list.entries ≡ b → (c : Bool) → leb places list.entries ≡ c → (d : Bool) → ltb (bytes - list.used) (length pattern) ≡ d
          → when_accepted g (unless (pick (or b c) (some (answer 10 [])) none) (unless (pick d (some (answer 11 [])) none) (answer 0 (list_numbers (with_pattern list (length pattern)))))) ≡ answer 0 values
          → Room list places bytes (length pattern) × (values ≡ list_numbers (with_pattern list (length pattern)))
      go (answer (suc n) vs) b p c q d r e = let z : suc n ≡ 0 = cc in absurd (omega (arith, z))
      go (answer zero vs) true p c q d r e = absurd (cc)
      go (answer zero vs) false p true q d r e = absurd (cc)
      go (answer zero vs) false p false q true r e = absurd (cc)
      go (answer zero vs) false p false q false r e = (
        record {
          few = leb-false 2048 list.entries p;
          place = leb-false places list.entries q;
          text = ltb-false (bytes - list.used) (length pattern) r;
        },
        cc,
      )

-- the texts of the entries in use lie below `used`
abbrev pub Below : ℕ → List Entry → Type 0
Below used es = All (λ e. e.start + e.length ≤ used) es

below_later : (u v : ℕ) (es : List Entry) → u ≤ v → Below u es → Below v es
below_later u v [] h b = tt
below_later u v (e ∷ es) h b = (omega (arith, b.0), below_later u v es h b.1)

below_more : (u : ℕ) (es : List Entry) (e : Entry) → Below u es → e.start + e.length ≤ u → Below u (es ++ (e ∷ []))
below_more u [] e b h = (h, tt)
below_more u (x ∷ es) e b h = (b.0, below_more u es e b.1 h)

module _ (list : ListState) (es : List Entry) (store pattern : List ℕ) (target : ℕ) (room : Room list (length es) (length store) (length pattern)) (inside : list.used ≤ length store) where
  abbrev after : List Entry
  after = set es list.entries (appended list pattern target)

  abbrev written : List ℕ
  written = put store list.used pattern

  -- the new entry stands behind those in use
  in_use_then : in_use (with_pattern list (length pattern)) after ≡ in_use list es ++ (appended list pattern target ∷ [])
  in_use_then = rw (add-one list.entries) (take-suc-set es list.entries (appended list pattern target) room.place)

  -- texts below are as they were
  texts-kept : (xs : List Entry) → Below list.used xs → read_from written xs ≡ read_from store xs
  texts-kept [] b = refl
  texts-kept (e ∷ xs) b = λ i.
      record { pattern = put-part store list.used pattern inside e.start e.length b.0 i; target = word32 e.target } ∷ texts-kept xs b.1 i

  reads_then : Below list.used (in_use list es)
      → read_from written (in_use (with_pattern list (length pattern)) after) ≡ read_from store (in_use list es) ++ (record { pattern = pattern; target = word32 target } ∷ [])
  reads_then b =
      ap (read_from written) in_use_then
      ∙ map-append (λ e. record { pattern = text_of written e; target = word32 e.target }) (in_use list es) (appended list pattern target ∷ [])
      ∙ ap (λ (l : List TableEntry). l ++ (record { pattern = text_of written (appended list pattern target); target = word32 target } ∷ [])) (texts-kept (in_use list es) b)
      ∙ ap (λ (t : List ℕ). read_from store (in_use list es) ++ (record { pattern = t; target = word32 target } ∷ [])) (put_whole store list.used pattern inside)

  below_then : Below list.used (in_use list es) → Below (list.used + length pattern) (in_use (with_pattern list (length pattern)) after)
  below_then b =
      rw in_use_then
      (below_more (list.used + length pattern) (in_use list es) (appended list pattern target)
      (below_later list.used (list.used + length pattern) (in_use list es) (omega arith) b) (omega arith))

-- an accepted insert's list reads as before, and then the pattern and its target; the texts in use lie below `used` again
pub insert_reads : (list : ListState) (es : List Entry) (store pattern : List ℕ) (target : ℕ) (values : List ℕ) → list.used ≤ length store → Below list.used (in_use list es)
    → (insert_into list es store pattern target).says ≡ answer 0 values
    → let o = insert_into list es store pattern target in
    let then' = state_after o.says list in
    (read_from o.store (in_use then' o.list) ≡ read_from store (in_use list es) ++ (record { pattern = pattern; target = word32 target } ∷ []))
    × Below then'.used (in_use then' o.list)
unfolding insert_into
insert_reads list es store pattern target values inside b e =
    let w = accepted-room list (length es) (length store) pattern values e in
    rw (e, w.1) (reads_then list es store pattern target w.0 inside b, below_then list es store pattern target w.0 inside b)

-- ---- inserts one after another

bytes_more : (taken : List TableEntry) (e : TableEntry) → bytes_of (taken ++ (e ∷ [])) ≡ bytes_of taken + length e.pattern
bytes_more [] e = omega arith
bytes_more (x ∷ taken) e = ap (λ (n : ℕ). length x.pattern + n) (bytes_more taken e) ∙ omega arith

-- what holds between inserts: the list holds those taken, and their texts lie one behind another
pub record Stands (taken : List TableEntry) (d : Desk) : Type 0 where
  pub held : held_on d ≡ taken
  pub many : d.list.entries ≡ length taken
  pub used : d.list.used ≡ bytes_of taken
  pub inside : d.list.used ≤ length d.store
  pub below : Below d.list.used (in_use d.list d.places)

unless-pick : (b : Bool) (r rest : Answer) → unless (pick b (some r) none) rest ≡ pick b r rest
unless-pick true r rest = refl
unless-pick false r rest = refl

module _ (taken : List TableEntry) (d : Desk) (e : TableEntry) (s : Stands taken d) where
  pub says-demanded : (insert_on d e).says ≡ demanded taken d e
  unfolding insert_into insert_says
  says-demanded =
      rw (s.many, s.used)
      (ap (when_accepted (grammar true e.pattern))
      (unless-pick (or (leb 2048 (length taken)) (leb (length d.places) (length taken))) (answer 10 []) _
      ∙ ap (pick (or (leb 2048 (length taken)) (leb (length d.places) (length taken))) (answer 10 []))
      (unless-pick (ltb (length d.store - bytes_of taken) (length e.pattern)) (answer 11 []) _)))

  -- what is left, by the answer
  abbrev joined : TableEntry
  joined = record { pattern = e.pattern; target = word32 e.target }

  abbrev left : Answer → Desk
  left a = record {
    list = state_after a d.list;
    places = after_answer a (set d.places d.list.entries (appended d.list e.pattern e.target)) d.places;
    store = after_answer a (put d.store d.list.used e.pattern) d.store;
  }

  stands_by : (a : Answer) → (insert_on d e).says ≡ a → Stands (after_answer a (taken ++ (joined ∷ [])) taken) (left a)
  unfolding insert_into
  stands_by (answer (suc n) values) q = record { held = s.held; many = s.many; used = s.used; inside = s.inside; below = s.below }
  stands_by (answer zero values) q =
      let w = accepted-room d.list (length d.places) (length d.store) e.pattern values q in
      let few : length e.pattern ≤ length d.store - d.list.used = w.0.text in
      let long = put-length d.store d.list.used e.pattern s.inside (omega (arith, s.inside, few)) in
      rw w.1 (record {
        held = reads_then d.list d.places d.store e.pattern e.target w.0 s.inside s.below ∙ ap (λ (l : List TableEntry). l ++ (joined ∷ [])) s.held;
        many = omega (arith, s.many, length-append taken (joined ∷ []));
        used = omega (arith, s.used, bytes_more taken joined);
        inside = omega (arith, s.inside, few, long);
        below = below_then d.list d.places d.store e.pattern e.target w.0 s.inside s.below;
      })

  pub stands_then : Stands (taken_after taken d e) (desk_after d e)
  unfolding insert_into
  stands_then = subst (λ (a : Answer). Stands (after_answer a (taken ++ (joined ∷ [])) taken) (left (insert_on d e).says)) says-demanded (stands_by (insert_on d e).says refl)

each_taken : (taken : List TableEntry) (d : Desk) (es : List TableEntry) → Stands taken d → EachTaken taken d es
each_taken taken d [] s = s.held
each_taken taken d (e ∷ es) s = (s.held, says-demanded taken d e s, each_taken (taken_after taken d e) (desk_after d e) es (stands_then taken d e s))

pub stands_empty : (places : List Entry) (store : List ℕ) → Stands [] (empty_desk places store)
stands_empty places store = record { held = refl; many = refl; used = refl; inside = omega arith; below = tt }

pub inserts_right : (places : List Entry) (store : List ℕ) (es : List TableEntry) → EachTaken [] (empty_desk places store) es
inserts_right places store es = each_taken [] (empty_desk places store) es (stands_empty places store)
