-- Where token n of a text stands: a reader that has passed n tokens finds it there, and the text has its bytes there.
use Rattle.std.proofs.Common.{◌≡◌, ℕ, zero, suc, ◌+◌, ◌-◌, ◌<◌, ◌≤◌, Bool, true, false, leb, List, [], ◌∷◌, Option, None, Some, length, get_or, take, drop, refl, sym, ap, ◌∙◌, subst, arith, length-drop, length-take, le-leb, leb-false, leb-true}
use borrow.Author.Tests.{lt-leb}
use Rattle.subject_rules.specs.Text.{tokens}
use Rattle.subject.specs.Reading.{dot_from, tokens_from, part, token_at, past, place_in}
use Rattle.subject.specs.declared.Token.{Token}
use Rattle.subject.proofs.Positions.{dot_from_lem, dot_within, tokens-start, tokens-next, tokens-end}

module _ (text : List ℕ) (at : ℕ) (h : at ≤ length text) where
  pub token_here : token_at text at ≡ Some (part at (dot_from text at) (dot_from text at + 1))
  unfolding token_at
  token_here = rw (le-leb at (length text) h)

  past_here : past (token_at text at) at ≡ dot_from text at + 1
  unfolding past
  past_here = rw token_here

  -- the first token ends at the next dot
  first_ends : at + length (take (dot_from text at - at) (drop at text)) ≡ dot_from text at
  first_ends =
      omega (arith, length-take (dot_from text at - at) (drop at text), length-drop at text, dot_from_lem text at, dot_within text at h)

  -- behind it the tokens stand from there on
  place-next : (n : ℕ) → place_in at (tokens_from text at) (suc n) ≡ place_in (dot_from text at + 1) (tokens_from text (dot_from text at + 1)) n
  place-next n =
      rw (tokens-next text at h) (ap (λ (end : ℕ). place_in (end + 1) (tokens_from text (dot_from text at + 1)) n) first_ends)

module _ (text : List ℕ) (at : ℕ) (h : length text < at) where
  pub token_none : token_at text at ≡ None
  unfolding token_at
  token_none = rw (lt-leb at (length text) h)

-- what is known where a token is found at position `at`: it lies in the text, and those that are left are it and those behind it
pub record Found (text : List ℕ) (at : ℕ) (t : Token) : Type 0 where
  pub within : (t.start ≤ t.end) × (t.end ≤ length text)
  pub moves : (at < t.next) × (t.next ≤ length text + 1)
  pub left : tokens_from text at ≡ take (t.end - t.start) (drop t.start text) ∷ tokens_from text t.next

module _ (text : List ℕ) (at : ℕ) (k : Option Token) (e : k ≡ token_at text at) (t : Token) (f : k ≡ Some t) where
  pub token-found : Found text at t
  token-found = go (leb at (length text)) refl
    where
      go : (b : Bool) → leb at (length text) ≡ b → Found text at t
      go true g =
          let h = leb-true at (length text) g in
          let l = dot_from_lem text at in
          let m = dot_within text at h in
          let same : part at (dot_from text at) (dot_from text at + 1) ≡ t = let n = token_here text at h in cc in
          subst (λ (t : Token). Found text at t) same (record { within = (omega arith, omega arith); moves = (omega arith, omega arith); left = tokens-next text at h })
      go false g =
          let n = token_none text at (leb-false at (length text) g) in
          absurd (cc)

  pub token-starts : t.start ≤ t.end
  token-starts = token-found.within.0

  pub token-ends : t.end ≤ length text
  token-ends = token-found.within.1

-- where none is found, the text has ended
pub end-found : (text : List ℕ) (at : ℕ) (k : Option Token) → k ≡ token_at text at → k ≡ None → length text < at
end-found text at k e f = go (leb at (length text)) refl
  where
    go : (b : Bool) → leb at (length text) ≡ b → length text < at
    go true g =
        let t = token_here text at (leb-true at (length text) g) in
        absurd (cc)
    go false g = leb-false at (length text) g

-- the token at position `at` is the first of those left
pub first_read : (text : List ℕ) (at : ℕ) → token_at text at ≡ place_in at (tokens_from text at) 0
first_read text at = go (leb at (length text)) refl
  where
    go : (b : Bool) → leb at (length text) ≡ b → token_at text at ≡ place_in at (tokens_from text at) 0
    go true e =
        let h = leb-true at (length text) e in
        rw (tokens-next text at h, first_ends text at h, token_here text at h)
    go false e =
        let h = leb-false at (length text) e in
        rw (tokens-end text at h, token_none text at h)

module _ (text : List ℕ) (at : ℕ) (k : Option Token) (e : k ≡ token_at text at) where
  -- where none is found, none is left
  pub none_read : k ≡ None → (n : ℕ) → None ≡ place_in at (tokens_from text at) n
  none_read f n = rw (tokens-end text at (end-found text at k e f))

  -- behind the token that is found, each has a number less by one
  pub next_read : (t : Token) → k ≡ Some t → (n : ℕ) → place_in (past k at) (tokens_from text (past k at)) n ≡ place_in at (tokens_from text at) (suc n)
  next_read t f n = go (leb at (length text)) refl
    where
      go : (b : Bool) → leb at (length text) ≡ b → place_in (past k at) (tokens_from text (past k at)) n ≡ place_in at (tokens_from text at) (suc n)
      go true g =
          let h = leb-true at (length text) g in
          rw (e, past_here text at h) (sym (place-next text at h n))
      go false g =
          let z = token_none text at (leb-false at (length text) g) in
          absurd (cc)

-- past the last token there is none
place-past : (ts : List (List ℕ)) (at n : ℕ) → length ts ≤ n → place_in at ts n ≡ None
place-past [] at n h = refl
place-past (t ∷ ts) at zero h = absurd (omega arith)
place-past (t ∷ ts) at (suc n) h = place-past ts (at + length t + 1) n (omega arith)

pub nth_past : (text : List ℕ) (n : ℕ) → length (tokens text) ≤ n → place_in 0 (tokens text) n ≡ None
nth_past text n h = place-past (tokens text) 0 n h

-- token n of those from position `at` on has a place within the text, where the text has its bytes
pub record Placed (text : List ℕ) (at : ℕ) (ts : List (List ℕ)) (n : ℕ) : Type 0 where
  pub start : ℕ
  pub end : ℕ
  pub place : place_in at ts n ≡ Some (part start end (end + 1))
  pub within : (start ≤ end) × (end ≤ length text)
  pub bytes : take (end - start) (drop start text) ≡ get_or ts n []

-- the first token that is left, and one behind it
placed_first : (text : List ℕ) (at : ℕ) → at ≤ length text → Placed text at (tokens_from text at) 0
placed_first text at h =
    record {
      start = at;
      end = dot_from text at;
      place = rw (tokens-next text at h, first_ends text at h);
      within = (dot_from_lem text at, dot_within text at h);
      bytes = rw (tokens-next text at h);
    }

placed-next : (text : List ℕ) (at n : ℕ) → at ≤ length text → Placed text (dot_from text at + 1) (tokens_from text (dot_from text at + 1)) n
    → Placed text at (tokens_from text at) (suc n)
placed-next text at n h p =
    record {
      start = p.start;
      end = p.end;
      place = place-next text at h n ∙ p.place;
      within = p.within;
      bytes = rw (tokens-next text at h) p.bytes;
    }

-- where a token is left, the text has not ended
not_ended : (text : List ℕ) (at n : ℕ) → n < length (tokens_from text at) → at ≤ length text
not_ended text at n h = go (leb at (length text)) refl
  where
    go : (b : Bool) → leb at (length text) ≡ b → at ≤ length text
    go true e = leb-true at (length text) e
    go false e = absurd (omega (arith, h, ap length (tokens-end text at (leb-false at (length text) e))))

placed_from : (text : List ℕ) (n at : ℕ) → n < length (tokens_from text at) → Placed text at (tokens_from text at) n
placed_from text zero at h = placed_first text at (not_ended text at 0 h)
placed_from text (suc n) at h =
    let k = not_ended text at (suc n) h in
    placed-next text at n k (placed_from text n (dot_from text at + 1) (omega (arith, ap length (tokens-next text at k))))

-- token n of a text has a place within it, where the text has its bytes
pub nth_placed : (text : List ℕ) (n : ℕ) → n < length (tokens text) → Placed text 0 (tokens text) n
nth_placed text n h = rw (tokens-start text) at (placed_from text n 0 (rw (tokens-start text) h))

-- `a.bc.d`: token 1, token 3; the empty text: token 0
second_token : place_in 0 (tokens (0x61 ∷ 0x2e ∷ 0x62 ∷ 0x63 ∷ 0x2e ∷ 0x64 ∷ [])) 1 ≡ Some (part 2 4 5)
second_token = refl

fourth_token : place_in 0 (tokens (0x61 ∷ 0x2e ∷ 0x62 ∷ 0x63 ∷ 0x2e ∷ 0x64 ∷ [])) 3 ≡ None
fourth_token = refl

empty-text : place_in 0 (tokens []) 0 ≡ Some (part 0 0 1)
empty-text = refl

-- where a reader finds a token, and where it finds none
pub ruleset found = (token-found, token-starts, token-ends, end-found, tokens-end)

pub ruleset reads = (first_read, none_read, next_read)
