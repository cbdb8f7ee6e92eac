-- Text that is UTF-8, cut at its dots, is cut into tokens that are UTF-8 and hold no dot.
use Prim.Native.Nat.{ℕ, zero, suc, ◌+◌, ◌*◌, ◌%◌, ◌≤◌}
use native.Mathlib.Omega.{arith}
use mathlib.Core.Path.{◌≡◌, refl}
use mathlib.Core.Bool.{Bool, true, false}
use mathlib.Core.List.{List, [], ◌∷◌}
use lib.Dec.{eqb}
use borrow.Author.Tests.{ne_eqb, lt-ltb}
use Rattle.subject_rules.specs.Original.{Str, when◌then◌else◌, following, first_bits, code_point, SEP, join, split}
use Rattle.subject_rules.proofs.Decoding.{Tails, First, ascii, long, Decodes, decodes_tails}

abbrev pub NoDot : List ℕ → Type 0
NoDot [] = Unit {0}
NoDot (b ∷ bs) = (eqb b SEP ≡ false) × NoDot bs

-- every token decodes and holds no dot
abbrev pub Pieces : List Str → Type 0
Pieces [] = Unit {0}
Pieces (t ∷ ts) = Decodes 0 t × NoDot t × Pieces ts

abbrev head : List Str → Str
head [] = []
head (t ∷ ts) = t

abbrev rest : List Str → List Str
rest [] = []
rest (t ∷ ts) = ts

-- the same, where the first token has n bytes that belong to the character before
abbrev Behind : ℕ → List Str → Type 0
Behind n ts = Decodes n (head ts) × NoDot (head ts) × Pieces (rest ts)

behind_pieces : (ts : List Str) → Behind 0 ts → Pieces ts
behind_pieces [] p = tt
behind_pieces (t ∷ ts) p = p

no_dot : (b : ℕ) → 0x80 ≤ b → eqb b SEP ≡ false
no_dot b l = ne_eqb b SEP (λ e. omega arith)

join-tail : (n b : ℕ) (ts : List Str) → 0x80 ≤ b → Behind n ts → Behind (suc n) (join b ts)
join-tail n b [] l p = ((l, p.0), (no_dot b l, tt), tt)
join-tail n b (t ∷ ts) l p = ((l, p.0), (no_dot b l, p.1), p.2)

join_first : (b : ℕ) (ts : List Str) → eqb b SEP ≡ false → First b (head ts) → Behind (following b) ts → Behind 0 (join b ts)
join_first b [] d f p = ((f, p.0), (d, tt), tt)
join_first b (t ∷ ts) d f p = ((f, p.0), (d, p.1), p.2)

head_join : (b : ℕ) (ts : List Str) → head (join b ts) ≡ b ∷ head ts
head_join b [] = refl
head_join b (t ∷ ts) = refl

-- a sequence lies within one token
code_point_head : (bits n : ℕ) (bs : List ℕ) → Tails n bs → code_point bits n (head (split SEP bs)) ≡ code_point bits n bs
code_point_head bits zero bs t = refl
code_point_head bits (suc n) [] t = absurd t
code_point_head bits (suc n) (b ∷ bs) t =
    rw (no_dot b t.0, head_join b (split SEP bs)) (code_point_head (bits * 0x40 + b % 0x40) n bs t.1)

first_head : (b : ℕ) (bs : List ℕ) → Tails (following b) bs → First b bs → First b (head (split SEP bs))
first_head b bs t (ascii l) = ascii l
first_head b bs t (long l c) = long l (rw (code_point_head (first_bits b) (following b) bs t) c)

split_behind : (n : ℕ) (bs : List ℕ) → Decodes n bs → Behind n (split SEP bs)
split_behind zero [] d = (tt, tt, tt)
split_behind (suc n) [] d = absurd d
split_behind (suc n) (b ∷ bs) d = rw (no_dot b d.0) (join-tail n b (split SEP bs) d.0 (split_behind n bs d.1))
split_behind zero (b ∷ bs) d = go (eqb b SEP) refl d.0 (split_behind (following b) bs d.1)
  where
    go : (w : Bool) → eqb b SEP ≡ w → First b bs → Behind (following b) (split SEP bs) → Behind 0 (when w then [] ∷ split SEP bs else join b (split SEP bs))
    go true e (ascii l) p = (tt, tt, behind_pieces (split SEP bs) (rw (lt-ltb b 0x80 l) at p))
    go true e (long l c) p = absurd (cc (no_dot b l))
    go false e f p = join_first b (split SEP bs) e (first_head b bs (decodes_tails (following b) bs d.1) f) p

pub split_pieces : (bs : List ℕ) → Decodes 0 bs → Pieces (split SEP bs)
split_pieces bs d = behind_pieces (split SEP bs) (split_behind 0 bs d)
