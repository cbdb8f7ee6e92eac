-- 01's "areas as bytes, lowest byte first", as rows: a word, a number of `stamps`, and that only whole ones count.
use mathlib.Core.Path.{◌≡◌, refl}
use mathlib.Core.List.{[], ◌∷◌}
use Rattle.router_bytes_rules.specs.Bytes.{bytes_of, words_in, longs_in}

word_read : words_in (0x78 ∷ 0x56 ∷ 0x34 ∷ 0x12 ∷ []) ≡ 0x12345678 ∷ []
word_read = refl

word-written : bytes_of 4 (0x12345678 ∷ []) ≡ 0x78 ∷ 0x56 ∷ 0x34 ∷ 0x12 ∷ []
word-written = refl

long_read : longs_in (0xef ∷ 0xcd ∷ 0xab ∷ 0x89 ∷ 0x67 ∷ 0x45 ∷ 0x23 ∷ 0x01 ∷ []) ≡ 0x0123456789abcdef ∷ []
long_read = refl

long-written : bytes_of 8 (0x0123456789abcdef ∷ []) ≡ 0xef ∷ 0xcd ∷ 0xab ∷ 0x89 ∷ 0x67 ∷ 0x45 ∷ 0x23 ∷ 0x01 ∷ []
long-written = refl

-- two words and three bytes more
words_whole : words_in (1 ∷ 0 ∷ 0 ∷ 0 ∷ 2 ∷ 0 ∷ 0 ∷ 0 ∷ 3 ∷ 0 ∷ 0 ∷ []) ≡ 1 ∷ 2 ∷ []
words_whole = refl

-- one number and four bytes more
longs_whole : longs_in (1 ∷ 0 ∷ 0 ∷ 0 ∷ 0 ∷ 0 ∷ 0 ∷ 0 ∷ 2 ∷ 0 ∷ 0 ∷ 0 ∷ []) ≡ 1 ∷ []
longs_whole = refl
