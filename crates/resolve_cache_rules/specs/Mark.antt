-- The mark of a key: sixteen bits made of all its bytes. It is a first sort, before a slot's bytes are looked at.
use Rattle.std.specs.Prelude.{ℕ, zero, suc, ◌+◌, ◌*◌, ◌-◌, ◌/◌, ◌%◌, ◌^◌, min, List, length}
use Rattle.std.specs.Int.Bits.{bit_xor}
use Rattle.subject.specs.Words.{eight_at}

-- word i of a text: the number that its eight bytes from 8 i on spell, lowest first. The last word is the text's last
-- eight bytes; a text of less than eight has one word, in which 0 stands for the bytes that are not there
abbrev pub word_of : List ℕ → ℕ → ℕ
word_of text i = eight_at text (min (8 * i) (length text - 8))

-- FNV-1a over words in place of bytes: n of them from word i on, begun at h
unfoldable pub hash_from : List ℕ → ℕ → ℕ → ℕ → ℕ
hash_from text h i zero = h
hash_from text h i (suc n) = hash_from text (bit_xor h (word_of text i) * 0x100000001b3 % 2 ^ 64) (suc i) n

-- the upper half of that hash of all words, spread over sixteen bits
unfoldable pub mark : List ℕ → ℕ
mark text = hash_from text 0xcbf29ce484222325 0 ((length text + 7) / 8) / 2 ^ 32 * 0x1e3779b1 / 2 ^ 16 % 2 ^ 16
