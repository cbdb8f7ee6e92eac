-- The hash of a text's words, and its mark.
use Rattle.std.proofs.Common.{◌≡◌, ℕ, zero, suc, ◌+◌, ◌*◌, ◌/◌, ◌%◌, ◌^◌, List, length, fold, refl, add-one}
use lib.Bits.{bit_and, and_mask}
use Rattle.std.specs.Int.Bits.{bit_xor}
use Rattle.std.specs.List.{range_with_len}
use Rattle.resolve_cache_rules.specs.Mark.{word_of, hash_from, mark}

-- one word of a text taken into a hash
abbrev pub with_word : List ℕ → ℕ → ℕ → ℕ
with_word text h i = bit_xor h (word_of text i) * 0x100000001b3 % 2 ^ 64

pub fold_words : (text : List ℕ) (h i n : ℕ) → fold (with_word text) h (range_with_len i n) ≡ hash_from text h i n
unfolding hash_from
fold_words text h i zero = refl
fold_words text h i (suc n) = rw add-one (fold_words text (with_word text h i) (suc i) n)

pub mark_is : (key : List ℕ) (h : ℕ) → h ≡ hash_from key 0xcbf29ce484222325 0 ((length key + 7) / 8) → bit_and (h / 2 ^ 32 * 0x1e3779b1 / 2 ^ 16) 0xffff ≡ mark key
unfolding mark
mark_is key h e = rw (← e) (and_mask (h / 2 ^ 32 * 0x1e3779b1 / 2 ^ 16) 16)
