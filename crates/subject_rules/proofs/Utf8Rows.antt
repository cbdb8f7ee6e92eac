-- UTF-8 from outside: the first and last sequence of each line of RFC 3629's table, and what its sections 3 and 4 bar:
-- overlong forms, surrogates, numbers over 10FFFF, bytes that begin nothing, a sequence that is cut short.
use mathlib.Core.Path.{◌≡◌, refl}
use mathlib.Core.List.{[], ◌∷◌}
use mathlib.Core.Option.{none, some}
use Rattle.subject_rules.specs.Utf8.{sequence, first_bad}

one_octet : first_bad (0x00 ∷ 0x7f ∷ []) ≡ none
unfolding first_bad sequence
one_octet = refl

two_octets : first_bad (0xc2 ∷ 0x80 ∷ 0xdf ∷ 0xbf ∷ []) ≡ none
unfolding first_bad sequence
two_octets = refl

three_octets_first : first_bad (0xe0 ∷ 0xa0 ∷ 0x80 ∷ 0xe0 ∷ 0xbf ∷ 0xbf ∷ []) ≡ none
unfolding first_bad sequence
three_octets_first = refl

three_octets_low : first_bad (0xe1 ∷ 0x80 ∷ 0x80 ∷ 0xec ∷ 0xbf ∷ 0xbf ∷ []) ≡ none
unfolding first_bad sequence
three_octets_low = refl

below_surrogates : first_bad (0xed ∷ 0x80 ∷ 0x80 ∷ 0xed ∷ 0x9f ∷ 0xbf ∷ []) ≡ none
unfolding first_bad sequence
below_surrogates = refl

above_surrogates : first_bad (0xee ∷ 0x80 ∷ 0x80 ∷ 0xef ∷ 0xbf ∷ 0xbf ∷ []) ≡ none
unfolding first_bad sequence
above_surrogates = refl

four_octets_first : first_bad (0xf0 ∷ 0x90 ∷ 0x80 ∷ 0x80 ∷ 0xf0 ∷ 0xbf ∷ 0xbf ∷ 0xbf ∷ []) ≡ none
unfolding first_bad sequence
four_octets_first = refl

four_octets : first_bad (0xf1 ∷ 0x80 ∷ 0x80 ∷ 0x80 ∷ 0xf3 ∷ 0xbf ∷ 0xbf ∷ 0xbf ∷ []) ≡ none
unfolding first_bad sequence
four_octets = refl

four_octets_last : first_bad (0xf4 ∷ 0x80 ∷ 0x80 ∷ 0x80 ∷ 0xf4 ∷ 0x8f ∷ 0xbf ∷ 0xbf ∷ []) ≡ none
unfolding first_bad sequence
four_octets_last = refl

overlong_two : first_bad (0x61 ∷ 0xc0 ∷ 0x80 ∷ []) ≡ some 1
unfolding first_bad sequence
overlong_two = refl

overlong_two_last : first_bad (0xc1 ∷ 0xbf ∷ []) ≡ some 0
unfolding first_bad sequence
overlong_two_last = refl

overlong_three : first_bad (0x61 ∷ 0xe0 ∷ 0x9f ∷ 0xbf ∷ []) ≡ some 1
unfolding first_bad sequence
overlong_three = refl

overlong_four : first_bad (0xf0 ∷ 0x8f ∷ 0xbf ∷ 0xbf ∷ []) ≡ some 0
unfolding first_bad sequence
overlong_four = refl

surrogate_first : first_bad (0xed ∷ 0xa0 ∷ 0x80 ∷ []) ≡ some 0
unfolding first_bad sequence
surrogate_first = refl

surrogate_last : first_bad (0xed ∷ 0xbf ∷ 0xbf ∷ []) ≡ some 0
unfolding first_bad sequence
surrogate_last = refl

over_10ffff : first_bad (0xf4 ∷ 0x90 ∷ 0x80 ∷ 0x80 ∷ []) ≡ some 0
unfolding first_bad sequence
over_10ffff = refl

no_lead : first_bad (0xf5 ∷ 0x80 ∷ 0x80 ∷ 0x80 ∷ []) ≡ some 0
unfolding first_bad sequence
no_lead = refl

tail_alone : first_bad (0x61 ∷ 0x80 ∷ []) ≡ some 1
unfolding first_bad sequence
tail_alone = refl

never_a_byte : first_bad (0x61 ∷ 0x62 ∷ 0xff ∷ []) ≡ some 2
unfolding first_bad sequence
never_a_byte = refl

cut_short : first_bad (0x61 ∷ 0xe2 ∷ 0x89 ∷ []) ≡ some 1
unfolding first_bad sequence
cut_short = refl

tail-missing : first_bad (0xe2 ∷ 0x89 ∷ 0x61 ∷ []) ≡ some 0
unfolding first_bad sequence
tail-missing = refl
