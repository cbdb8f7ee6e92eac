-- Examples for the transcription: `chars` on the texts of RFC 3629, section 7, and document 01's rows for texts, as the original answers them.
use mathlib.Core.Path.{◌≡◌, refl}
use mathlib.Core.Bool.{true, false}
use mathlib.Core.List.{[], ◌∷◌}
use Rattle.subject_rules.specs.Original.{chars, Ok, Err, Empty, EmptyToken, IllegalChar, ControlChar, WildcardNotAllowed, TailWildcardNotLast, validate, matches, has_tail_wildcard}

-- A, not identical to, Alpha, full stop
chars_symbols : chars (0x41 ∷ 0xe2 ∷ 0x89 ∷ 0xa2 ∷ 0xce ∷ 0x91 ∷ 0x2e ∷ []) ≡ 0x0041 ∷ 0x2262 ∷ 0x0391 ∷ 0x002e ∷ []
chars_symbols = refl

chars_korean : chars (0xed ∷ 0x95 ∷ 0x9c ∷ 0xea ∷ 0xb5 ∷ 0xad ∷ 0xec ∷ 0x96 ∷ 0xb4 ∷ []) ≡ 0xd55c ∷ 0xad6d ∷ 0xc5b4 ∷ []
chars_korean = refl

chars_japanese : chars (0xe6 ∷ 0x97 ∷ 0xa5 ∷ 0xe6 ∷ 0x9c ∷ 0xac ∷ 0xe8 ∷ 0xaa ∷ 0x9e ∷ []) ≡ 0x65e5 ∷ 0x672c ∷ 0x8a9e ∷ []
chars_japanese = refl

chars_four_octets : chars (0xef ∷ 0xbb ∷ 0xbf ∷ 0xf0 ∷ 0xa3 ∷ 0x8e ∷ 0xb4 ∷ []) ≡ 0xfeff ∷ 0x233b4 ∷ []
chars_four_octets = refl

-- empty, `a..b`, `a*`
empty-text : validate [] false ≡ Err Empty
empty-text = refl

empty_token : validate (0x61 ∷ 0x2e ∷ 0x2e ∷ 0x62 ∷ []) false ≡ Err (EmptyToken 1)
empty_token = refl

partial_wildcard : validate (0x61 ∷ 0x2a ∷ []) true ≡ Err (IllegalChar 0x2a 0)
partial_wildcard = refl

-- `>.a` as pattern and as subject
tail_not_last : validate (0x3e ∷ 0x2e ∷ 0x61 ∷ []) true ≡ Err (TailWildcardNotLast 0)
tail_not_last = refl

tail_in_subject : validate (0x3e ∷ 0x2e ∷ 0x61 ∷ []) false ≡ Err (WildcardNotAllowed 0x3e 0)
tail_in_subject = refl

-- C2 80, 7F
above_ascii : validate (0xc2 ∷ 0x80 ∷ []) false ≡ Ok 1
above_ascii = refl

delete : validate (0x7f ∷ []) false ≡ Err (ControlChar 0x7f 0)
delete = refl

-- `a.>` against `a.b`, `a.b.c` and `a`; `*` against `a` and `a.b`
tail-one : matches (0x61 ∷ 0x2e ∷ 0x3e ∷ []) (0x61 ∷ 0x2e ∷ 0x62 ∷ []) ≡ true
tail-one = refl

tail_two : matches (0x61 ∷ 0x2e ∷ 0x3e ∷ []) (0x61 ∷ 0x2e ∷ 0x62 ∷ 0x2e ∷ 0x63 ∷ []) ≡ true
tail_two = refl

tail-nothing : matches (0x61 ∷ 0x2e ∷ 0x3e ∷ []) (0x61 ∷ []) ≡ false
tail-nothing = refl

star-one : matches (0x2a ∷ []) (0x61 ∷ []) ≡ true
star-one = refl

star_two : matches (0x2a ∷ []) (0x61 ∷ 0x2e ∷ 0x62 ∷ []) ≡ false
star_two = refl

ends_in_tail : has_tail_wildcard (0x61 ∷ 0x2e ∷ 0x3e ∷ []) ≡ true
ends_in_tail = refl
