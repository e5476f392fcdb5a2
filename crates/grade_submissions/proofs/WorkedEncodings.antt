-- Worked cases of texts in other encodings.
use Rattle.std.specs.Prelude.{◌≡◌, [], ◌∷◌, None, Some, codes, refl}
use Rattle.std.specs.Char.Utf16.{utf16_chars}
use Rattle.grade_submissions.specs.Encodings.{plain_bytes}

-- `ab` of UTF-8, with its mark and without
with_mark : plain_bytes (0xef ∷ 0xbb ∷ 0xbf ∷ 97 ∷ 98 ∷ []) ≡ Some (codes "ab")
with_mark = refl

without : plain_bytes (codes "ab") ≡ Some (codes "ab")
without = refl

-- `ab` of UTF-16, in both byte orders
little : plain_bytes (0xff ∷ 0xfe ∷ 97 ∷ 0 ∷ 98 ∷ 0 ∷ []) ≡ Some (codes "ab")
unfolding utf16_chars lib.Utf8.encode
little = refl

big : plain_bytes (0xfe ∷ 0xff ∷ 0 ∷ 97 ∷ 0 ∷ 98 ∷ []) ≡ Some (codes "ab")
unfolding utf16_chars lib.Utf8.encode
big = refl

-- a letter of two bytes in UTF-8 (é)
accent : plain_bytes (0xff ∷ 0xfe ∷ 0xe9 ∷ 0 ∷ []) ≡ Some (0xc3 ∷ 0xa9 ∷ [])
unfolding utf16_chars lib.Utf8.encode
accent = refl

-- half a unit, and half a pair, are no text
half_a_unit : plain_bytes (0xff ∷ 0xfe ∷ 97 ∷ []) ≡ None
half_a_unit = refl

half_a_pair : plain_bytes (0xff ∷ 0xfe ∷ 0x3d ∷ 0xd8 ∷ []) ≡ None
unfolding utf16_chars
half_a_pair = refl
