-- Worked cases of numbers, bytes and names as they are shown.
use Rattle.std.proofs.Common.{◌≡◌, ◌-◌, ◌^◌, [], ◌∷◌, ◌++◌, codes, None, Some, refl}
use Rattle.std.specs.Fmt.{digits, padded, padded_integral, char_count, take_chars}
use Rattle.debug_words.specs.Texts.{at_left, at_right, decimal_places, grouped, grouped_by, hexadecimal, hexadecimal_places, many, named, number_at_right, quoted, name_shown}

-- ---- columns

fills_behind : at_left 5 (codes "ra") ≡ codes "ra   "
unfolding padded char_count take_chars lib.Utf8.encode
fills_behind = refl

fills_before : at_right 5 (codes "0x1") ≡ codes "  0x1"
unfolding padded char_count take_chars lib.Utf8.encode
fills_before = refl

number_in_a_column : number_at_right 4 17 ≡ codes "  17"
unfolding padded_integral char_count digits lib.Utf8.encode
number_in_a_column = refl

-- a longer one isn't cut
no_room : at_left 2 (codes "fork") ++ number_at_right 1 17 ≡ codes "fork17"
unfolding padded char_count take_chars padded_integral digits
no_room = refl

-- ---- numbers

zeros_before : decimal_places 3 7 ++ hexadecimal_places 4 2748 ≡ codes "0070abc"
unfolding padded_integral char_count digits
zeros_before = refl

hexadecimal_number : hexadecimal 4096 ≡ codes "0x1000"
unfolding digits
hexadecimal_number = refl

without_comma : grouped 999 ≡ codes "999"
unfolding grouped_by digits
without_comma = refl

a_thousand : grouped 1000 ≡ codes "1,000"
unfolding grouped_by padded_integral char_count digits
a_thousand = refl

a_million : grouped 1020003 ≡ codes "1,020,003"
unfolding grouped_by padded_integral char_count digits
a_million = refl

-- six thousands are enough for the largest number of 64 bits
the_largest : grouped (2 ^ 64 - 1) ≡ codes "18,446,744,073,709,551,615"
unfolding grouped_by padded_integral char_count digits
the_largest = refl

one_thing : many 1 (codes "event") ≡ codes "1 event"
unfolding grouped_by digits
one_thing = refl

no_thing : many 0 (codes "event") ≡ codes "0 events"
unfolding grouped_by digits
no_thing = refl

-- ---- bytes

end_of_line : quoted (codes "hi\n") ≡ codes "\"hi\\n\""
end_of_line = refl

tab_and_backspace : quoted (9 ∷ 8 ∷ []) ≡ codes "\"\\t\\b\""
tab_and_backspace = refl

quote_and_backslash : quoted (34 ∷ 92 ∷ []) ≡ codes "\"\\x22\\\\\""
quote_and_backslash = refl

-- the first and the last visible one, and those beside them
around_visible : quoted (31 ∷ 32 ∷ 126 ∷ 127 ∷ []) ≡ codes "\"\\x1f ~\\x7f\""
unfolding padded_integral char_count digits
around_visible = refl

-- ---- names

name_behind_pid : named (Some (codes "sh")) ≡ codes " (sh)"
name_behind_pid = refl

without_name : named None ≡ []
without_name = refl

-- 14 bytes of it, and a dot for a blank and for one behind the visible ones
long_name : name_shown (codes "a " ++ 127 ∷ codes "!~fghijklmnop") ≡ codes "a..!~fghijklmn"
long_name = refl
