-- Worked numbers: signs, addresses that wrap, distances in LEB128, and texts.
use Rattle.debug_info.proofs.Prelude.{[], ◌∷◌, ◌≡◌, codes, negsuc, None, pos, refl, Some}
use Rattle.std.proofs.Common.{ℕ, ◌++◌, if◌then◌else◌, nat_lt}
use Rattle.std.specs.Fmt.{digits}
use Rattle.dwarf.specs.Numbers.{leb_bytes, signed}
use Rattle.debug_info.specs.Expressions.{moved}
use Rattle.debug_info.specs.Numbers.{address_from, highest_of, number_in, signed_of, unsigned_of}
use Rattle.debug_info.specs.Spots.{after, byte_at, number_at}
use Rattle.debug_info.specs.Texts.{character_text, code_text, field_text, number_text, quoted_text, truth_text, value_text}
use Rattle.debug_info.specs.declared.scalars.Field.{Field}
use Rattle.debug_info.specs.declared.scalars.Scalar.TheVariants.{Base}
use Rattle.debug_info.specs.declared.spots.Spot.TheVariants.{Memory, Number}

-- the least and the largest number of one byte, and -1; bits above are of no account
least : signed_of (highest_of 1) 0x80 ≡ negsuc 127
least = refl

largest : signed_of (highest_of 1) 0x7F ≡ pos 127
largest = refl

minus_one : signed_of (highest_of 2) 0xFFFF ≡ negsuc 0
minus_one = refl

bits_above : signed_of (highest_of 1) 0x7FF ≡ negsuc 0
bits_above = refl

-- a field of five bits: 11100 is -4, and 28 without a sign
field : signed_of 16 0x1C ≡ negsuc 3
field = refl

field_without_sign : unsigned_of 16 0x1C ≡ 28
field_without_sign = refl

-- of four bytes, and of eight
of_four : signed_of (highest_of 4) 0x80000000 ≡ negsuc 2147483647
of_four = refl

of_eight : signed_of (highest_of 8) 0x8000000000000000 ≡ negsuc 9223372036854775807
of_eight = refl

unsigned_byte : unsigned_of (highest_of 1) 0x1FF ≡ 255
unsigned_byte = refl

-- 16 below the base of a frame, and over the end of the addresses
below : address_from 0x3000 (negsuc 15) ≡ 0x2FF0
below = refl

below_zero : address_from 0 (negsuc 0) ≡ 0xFFFFFFFFFFFFFFFF
below_zero = refl

over_the_end : address_from 0xFFFFFFFFFFFFFFFF (pos 2) ≡ 1
over_the_end = refl

-- -20 in LEB128 has one byte, 6C; what follows begins after it
distance : moved (0x91 ∷ 0x6C ∷ 0x06 ∷ []) 0x3000 1 ≡ Some (0x2FEC, 2)
unfolding leb_bytes signed
distance = refl

no_distance : moved (0x91 ∷ 0xEC ∷ []) 0x3000 1 ≡ None
unfolding leb_bytes signed
no_distance = refl

-- the third byte of a number, and none after the eighth
third : byte_at (λ address. None) (after 2 (Number 0x11223344 0)) ≡ Some 0x22
third = refl

ninth : byte_at (λ address. None) (after 8 (Number 0x11223344 0)) ≡ None
ninth = refl

of_memory : byte_at (λ address. Some address) (after 2 (Memory 0xFFFFFFFFFFFFFFFF)) ≡ Some 1
of_memory = refl

-- the text of an int and of an unsigned int
int_text : number_text 5 (highest_of 4) 0xFFFFFFF9 ≡ codes "-7"
unfolding digits
int_text = refl

unsigned_text : number_text 7 (highest_of 4) 0xFFFFFFF9 ≡ codes "4294967289"
unfolding digits
unsigned_text = refl

-- characters, whole and in three or four bits: a field has no bits but its own
character : number_text 8 (highest_of 1) 0x41 ≡ codes "65 'A'"
unfolding digits character_text code_text quoted_text
character = refl

field_of_three : number_text 8 4 0xFD ≡ codes "5 '\\005'"
unfolding digits character_text code_text quoted_text
field_of_three = refl

signed_field : number_text 6 8 0xFC ≡ codes "-4 '\\374'"
unfolding digits character_text code_text quoted_text
signed_field = refl

long_character : number_text 6 (highest_of 2) 0x41 ≡ codes "<unknown type>"
long_character = refl

quote_and_newline : character_text 39 39 ++ character_text 39 10 ++ character_text 39 34 ≡ codes "\\'\\n\""
unfolding character_text
quote_and_newline = refl

truths : truth_text 0 ++ truth_text 1 ++ truth_text 2 ≡ codes "falsetrue2"
unfolding digits
truths = refl

-- a number of three bytes is none of C's, and one that isn't there is told so
of_three_bytes : value_text (Base 5) 3 (λ address. Some address) (Memory 1) ≡ Some (codes "<not known here>")
of_three_bytes = refl

not_there : value_text (Base 5) 4 (λ address. None) (Memory 1) ≡ Some (codes "<not there>")
not_there = refl

-- five bits after three of the byte 0xEA, 11101 010; 8 bits of two bytes; and more than 64
abbrev of_bits : (place bits : ℕ) → Field
of_bits place bits = record { place = place; bits = bits }

five_bits : field_text (Base 7) (of_bits 3 5) (λ address. Some 0xEA) (Memory 1) ≡ Some (codes "29")
unfolding digits
five_bits = refl

over_two_bytes : field_text (Base 7) (of_bits 12 8) (λ address. Some address) (Memory 1) ≡ Some (codes "48")
unfolding digits
over_two_bytes = refl

too_many_bits : field_text (Base 7) (of_bits 3 62) (λ address. Some address) (Memory 1) ≡ Some (codes "<not known here>")
too_many_bits = refl

-- bytes and zeros up to 8; none of more
two_of_eight : number_in (0x34 ∷ 0x12 ∷ []) ≡ Some 0x1234
two_of_eight = refl

nine_of_eight : number_in (0 ∷ 0 ∷ 0 ∷ 0 ∷ 0 ∷ 0 ∷ 0 ∷ 0 ∷ 1 ∷ []) ≡ None
nine_of_eight = refl

-- numbers in memory, the lowest byte first: of four bytes, three and eight, and none of nine
four_bytes : number_at (λ address. Some address) (Memory 1) 4 ≡ Some 0x04030201
four_bytes = refl

three_bytes : number_at (λ address. Some address) (Memory 1) 3 ≡ Some 0x030201
three_bytes = refl

eight_bytes : number_at (λ address. Some address) (Memory 1) 8 ≡ Some 0x0807060504030201
eight_bytes = refl

nine_bytes : number_at (λ address. Some address) (Memory 1) 9 ≡ None
nine_bytes = refl

-- the fourth byte isn't there
missing_byte : number_at (λ address. if nat_lt address 4 then Some address else None) (Memory 1) 4 ≡ None
missing_byte = refl
