-- Worked numbers: those of the table in section 7.6 of DWARF 5, and numbers that don't end, don't fit, or are longer than they need be.
use Rattle.dwarf.proofs.Prelude.{[], ℕ, ◌∷◌, ◌≡◌, Err, false, fixed, leb_bytes, List, negsuc, offset, Ok, pos, refl, signed, skipped, times, true, unsigned}
use Rattle.dwarf.specs.declared.fault.Fault.TheVariants.{Short, TooLarge}

-- unsigned

two : unsigned (0x02 ∷ []) 0 ≡ Ok (2, 1)
unfolding unsigned leb_bytes
two = refl

of_one_byte : unsigned (0x7F ∷ []) 0 ≡ Ok (127, 1)
unfolding unsigned leb_bytes
of_one_byte = refl

of_two_bytes : unsigned (0x80 ∷ 0x01 ∷ []) 0 ≡ Ok (128, 2)
unfolding unsigned leb_bytes
of_two_bytes = refl

low_bits_first : unsigned (0xB9 ∷ 0x64 ∷ []) 0 ≡ Ok (12857, 2)
unfolding unsigned leb_bytes
low_bits_first = refl

-- it begins at its place, and what follows is of no matter
in_the_middle : unsigned (0xFF ∷ 0xB9 ∷ 0x64 ∷ 0xFF ∷ []) 1 ≡ Ok (12857, 3)
unfolding unsigned leb_bytes
in_the_middle = refl

longer_than_need_be : unsigned (0x82 ∷ 0x80 ∷ 0x00 ∷ []) 0 ≡ Ok (2, 3)
unfolding unsigned leb_bytes
longer_than_need_be = refl

without_end : unsigned (0x80 ∷ 0x80 ∷ []) 1 ≡ Err (Short 1)
unfolding unsigned leb_bytes
without_end = refl

behind_the_end : unsigned (0x02 ∷ []) 1 ≡ Err (Short 1)
unfolding unsigned leb_bytes
behind_the_end = refl

greatest : unsigned (0xFF ∷ 0xFF ∷ 0xFF ∷ 0xFF ∷ 0xFF ∷ 0xFF ∷ 0xFF ∷ 0xFF ∷ 0xFF ∷ 0x01 ∷ []) 0 ≡ Ok (0xFFFFFFFFFFFFFFFF, 10)
unfolding unsigned leb_bytes
greatest = refl

too_great : unsigned (0x80 ∷ 0x80 ∷ 0x80 ∷ 0x80 ∷ 0x80 ∷ 0x80 ∷ 0x80 ∷ 0x80 ∷ 0x80 ∷ 0x02 ∷ []) 0 ≡ Err (TooLarge 0)
unfolding unsigned leb_bytes
too_great = refl

-- signed

plus_two : signed (0x02 ∷ []) 0 ≡ Ok (pos 2, 1)
unfolding signed leb_bytes
plus_two = refl

minus_two : signed (0x7E ∷ []) 0 ≡ Ok (negsuc 1, 1)
unfolding signed leb_bytes
minus_two = refl

plus_127 : signed (0xFF ∷ 0x00 ∷ []) 0 ≡ Ok (pos 127, 2)
unfolding signed leb_bytes
plus_127 = refl

minus_127 : signed (0x81 ∷ 0x7F ∷ []) 0 ≡ Ok (negsuc 126, 2)
unfolding signed leb_bytes
minus_127 = refl

plus_128 : signed (0x80 ∷ 0x01 ∷ []) 0 ≡ Ok (pos 128, 2)
unfolding signed leb_bytes
plus_128 = refl

minus_128 : signed (0x80 ∷ 0x7F ∷ []) 0 ≡ Ok (negsuc 127, 2)
unfolding signed leb_bytes
minus_128 = refl

minus_129 : signed (0xFF ∷ 0x7E ∷ []) 0 ≡ Ok (negsuc 128, 2)
unfolding signed leb_bytes
minus_129 = refl

-- the number below 0 that is furthest from it, and the one after that
least : signed (0x80 ∷ 0x80 ∷ 0x80 ∷ 0x80 ∷ 0x80 ∷ 0x80 ∷ 0x80 ∷ 0x80 ∷ 0x80 ∷ 0x7F ∷ []) 0 ≡ Ok (negsuc 0x7FFFFFFFFFFFFFFF, 10)
unfolding signed leb_bytes
least = refl

too_low : signed (0xFF ∷ 0xFF ∷ 0xFF ∷ 0xFF ∷ 0xFF ∷ 0xFF ∷ 0xFF ∷ 0xFF ∷ 0xFF ∷ 0x7E ∷ []) 0 ≡ Err (TooLarge 0)
unfolding signed leb_bytes
too_low = refl

-- others

past_two : skipped 2 (0x80 ∷ 0x01 ∷ 0x05 ∷ 0x07 ∷ []) 0 ≡ Ok 3
unfolding times leb_bytes
past_two = refl

past_none : skipped 0 [] 5 ≡ Ok 5
unfolding times
past_none = refl

low_byte_first : fixed 2 (0x34 ∷ 0x12 ∷ []) 0 ≡ Ok 0x1234
low_byte_first = refl

cut_off : fixed 2 (0x34 ∷ 0x12 ∷ []) 1 ≡ Err (Short 1)
cut_off = refl

narrow_offset : offset false (0x34 ∷ 0x12 ∷ 0 ∷ 0 ∷ []) 0 ≡ Ok 0x1234
unfolding offset
narrow_offset = refl

wide_offset : offset true (0x34 ∷ 0x12 ∷ 0 ∷ 0 ∷ []) 0 ≡ Err (Short 0)
unfolding offset
wide_offset = refl
