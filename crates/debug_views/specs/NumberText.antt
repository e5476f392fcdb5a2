-- Memory as numbers of some bytes each, as it is shown.
use Rattle.std.specs.Prelude.{ℕ, ◌+◌, ◌-◌, ◌*◌, ◌/◌, ◌%◌, ◌^◌, ◌==◌, nat_lt, min, if◌then◌else◌, is_some, List, [], ◌∷◌, ◌++◌, flat_map, codes, decimal, Option, None, Some}
use Rattle.std.specs.List.{concat, range_with_len}
use Rattle.kernel_spec.specs.views.State.{State, live}
use Rattle.xv_session.specs.Looking.{word_of}
use Rattle.xv_session.specs.Recorded.{Recorded}
use Rattle.debug_words.specs.Ranges.{bytes_of}
use Rattle.debug_words.specs.Texts.{grouped, hexadecimal, hexadecimal_places, many, named}
use Rattle.debug_words.specs.declared.vocabulary.Size.{Size}
use Rattle.debug_words.specs.declared.vocabulary.Size.TheVariants.{Byte, Half, Word, Giant}
use Rattle.debug_views.specs.Bytes.{byte_behind}
use Rattle.debug_views.specs.Focus.{name_in, no_process}

-- ---- a number in memory, whose first byte is the lowest

abbrev pub half_of : Option ℕ → Option ℕ → Option ℕ
half_of (Some a) (Some b) = Some (a + 256 * b)
half_of _ _ = None

abbrev pub giant_of : (low high : Option ℕ) → Option ℕ
giant_of (Some low) (Some high) = Some (low + 2 ^ 32 * high)
giant_of _ _ = None

-- the four bytes so far behind an address
abbrev pub word_behind : State → (p address place : ℕ) → Option ℕ
word_behind s p address place =
    word_of (byte_behind s p address place) (byte_behind s p address (place + 1)) (byte_behind s p address (place + 2)) (byte_behind s p address (place + 3))

-- the number of a size so far behind an address; none if one of its bytes isn't there
abbrev pub number_behind : Size → State → (p address place : ℕ) → Option ℕ
number_behind Byte s p address place = byte_behind s p address place
number_behind Half s p address place = half_of (byte_behind s p address place) (byte_behind s p address (place + 1))
number_behind Word s p address place = word_behind s p address place
number_behind Giant s p address place = giant_of (word_behind s p address place) (word_behind s p address (place + 4))

-- ---- numbers in rows of 16 bytes

-- its hexadecimal digits, two for each byte
abbrev pub number_shown : Size → Option ℕ → List ℕ
number_shown size None = codes "  --"
number_shown size (Some n) = codes "  0x" ++ hexadecimal_places (2 * bytes_of size) n

-- what stands before the number at a place: where a row begins, its address
abbrev pub row_head : Size → (address place : ℕ) → List ℕ
row_head size address place =
    if place % (16 / bytes_of size) == 0 then codes "\n0x" ++ (hexadecimal_places 10 ((address + bytes_of size * place) % 2 ^ 64) ++ codes ":") else []

abbrev pub number_text : Size → State → (p address place : ℕ) → List ℕ
number_text size s p address place = row_head size address place ++ number_shown size (number_behind size s p address (bytes_of size * place))

-- the first numbers, so many
abbrev pub first_numbers : Size → State → (p address count : ℕ) → List ℕ
first_numbers size s p address count = flat_map (number_text size s p address) (range_with_len 0 count)

-- how many numbers of process p these are
abbrev pub numbers_head : Size → (p count : ℕ) → (name : Option (List ℕ)) → List ℕ
numbers_head size p count name = concat (many count (codes "number") ∷ codes " of " ∷ many (bytes_of size) (codes "byte") ∷ codes " of process " ∷ decimal p ∷ named name ∷ [])

-- the numbers of process p, 256 at most
abbrev pub numbers_text : Recorded → Size → (p address count : ℕ) → List ℕ
numbers_text s size p address count = numbers_head size p count (name_in s p) ++ (first_numbers size s.machine.world.state p address (min count 256) ++ codes "\n")

-- if it lives
abbrev pub numbers_shown : Recorded → Size → (p address count : ℕ) → List ℕ
numbers_shown s size p address count = if is_some (live s.machine.world.state p) then numbers_text s size p address count else no_process p

-- ---- a number by itself

-- what it is if its first bit tells a sign
abbrev pub signed_text : ℕ → List ℕ
signed_text n = if nat_lt n (2 ^ 63) then codes "\n" else codes ", or -" ++ (grouped (2 ^ 64 - n) ++ codes "\n")

abbrev pub value_text : ℕ → List ℕ
value_text n = hexadecimal n ++ (codes " = " ++ (grouped n ++ signed_text n))
