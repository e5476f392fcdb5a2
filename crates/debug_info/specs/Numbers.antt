-- Numbers of so many bits, and addresses that are counted from others (DWARF 5, sections 2.5.1.2 and 7.8).
use Rattle.std.specs.Prelude.{ℕ, ◌+◌, ◌-◌, ◌*◌, ◌/◌, ◌%◌, ◌^◌, ◌==◌, nat_le, if◌then◌else◌, ℤ, pos, negsuc, List, [], ◌∷◌, ◌++◌, length, drop, Option, Some, None}
use Rattle.std.specs.Int.{from_le_bytes, w64}

-- the value of the highest bit of a number of 1, 2, 4 or 8 bytes
abbrev pub highest_of : ℕ → ℕ
highest_of bytes = if bytes == 1 then 2 ^ 7 else (if bytes == 2 then 2 ^ 15 else (if bytes == 4 then 2 ^ 31 else 2 ^ 63))

-- the number in the low bits, up to this one
abbrev pub unsigned_of : (highest number : ℕ) → ℕ
unsigned_of highest number = number % (2 * highest)

-- two's complement: the highest bit counts negatively, so the number that has it alone is the least one
abbrev pub signed_of : (highest number : ℕ) → ℤ
signed_of highest number = if number / highest % 2 == 0 then pos (number % highest) else negsuc (highest - 1 - number % highest)

-- an address so far from another one: addresses wrap at 64 bits
abbrev pub address_from : (base : ℕ) → (distance : ℤ) → ℕ
address_from base (pos n) = (base + n) % 2 ^ 64
address_from base (negsuc n) = (base + (2 ^ 64 - 1 - n)) % 2 ^ 64

-- the bytes, and zeros up to 8
abbrev pub padded : List ℕ → List ℕ
padded bytes = bytes ++ drop (length bytes) (0 ∷ 0 ∷ 0 ∷ 0 ∷ 0 ∷ 0 ∷ 0 ∷ 0 ∷ [])

-- the number in so many bytes, the lowest first, if they are 8 at most
abbrev pub number_in : List ℕ → Option ℕ
number_in bytes = if nat_le (length bytes) 8 then Some (from_le_bytes w64 (padded bytes)) else None
