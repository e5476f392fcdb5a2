-- Where bytes of values are read.
use Rattle.std.specs.Prelude.{ℕ, ◌+◌, ◌-◌, ◌*◌, ◌%◌, ◌^◌, ◌==◌, nat_le, if◌then◌else◌, min, slice_get, Option, Some, None}
use Rattle.std.specs.Int.{w64, to_le_bytes}
use Rattle.debug_info.specs.declared.spots.Spot.{Spot}
use Rattle.debug_info.specs.declared.spots.Spot.TheVariants.{Memory, Number}

-- so many bytes after a place: addresses wrap at 64 bits
abbrev pub after : (bytes : ℕ) → Spot → Spot
after bytes (Memory address) = Memory ((address + bytes) % 2 ^ 64)
after bytes (Number number from) = Number number (min (from + bytes) (2 ^ 64 - 1))

-- the byte there: of memory, or of a number of 8 bytes, the lowest first
abbrev pub byte_at : (memory : ℕ → Option ℕ) → Spot → Option ℕ
byte_at memory (Memory address) = memory address
byte_at memory (Number number from) = slice_get (to_le_bytes w64 number) from

-- a number whose low part is below this weight, if both parts are there
abbrev pub joined : (weight : ℕ) → (low high : Option ℕ) → Option ℕ
joined weight (Some low) (Some high) = Some (low + weight * high)
joined weight (Some low) None = None
joined weight None high = None

-- the number in two bytes, in four, and in so many: the lowest byte first
abbrev pub half_at : (memory : ℕ → Option ℕ) → Spot → Option ℕ
half_at memory spot = joined (2 ^ 8) (byte_at memory spot) (byte_at memory (after 1 spot))

abbrev pub word_at : (memory : ℕ → Option ℕ) → Spot → Option ℕ
word_at memory spot = joined (2 ^ 16) (half_at memory spot) (half_at memory (after 2 spot))

abbrev pub short_at : (memory : ℕ → Option ℕ) → Spot → (bytes : ℕ) → Option ℕ
short_at memory spot bytes =
    if bytes == 0 then Some 0
    else (if bytes == 1 then byte_at memory spot
    else (if bytes == 2 then half_at memory spot
    else (if bytes == 3 then joined (2 ^ 16) (half_at memory spot) (byte_at memory (after 2 spot))
    else (if bytes == 4 then word_at memory spot else None))))

-- of 8 bytes at most; none if one of them isn't there
abbrev pub number_at : (memory : ℕ → Option ℕ) → Spot → (bytes : ℕ) → Option ℕ
number_at memory spot bytes =
    if nat_le bytes 4 then short_at memory spot bytes else joined (2 ^ 32) (word_at memory spot) (short_at memory (after 4 spot) (bytes - 4))
