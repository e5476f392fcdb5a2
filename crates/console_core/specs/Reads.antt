-- What a read takes of the committed bytes (the xv6 book, "Code: Console input").
use Rattle.std.specs.Prelude.{ℕ, ◌+◌, ◌==◌, ◌||◌, ◌&&◌, nat_le, Bool, true, false, if◌then◌else◌, List, [], take, drop, slice_get, Option, None, Some}
use Rattle.std.specs.List.{position_or_len}

-- the bytes that a read takes, whether it is over, and the bytes that it leaves
pub record Pulled : Type 0 where
  pub taken : List ℕ
  pub ended : Bool
  pub left : List ℕ

-- byte 4 and byte 10 end a read
abbrev pub ends_read : ℕ → Bool
ends_read byte = byte == 4 || byte == 10

-- the first n bytes are taken
abbrev pub first_bytes : ℕ → Bool → List ℕ → Pulled
first_bytes n ended bytes = record { taken = take n bytes; ended = ended; left = drop n bytes }

-- a read with room to spare that meets its end at place k, or no end at all:
-- it waits for more where there is none, takes byte 10, and leaves byte 4 for the next read, but for one that is the first of all
abbrev pub up_to : Bool → List ℕ → ℕ → Option ℕ → Pulled
up_to first bytes k None = first_bytes k false bytes
up_to first bytes k (Some byte) =
    if byte == 10 then first_bytes (k + 1) true bytes
    else if first && (k == 0) then record { taken = []; ended = true; left = drop 1 bytes }
    else first_bytes k true bytes

-- where the first byte stands that ends a read, or else how many bytes there are
abbrev pub line_length : List ℕ → ℕ
line_length bytes = position_or_len ends_read bytes

-- a read with room for n more bytes; `first` tells that none was read before
abbrev pub pulled : Bool → ℕ → List ℕ → Pulled
pulled first n bytes =
    let k = line_length bytes in
    if nat_le n k then first_bytes n true bytes
    else up_to first bytes k (slice_get bytes k)
