-- What a packet is (GDB manual, "Overview" of the remote serial protocol): `$`, the payload, `#`, and two digits.
use Rattle.std.specs.Prelude.{ℕ, ◌+◌, ◌*◌, ◌%◌, Bool, ◌||◌, ◌==◌, if◌then◌else◌, List, [], ◌∷◌, ◌++◌, bit_xor, Option, Some, None}
use Rattle.std.specs.List.{flat_map, sum_by}
use Rattle.gdb_packets.specs.Digits.{digit_value, byte_digits}
use Rattle.gdb_packets.specs.declared.reader.Phase.{Phase}
use Rattle.gdb_packets.specs.declared.reader.Phase.TheVariants.{Between, Body, Escape, FirstDigit, SecondDigit}
use Rattle.gdb_packets.specs.declared.reader.Piece.{Piece}
use Rattle.gdb_packets.specs.declared.reader.Piece.TheVariants.{Ack, Nak, Interrupt, Packet, Damaged}

-- ---- writing

-- the bytes that can't stand for themselves: # begins the checksum, $ a packet, } announces a byte, * repeats one
abbrev pub is_escaped : ℕ → Bool
is_escaped b = (b == 35) || (b == 36) || (b == 125) || (b == 42)

-- such a byte is written as } and the byte with its bit 5 turned
abbrev pub escape : ℕ → List ℕ
escape b = if is_escaped b then 125 ∷ bit_xor b 32 ∷ [] else b ∷ []

abbrev pub escaped : List ℕ → List ℕ
escaped payload = flat_map escape payload

-- the sum of bytes
abbrev pub total : List ℕ → ℕ
total bytes = sum_by (λ b. b) bytes

abbrev pub checksum : List ℕ → ℕ
checksum bytes = total bytes % 256

abbrev pub packet : List ℕ → List ℕ
packet payload = 36 ∷ [] ++ escaped payload ++ 35 ∷ [] ++ byte_digits (checksum (escaped payload))

-- ---- reading

-- how far a packet has come: where in it the next byte stands, its payload so far, and the sum of its bytes modulo 256
pub record Reading : Type 0 where
  pub phase : Phase
  pub payload : List ℕ
  pub sum : ℕ

-- a packet that has just begun
abbrev pub begun : Reading
begun = record { phase = Body; payload = []; sum = 0 }

abbrev pub at : Phase → Reading → Reading
at phase r = record r { phase = phase }

-- a byte of the body came, which stands for a byte of the payload
abbrev pub taken : (came byte : ℕ) → Reading → Reading
taken came byte r = record { phase = Body; payload = r.payload ++ byte ∷ []; sum = (r.sum + came) % 256 }

abbrev pub in_body : ℕ → Reading → Reading
in_body b r = if b == 35 then at FirstDigit r else (if b == 125 then record { phase = Escape; payload = r.payload; sum = (r.sum + 125) % 256 } else taken b b r)

abbrev pub behind_escape : ℕ → Reading → Reading
behind_escape b r = if b == 35 then at Between r else taken b (bit_xor b 32) r

abbrev pub at_digit : Option ℕ → Reading → Reading
at_digit None r = at Between r
at_digit (Some d) r = at (SecondDigit d) r

abbrev pub within : Phase → ℕ → Reading → Reading
within Between b r = r
within Body b r = in_body b r
within Escape b r = behind_escape b r
within FirstDigit b r = at_digit (digit_value b) r
within (SecondDigit d) b r = at Between r

-- what is read once a byte came. A $ begins a packet, whatever came before
abbrev pub fed : ℕ → Reading → Reading
fed b r = if b == 36 then begun else within r.phase b r

-- between packets: + says that a packet came whole, - that it is to be sent again, 3 that the program is to stop
abbrev pub between : ℕ → Option Piece
between b = if b == 43 then Some Ack else (if b == 45 then Some Nak else (if b == 3 then Some Interrupt else None))

-- the packet is whole if its checksum is the sum of its bytes
abbrev pub summed : (sum first : ℕ) → Option ℕ → Piece
summed sum first None = Damaged
summed sum first (Some second) = if first * 16 + second == sum then Packet else Damaged

abbrev pub behind_number : Option ℕ → Option Piece
behind_number None = Some Damaged
behind_number (Some d) = None

abbrev pub ended : Phase → ℕ → Reading → Option Piece
ended Between b r = between b
ended Body b r = None
ended Escape b r = if b == 35 then Some Damaged else None
ended FirstDigit b r = behind_number (digit_value b)
ended (SecondDigit d) b r = Some (summed r.sum d (digit_value b))

-- what a byte brings to its end
abbrev pub piece : ℕ → Reading → Option Piece
piece b r = if b == 36 then None else ended r.phase b r

-- ---- many bytes

abbrev pub fed_all : List ℕ → Reading → Reading
fed_all [] r = r
fed_all (b ∷ bytes) r = fed_all bytes (fed b r)

abbrev pub added : Option Piece → List Piece → List Piece
added None pieces = pieces
added (Some p) pieces = p ∷ pieces

-- what they bring to an end, in this order
abbrev pub pieces : List ℕ → Reading → List Piece
pieces [] r = []
pieces (b ∷ bytes) r = added (piece b r) (pieces bytes (fed b r))
