-- What holds of packets, however they are cut.
use Rattle.std.specs.Prelude.{◌≡◌, ◌≢◌, ℕ, ◌+◌, ◌*◌, ◌<◌, List, [], ◌∷◌, ◌++◌}
use Rattle.gdb_packets.specs.Digits.{digit}
use Rattle.gdb_packets.specs.Packets.{Reading, fed_all, pieces, packet, escaped, checksum}
use Rattle.gdb_packets.specs.declared.reader.Piece.TheVariants.{Packet, Damaged}

-- A packet that is written, read again, gives the same payload, whatever was read before
abbrev pub ReadsBack : Type 0
ReadsBack = (payload : List ℕ) (before : Reading) → ((fed_all (packet payload) before).payload ≡ payload) × (pieces (packet payload) before ≡ Packet ∷ [])

-- the same bytes, with other digits behind them
abbrev pub with_digits : List ℕ → (higher lower : ℕ) → List ℕ
with_digits payload higher lower = 36 ∷ [] ++ escaped payload ++ 35 ∷ [] ++ digit higher ∷ digit lower ∷ []

-- A packet with a wrong checksum comes to its end as a damaged one
abbrev pub WrongSumsShow : Type 0
WrongSumsShow =
    (payload : List ℕ) (before : Reading) (higher lower : ℕ) → higher < 16 → lower < 16 → higher * 16 + lower ≢ checksum (escaped payload)
    → pieces (with_digits payload higher lower) before ≡ Damaged ∷ []

-- Bytes that come in two parts bring the same to its end as they do at once
abbrev pub CutsShowNothing : Type 0
CutsShowNothing =
    (first second : List ℕ) (before : Reading)
    → (fed_all (first ++ second) before ≡ fed_all second (fed_all first before)) × (pieces (first ++ second) before ≡ pieces first before ++ pieces second (fed_all first before))
