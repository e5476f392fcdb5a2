-- The text of a file in UTF-8, or in UTF-16 with its byte order mark, as Windows' tools write it (the Unicode Standard, "Unicode Encoding Schemes").
use Rattle.std.specs.Prelude.{ℕ, ◌+◌, ◌*◌, ◌%◌, ◌==◌, if◌then◌else◌, List, [], ◌∷◌, length, drop, eqb, encode_utf8_all, Option, None, Some}
use Rattle.std.specs.Char.Utf16.{has_unpaired_surrogate, utf16_lossy_chars}
use Rattle.std.specs.List.{starts_with}
use Rattle.grade_submissions.specs.declared.encodings.ByteOrder.{ByteOrder}
use Rattle.grade_submissions.specs.declared.encodings.ByteOrder.TheVariants.{Little, Big}

-- ---- byte order marks

-- the order that a mark of UTF-16 says
abbrev pub order_of : (bytes : List ℕ) → Option ByteOrder
order_of bytes = if starts_with eqb bytes (0xff ∷ 0xfe ∷ []) then Some Little else (if starts_with eqb bytes (0xfe ∷ 0xff ∷ []) then Some Big else None)

-- bytes without a mark of UTF-8
abbrev pub without_mark : (bytes : List ℕ) → List ℕ
without_mark bytes = if starts_with eqb bytes (0xef ∷ 0xbb ∷ 0xbf ∷ []) then drop 3 bytes else bytes

-- ---- UTF-16

-- the unit of two bytes
abbrev pub unit : ByteOrder → (first second : ℕ) → ℕ
unit Little first second = second * 256 + first
unit Big first second = first * 256 + second

-- each two bytes are a unit
abbrev pub units_of : ByteOrder → (bytes : List ℕ) → List ℕ
units_of order (first ∷ second ∷ bytes) = unit order first second ∷ units_of order bytes
units_of order _ = []

-- the text of units, in UTF-8: none if half of a surrogate pair stands alone
abbrev pub decoded : (units : List ℕ) → Option (List ℕ)
decoded units = if has_unpaired_surrogate units then None else Some (encode_utf8_all (utf16_lossy_chars units))

-- ---- the bytes of a file

-- behind a mark of UTF-16 whole units, which are text; all other bytes as they are
abbrev pub plain_by : Option ByteOrder → (bytes : List ℕ) → Option (List ℕ)
plain_by None bytes = Some (without_mark bytes)
plain_by (Some order) bytes = if length bytes % 2 == 0 then decoded (units_of order (drop 2 bytes)) else None

-- in UTF-8 and without a mark; none if they begin as UTF-16, and aren't
abbrev pub plain_bytes : (bytes : List ℕ) → Option (List ℕ)
plain_bytes bytes = plain_by (order_of bytes) bytes
