-- Numbers, bytes and names as the debugger's answers show them: which bytes are written.
use Rattle.std.specs.Prelude.{ℕ, zero, suc, ◌/◌, ◌%◌, ◌-◌, ◌^◌, ◌==◌, ◌&&◌, nat_lt, nat_le, if◌then◌else◌, List, [], ◌∷◌, ◌++◌, map, take, flat_map, codes, decimal, false, Option, None, Some}
use Rattle.std.specs.Fmt.{digits, format_spec, padded_integral, styled_decimal, styled_text}

-- ---- columns: blanks fill a column, of so many characters, on the other side

-- a text on the left
abbrev pub at_left : (width : ℕ) → List ℕ → List ℕ
at_left width text = styled_text (format_spec 32 1 0 width (2 ^ 64 - 1)) text

-- a text on the right
abbrev pub at_right : (width : ℕ) → List ℕ → List ℕ
at_right width text = styled_text (format_spec 32 3 0 width (2 ^ 64 - 1)) text

-- a number on the right
abbrev pub number_at_right : (width : ℕ) → ℕ → List ℕ
number_at_right width n = styled_decimal (format_spec 32 3 0 width (2 ^ 64 - 1)) n

-- ---- numbers

-- so many decimal digits at least, with zeros before
abbrev pub decimal_places : (places : ℕ) → ℕ → List ℕ
decimal_places places n = styled_decimal (format_spec 32 0 4 places (2 ^ 64 - 1)) n

-- so many hexadecimal digits at least, with zeros before
abbrev pub hexadecimal_places : (places : ℕ) → ℕ → List ℕ
hexadecimal_places places n = padded_integral (format_spec 32 0 4 places (2 ^ 64 - 1)) false [] (digits 16 false n)

-- 0x and the hexadecimal digits
abbrev pub hexadecimal : ℕ → List ℕ
hexadecimal n = codes "0x" ++ digits 16 false n

-- a number with a comma at each thousand, in so many thousands at most: its thousands, a comma, and three digits
unfoldable pub grouped_by : (thousands : ℕ) → ℕ → List ℕ
grouped_by zero n = decimal n
grouped_by (suc thousands) n = if nat_lt n 1000 then decimal n else grouped_by thousands (n / 1000) ++ codes "," ++ decimal_places 3 (n % 1000)

-- of any number below 2^64, as 1,234,567
abbrev pub grouped : ℕ → List ℕ
grouped n = grouped_by 6 n

abbrev pub plural : ℕ → List ℕ
plural n = if n == 1 then [] else codes "s"

-- so many of a thing: `1 event`, `2,000 events`
abbrev pub many : ℕ → (thing : List ℕ) → List ℕ
many n thing = grouped n ++ codes " " ++ thing ++ plural n

-- ---- bytes

-- a byte between quotes: as the word `key` reads it, if it is no visible character, a quote or a backslash
abbrev pub quoted_byte : ℕ → List ℕ
quoted_byte b =
    if b == 10 then codes "\\n"
    else if b == 9 then codes "\\t"
    else if b == 8 then codes "\\b"
    else if b == 92 then codes "\\\\"
    else if b == 34 then codes "\\x22"
    else if nat_le 32 b && nat_le b 126 then b ∷ []
    else codes "\\x" ++ hexadecimal_places 2 b

-- bytes between quotes
abbrev pub quoted : List ℕ → List ℕ
quoted bytes = 34 ∷ (flat_map quoted_byte bytes ++ 34 ∷ [])

-- ---- names of programs

-- a byte that is a visible character; else a dot
abbrev pub visible : ℕ → ℕ
visible b = if nat_lt 32 b && nat_lt b 127 then b else 46

-- the first 14 bytes of a name
abbrev pub name_shown : List ℕ → List ℕ
name_shown name = map visible (take 14 name)

-- a name behind a pid, as ` (sh)`; nothing if there is none
abbrev pub named : Option (List ℕ) → List ℕ
named None = []
named (Some name) = codes " (" ++ name_shown name ++ codes ")"
