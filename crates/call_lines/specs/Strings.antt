-- Bytes as a string of C (C11, 6.4.4.4 "Character constants" and 6.4.5 "String literals"), shortened.
use Rattle.std.specs.Prelude.{ℕ, ◌-◌, ◌^◌, ◌==◌, ◌&&◌, nat_le, nat_lt, if◌then◌else◌, false, List, [], ◌∷◌, ◌++◌, take, length, flat_map, codes}
use Rattle.std.specs.Fmt.{digits, format_spec, padded_integral}

-- a byte in three octal digits
abbrev pub octal_places : ℕ → List ℕ
octal_places byte = padded_integral (format_spec 32 0 4 3 (2 ^ 64 - 1)) false [] (digits 8 false byte)

-- a byte as a string of C has it: a line's end, a tab, a return, a quote and a backslash by their signs, a visible character or a blank as it is, and any other by its octal number
abbrev pub escaped : ℕ → List ℕ
escaped byte =
    if byte == 10 then codes "\\n"
    else if byte == 9 then codes "\\t"
    else if byte == 13 then codes "\\r"
    else if byte == 34 then codes "\\\""
    else if byte == 92 then codes "\\\\"
    else if nat_le 32 byte && nat_le byte 126 then byte ∷ []
    else codes "\\" ++ octal_places byte

-- what stands behind the bytes that are shown, so many at most: a quote, and dots if there are more
abbrev pub ending : (most : ℕ) → List ℕ → List ℕ
ending most bytes = if nat_lt most (length bytes) then codes "\"..." else codes "\""

-- the first bytes, so many at most, between quotes
abbrev pub c_string : (most : ℕ) → List ℕ → List ℕ
c_string most bytes = 34 ∷ (flat_map escaped (take most bytes) ++ ending most bytes)
