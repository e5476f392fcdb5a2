-- Bytes of a process's memory, as they are shown.
use Rattle.std.specs.Prelude.{ℕ, zero, suc, ◌+◌, ◌-◌, ◌%◌, ◌^◌, ◌==◌, ◌&&◌, nat_lt, nat_le, min, if◌then◌else◌, is_some, List, [], ◌∷◌, ◌++◌, map, flat_map, codes, decimal, Option, None, Some}
use Rattle.std.specs.List.{concat, range_with_len}
use Rattle.kernel_spec.specs.views.State.{State, live}
use Rattle.xv_session.specs.Recorded.{Recorded}
use Rattle.debug_words.specs.Texts.{named, hexadecimal_places}
use Rattle.debug_views.specs.Bytes.{byte_behind}
use Rattle.debug_views.specs.Focus.{name_in, no_process}

-- what stands before a byte: each eighth has more room
abbrev pub gap_at : ℕ → List ℕ
gap_at place = if place % 8 == 0 then codes "  " else codes " "

-- a byte in hexadecimal digits
abbrev pub digits_shown : Option ℕ → List ℕ
digits_shown None = codes "--"
digits_shown (Some byte) = hexadecimal_places 2 byte

-- a byte as a character: a dot if it is no visible one, a blank where no byte is
abbrev pub character : Option ℕ → ℕ
character None = 32
character (Some byte) = if nat_le 32 byte && nat_lt byte 127 then byte else 46

-- the byte at a place of a line that has so many
abbrev pub byte_in_line : State → (p address count place : ℕ) → List ℕ
byte_in_line s p address count place = gap_at place ++ (if nat_le count place then codes "  " else digits_shown (byte_behind s p address place))

-- the first places of a line in digits, and as characters
abbrev pub digits_in_line : State → (p address count places : ℕ) → List ℕ
digits_in_line s p address count places = flat_map (byte_in_line s p address count) (range_with_len 0 places)

abbrev pub characters_in_line : State → (p address places : ℕ) → List ℕ
characters_in_line s p address places = map (λ place. character (byte_behind s p address place)) (range_with_len 0 places)

-- these between two strokes
abbrev pub characters_between : State → (p address places : ℕ) → List ℕ
characters_between s p address places = codes "  |" ++ characters_in_line s p address places ++ codes "|\n"

-- a line: its address, its bytes, and these as characters
abbrev pub memory_line : State → (p address count : ℕ) → List ℕ
memory_line s p address count =
    codes "0x" ++ hexadecimal_places 10 address ++ codes " " ++ digits_in_line s p address count 16 ++ characters_between s p address count

-- so many bytes from an address on, in lines of 16, in so many at most; none from 2^64 on
unfoldable pub memory_lines : State → (p lines address count : ℕ) → List ℕ
memory_lines s p zero address count = []
memory_lines s p (suc lines) address count =
    if count == 0 then []
    else memory_line s p address (min count 16)
    ++ (if nat_lt (address + min count 16) (2 ^ 64) then memory_lines s p lines (address + min count 16) (count - min count 16) else [])

-- how many bytes of process p these are
abbrev pub memory_head : (p count : ℕ) → (name : Option (List ℕ)) → List ℕ
memory_head p count name = concat (decimal count ∷ codes " bytes of process " ∷ decimal p ∷ named name ∷ codes ", in hexadecimal; -- isn't there\n" ∷ [])

-- the bytes of process p
abbrev pub memory_text : Recorded → (p address count : ℕ) → List ℕ
memory_text s p address count = memory_head p count (name_in s p) ++ memory_lines s.machine.world.state p 16 address count

-- if it lives
abbrev pub memory_shown : Recorded → (p address count : ℕ) → List ℕ
memory_shown s p address count =
    if is_some (live s.machine.world.state p)
    then memory_text s p address count
    else no_process p
