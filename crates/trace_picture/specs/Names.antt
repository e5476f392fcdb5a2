-- How processes are named in a picture, as a text of XML has it.
use Rattle.std.specs.Prelude.{ℕ, ◌+◌, ◌*◌, ◌==◌, ◌&&◌, ◌||◌, Bool, nat_le, min, if◌then◌else◌, List, [], ◌∷◌, ◌++◌, length, take, flat_map, codes, decimal, Option, None, Some}
use Rattle.std.specs.Char.{encode_utf8}
use Rattle.std.specs.List.{concat, fold}
use Rattle.std.specs.Str.{chars}
use Rattle.trace_picture.specs.Remarks.{program_at}
use Rattle.trace_picture.specs.declared.chart.Chart.{Chart}
use Rattle.trace_picture.specs.declared.chart.Row.{Row}
use Rattle.trace_picture.specs.declared.remark.Remarks.{Remarks}

-- a character that can't be shown: the control characters, and two that XML doesn't have
abbrev pub is_hidden : (letter : ℕ) → Bool
is_hidden letter = nat_le letter 31 || (nat_le 127 letter && nat_le letter 159) || letter == 65534 || letter == 65535

-- a letter in XML: what has a meaning there is an entity, and what can't be shown is a dot in the middle
abbrev pub letter_text : (letter : ℕ) → List ℕ
letter_text letter =
    if letter == 60 then codes "&lt;"
    else if letter == 62 then codes "&gt;"
    else if letter == 38 then codes "&amp;"
    else if is_hidden letter then encode_utf8 183
    else encode_utf8 letter

-- a text in XML
abbrev pub xml_text : (text : List ℕ) → List ℕ
xml_text text = flat_map letter_text (chars text)

-- an ellipsis, if a program's name has more than 24 letters
abbrev pub rest_text : (program : List ℕ) → List ℕ
rest_text program = if nat_le (length (chars program)) 24 then [] else encode_utf8 8230

-- the first 24 letters of a program's name, and an ellipsis if it has more
abbrev pub start_text : (program : List ℕ) → List ℕ
start_text program = flat_map letter_text (take 24 (chars program)) ++ rest_text program

abbrev pub behind_pid : (program : List ℕ) → List ℕ
behind_pid program = concat (codes " (" ∷ xml_text program ∷ codes ")" ∷ [])

-- `process 3`, or `process 3 (wc)` if its program is told
abbrev pub who_text : (pid : ℕ) → (program : Option (List ℕ)) → List ℕ
who_text pid None = codes "process " ++ decimal pid
who_text pid (Some program) = codes "process " ++ (decimal pid ++ behind_pid program)

-- `process 3`, or `3 wc` if its program is told
abbrev pub row_name : (pid : ℕ) → (program : Option (List ℕ)) → List ℕ
row_name pid None = who_text pid None
row_name pid (Some program) = concat (decimal pid ∷ codes " " ∷ []) ++ start_text program

-- ---- how much room names take, in pixels

-- seven for each letter, with a pid of four, and sixteen that stay free
abbrev pub name_room : (program : List ℕ) → ℕ
name_room program = (min (length (chars program)) 24 + 4) * 7 + 16

abbrev pub room_with : (room : ℕ) → (program : Option (List ℕ)) → ℕ
room_with room None = room
room_with room (Some program) = if nat_le room (name_room program) then name_room program else room

-- what the names of rows take that have their processes' last programs: the most of them, and 90 at least
abbrev pub names_room : Chart → Remarks → ℕ
names_room chart remarks = fold (λ room (row : Row). room_with room (program_at remarks row.pid (length chart.notes.items))) 90 chart.rows.items
