-- What is to be predicted of a run: its lines that begin with some words.
use Rattle.std.specs.Prelude.{◌≡◌, ℕ, Bool, if◌then◌else◌, ◌||◌, ◌==◌, nat_lt, List, [], ◌∷◌, ◌++◌, length, take, map, flat_map, codes, String, string_bytes}
use Rattle.std.specs.declared.alloc.Global.{Global}
use Rattle.std.specs.List.{list_all, list_any, before_first}
use Rattle.std.specs.Str.{bytes_eq, str_to_ascii_lowercase}
use Rattle.std.specs.Str.Lines.{lines}
use Rattle.grade_rules.specs.Notes.{note_text}
use Rattle.grade_sheets.specs.Forms.{plain}
use Rattle.grade_sheets.specs.declared.judging.Seen.{Seen}

-- the first word of a line
abbrev pub first_word : List ℕ → List ℕ
first_word line = before_first (λ b. b == 32) line

abbrev pub is_one_of : (word : List ℕ) → List (String Global) → Bool
is_one_of word words = list_any (λ other. bytes_eq (string_bytes other) word) words

-- a line and its end, if its first word is one of these
abbrev pub line_if : (words : List (String Global)) → List ℕ → List ℕ
line_if words line = if is_one_of (first_word line) words then line ++ codes "\n" else []

-- those of these lines
abbrev pub lines_if : (words : List (String Global)) → List (List ℕ) → List ℕ
lines_if words list = flat_map (line_if words) list

-- the words that begin notes
abbrev pub begins_note : String Global → Bool
begins_note word =
    bytes_eq (string_bytes word) (codes "turn") || (bytes_eq (string_bytes word) (codes "call") || (bytes_eq (string_bytes word) (codes "block")
    || (bytes_eq (string_bytes word) (codes "exit") || bytes_eq (string_bytes word) (codes "fault"))))

-- the lines of the notes, if each word begins notes, and else those of the trace
abbrev pub predicted : (words : List (String Global)) → Seen → List ℕ
predicted words seen = if list_all begins_note words then lines_if words (map note_text seen.notes.now) else lines_if words (lines seen.trace.now)

-- ---- what is compared: capitals and the marks around a line don't count, and lines with nothing else are passed over

-- what a line says, if it says something
abbrev pub if_said : List ℕ → List (List ℕ)
if_said line = if nat_lt 0 (length (plain line)) then plain line ∷ [] else []

-- what the lines of a text say, in small letters
abbrev pub said_lines : List ℕ → List (List ℕ)
said_lines text = flat_map if_said (lines (str_to_ascii_lowercase text))

-- a line and its end
abbrev pub with_end : List ℕ → List ℕ
with_end line = line ++ 10 ∷ []

-- the first so many of them, one after another
abbrev pub said : (most : ℕ) → List ℕ → List ℕ
said most text = flat_map with_end (take most (said_lines text))

-- what was handed in has the first so many of these lines
abbrev pub IsPredicted : (words : List (String Global)) → (most : ℕ) → Seen → Type 0
IsPredicted words most seen = said most (predicted words seen) ≡ said most seen.handed_in.now
