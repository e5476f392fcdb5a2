-- Which addresses names and lines of sources have.
use Rattle.std.specs.Prelude.{◌≡◌, ℕ, ◌+◌, ◌-◌, ◌<◌, ◌&&◌, Bool, true, false, codes, if◌then◌else◌, length, take, nat_eq, nat_le, nat_lt, bytes_eq, find, List, [], slice_get, string_bytes, Option, None, Some, option_map, String}
use Rattle.std.specs.List.{ends_with}
use Rattle.std.specs.declared.alloc.Global.{Global}
use Rattle.elf_symbols.specs.Symbols.{address_of, symbol_count, symbol_name}
use Rattle.uasm_core.specs.LineTable.{or_else}
use Rattle.uasm_core.specs.declared.source_lines.CodeLine.{CodeLine}
use Rattle.uasm_core.specs.declared.source_lines.LabelAddress.{LabelAddress}
use Rattle.xv_report.specs.declared.lines.LineRow.{LineRow}
use Rattle.xv_report.specs.declared.places.LineNamed.{LineNamed}
use Rattle.xv_report.specs.declared.sources.ProgramLines.{ProgramLines}
use Rattle.xv_report.specs.declared.sources.ProgramLines.TheVariants.{Unknown, Table, Source}
use Rattle.xv_report.specs.declared.sources.ProgramSource.{ProgramSource}

-- the address of the first label of this name
abbrev pub label_named : (name : List ℕ) → List LabelAddress → Option ℕ
label_named name labels = option_map (λ (l : LabelAddress). l.address) (find (λ (l : LabelAddress). bytes_eq l.name.items name) labels)

-- where the instructions begin of the first line that makes some and has this number, or a greater one
abbrev pub line_start : (number : ℕ) → List CodeLine → Option ℕ
line_start number code = option_map (λ (row : CodeLine). row.start) (find (λ (row : CodeLine). nat_le number row.line) code)

-- it is told, and is this text
abbrev pub is_text : (text : List ℕ) → Option (String Global) → Bool
is_text text None = false
is_text text (Some told) = bytes_eq (string_bytes told) text

-- a row of the program, of which this text is told
abbrev pub is_told : List (String Global) → (program : ℕ) → (text : List ℕ) → LineRow → Bool
is_told texts program text row = nat_eq row.program program && is_text text (slice_get texts row.text)

-- what is told of the line of a row, if it is one of the program's
abbrev pub text_of : List (String Global) → (place : ℕ) → Option (List ℕ)
text_of texts place = option_map string_bytes (slice_get texts place)

abbrev pub told_of : List (String Global) → (program : ℕ) → Option LineRow → Option (List ℕ)
told_of texts program None = None
told_of texts program (Some row) = if nat_eq row.program program then text_of texts row.text else None

-- it is above another address, or there is no other
abbrev pub is_after : (address : ℕ) → (after : Option ℕ) → Bool
is_after address None = true
is_after address (Some other) = nat_lt other address

-- where the first row begins of which this text is told, above an address, if one is given
abbrev pub line_told : List (String Global) → (program : ℕ) → (text : List ℕ) → (after : Option ℕ) → List LineRow → Option ℕ
line_told texts program text after rows =
    option_map (λ (row : LineRow). row.address) (find (λ (row : LineRow). is_after row.address after && is_told texts program text row) rows)

-- ---- by what is known of a program

-- the labels of a program, if it was assembled
abbrev pub labels_in : ProgramLines → List LabelAddress
labels_in (Source lines name) = lines.now.labels.items
labels_in _ = []

-- the address of the first label of this name, or else of the first symbol
abbrev pub address_named : ProgramSource → (name : List ℕ) → Option ℕ
address_named source name = or_else (label_named name (labels_in source.lines)) (address_of source.symbols.now name)

-- the name of the label at a place
abbrev pub label_at : (place : ℕ) → List LabelAddress → Option (List ℕ)
label_at place labels = option_map (λ (l : LabelAddress). l.name.items) (slice_get labels place)

-- the name at a place among those of a program: its labels come first, then its symbols
abbrev pub nth_name : ProgramSource → (place : ℕ) → Option (List ℕ)
nth_name source place =
    if nat_lt place (length (labels_in source.lines)) then label_at place (labels_in source.lines)
    else symbol_name source.symbols.now (place - length (labels_in source.lines))

-- how many there are
abbrev pub name_count : ProgramSource → ℕ
name_count source = length (labels_in source.lines) + symbol_count source.symbols.now

-- the name of the program that was assembled of a file: the file's without `.s`
abbrev pub assembled_name : (file : List ℕ) → Option (List ℕ)
assembled_name file = if ends_with nat_eq file (codes ".s") then Some (take (length file - 2) file) else None

-- it is there, and is this name
abbrev pub is_name : (name : List ℕ) → Option (List ℕ) → Bool
is_name name None = false
is_name name (Some own) = bytes_eq own name

-- of an assembled source a line's instructions stand together: they begin once
abbrev pub line_start_once : (number : ℕ) → (after : Option ℕ) → List CodeLine → Option ℕ
line_start_once number None code = line_start number code
line_start_once number (Some other) code = None

-- where instructions of a line begin, above an address, if one is given: of a table by the rows of which its text is told, of an assembled source by its number; of a source that isn't the program's nowhere
abbrev pub line_begins : ProgramLines → LineNamed → (after : Option ℕ) → Option ℕ
line_begins Unknown line after = None
line_begins (Table lines place) line after = line_told lines.now.texts.items place line.text.now after lines.now.rows.items
line_begins (Source lines name) line after =
    if is_name name.now (assembled_name line.file.now) then line_start_once line.number after lines.now.code.items else None

-- its lines are those of a compiler's table
abbrev pub has_table : ProgramLines → Bool
has_table (Table lines place) = true
has_table _ = false

-- a line of the same file, further down
pub record IsFurther (line found : LineNamed) : Type 0 where
  pub file : found.file.now ≡ line.file.now
  pub number : line.number < found.number
