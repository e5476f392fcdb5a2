-- Where an address of a program stands in its source, and what is known of the source.
use Rattle.std.specs.Prelude.{◌≡◌, ℕ, ◌+◌, ◌-◌, ◌%◌, ◌^◌, List, [], ◌∷◌, slice_get, string_bytes, is_some, Option, None, Some, option_map, if◌then◌else◌, String}
use Rattle.std.specs.declared.alloc.Global.{Global}
use Rattle.std.specs.declared.vec.Vec.{Vec}
use Rattle.elf_symbols.specs.Symbols.{function_at, function_start}
use Rattle.uasm_core.specs.LineTable.{label_before, line_in}
use Rattle.uasm_core.specs.declared.source_lines.LabelAddress.{LabelAddress}
use Rattle.uasm_core.specs.declared.source_lines.SourceLines.{SourceLines}
use Rattle.kernel_spec.specs.views.State.{ProgramFile}
use Rattle.xv_report.specs.Lines.{IsNearest}
use Rattle.xv_report.specs.declared.lines.LineRow.{LineRow}
use Rattle.xv_report.specs.declared.lines.Lines.{Lines}
use Rattle.xv_report.specs.declared.lines.RowText.{RowText}
use Rattle.xv_report.specs.declared.sources.ProgramLines.{ProgramLines}
use Rattle.xv_report.specs.declared.sources.ProgramLines.TheVariants.{Unknown, Table, Source}
use Rattle.xv_report.specs.declared.sources.ProgramSource.{ProgramSource}
use Rattle.xv_report.specs.declared.sources.Sources.{Sources}
use Rattle.xv_report.specs.declared.text.location.Function.{Function}
use Rattle.xv_report.specs.declared.text.location.Line.{Line}
use Rattle.xv_report.specs.declared.text.location.Line.TheVariants.{Told, Assembled}

-- ---- the function

-- a function or a label, and how far behind its beginning an address stands
pub record Behind : Type 0 where
  pub name : List ℕ
  pub offset : ℕ

-- as the code tells it
abbrev pub function_seen : Function → Behind
function_seen f = record { name = f.name.now; offset = f.offset }

-- how far an address stands behind another, in 64 bits
abbrev pub distance : (start address : ℕ) → ℕ
distance start address = (address + (2 ^ 64 - start)) % 2 ^ 64

abbrev pub behind : (address : ℕ) → (name : Option (List ℕ)) → (start : Option ℕ) → Option Behind
behind address (Some name) (Some start) = Some (record { name = name; offset = distance start address })
behind address _ _ = None

-- by the symbols of an ELF file
abbrev pub function_in : (symbols : List ℕ) → (address : ℕ) → Option Behind
function_in symbols address = behind address (function_at symbols address) (function_start symbols address)

-- by the labels of a source
abbrev pub label_in : SourceLines → (address : ℕ) → Option Behind
label_in lines address = option_map (λ (l : LabelAddress). record { name = l.name.items; offset = distance l.address address }) (label_before address lines.labels.items)

-- by what is known of a program: by its labels if it was assembled and a line of it makes the instruction there, else by its symbols
abbrev pub function_by : ProgramLines → (symbols : List ℕ) → (address : ℕ) → Option Behind
function_by Unknown symbols address = function_in symbols address
function_by (Table lines place) symbols address = function_in symbols address
function_by (Source lines name) symbols address =
    if is_some (line_in lines.now.code.items address) then label_in lines.now address else function_in symbols address

abbrev pub function_of : ProgramSource → (address : ℕ) → Option Behind
function_of source address = function_by source.lines source.symbols.now address

-- ---- the line

-- a line: what a table tells of it, or the name of the program and the number of the line in its source
pub record LineTold : Type 0 where
  pub text : List ℕ
  pub number : Option ℕ

-- as the code tells it
abbrev pub line_seen : Line → LineTold
line_seen (Told text) = record { text = text.now; number = None }
line_seen (Assembled program line) = record { text = program.now; number = Some line }

-- a row as it is kept, by the place of its text
abbrev pub row_kept : RowText → (text : ℕ) → LineRow
row_kept row text = record { program = row.program; address = row.address; text = text }

-- a text that is told of a line; none if it is empty
abbrev pub unless_empty : List ℕ → Option (List ℕ)
unless_empty [] = None
unless_empty (c ∷ text) = Some (c ∷ text)

abbrev pub text_there : Option (String Global) → Option (List ℕ)
text_there None = None
text_there (Some text) = unless_empty (string_bytes text)

abbrev pub text_of_row : List (String Global) → Option LineRow → Option (List ℕ)
text_of_row texts None = None
text_of_row texts (Some row) = text_there (slice_get texts row.text)

-- of the row at a place
abbrev pub text_at : Lines → (row : Option ℕ) → Option (List ℕ)
text_at lines None = None
text_at lines (Some row) = text_of_row lines.texts.items (slice_get lines.rows.items row)

-- this is told of an address of the program at a place: the text of a row that is nearest to it
abbrev pub IsTextOf : Lines → (place address : ℕ) → Option (List ℕ) → Type 0
IsTextOf lines place address text = (row : Option ℕ) × IsNearest lines.rows.items place address row × (text ≡ text_at lines row)

-- the line of the source that makes the instruction there
abbrev pub line_by_source : SourceLines → (name : List ℕ) → (address : ℕ) → Option LineTold
line_by_source lines name address = option_map (λ number. record { text = name; number = Some number }) (line_in lines.code.items address)

-- the line of an address by a table
abbrev pub IsLineByTable : Lines → (place address : ℕ) → Option LineTold → Type 0
IsLineByTable lines place address line =
    (text : Option (List ℕ)) × IsTextOf lines place address text × (line ≡ option_map (λ t. record { text = t; number = None }) text)

-- and by what is known of a program's lines
abbrev pub IsLineBy : ProgramLines → (address : ℕ) → Option LineTold → Type 0
IsLineBy Unknown address line = line ≡ None
IsLineBy (Table lines place) address line = IsLineByTable lines.now place address line
IsLineBy (Source lines name) address line = line ≡ line_by_source lines.now name.now address

-- ---- what is known of a program

-- the bytes that stand beside the program at a place for its symbols
abbrev pub bytes_if : Option (Vec ℕ Global) → List ℕ
bytes_if None = []
bytes_if (Some bytes) = bytes.items

abbrev pub beside : Sources → (place : ℕ) → List ℕ
beside sources place = bytes_if (slice_get sources.symbols.items place)

-- those if there are some, or else its own
abbrev pub or_own : (beside own : List ℕ) → List ℕ
or_own [] own = own
or_own (b ∷ bytes) own = b ∷ bytes

-- the lines of the program at a place, if it was assembled
abbrev pub there : Option (Option SourceLines) → Option SourceLines
there None = None
there (Some lines) = lines

abbrev pub assembled_at : Sources → (place : ℕ) → Option SourceLines
assembled_at sources place = there (slice_get sources.assembled.items place)

-- these are the lines of a program: of its source if it was assembled, else of a table
abbrev pub AreLinesOf : Option SourceLines → (table : Lines) → (place : ℕ) → (name : List ℕ) → ProgramLines → Type 0
AreLinesOf (Some lines) table place name (Source known own) = (known.now ≡ lines) × (own.now ≡ name)
AreLinesOf None table place name (Table known own) = (known.now ≡ table) × (own ≡ place)
AreLinesOf _ table place name known = ⊥

-- nothing is known
abbrev pub IsUnknown : ProgramSource → Type 0
IsUnknown source = (source.symbols.now ≡ []) × (source.lines ≡ Unknown)

-- this is known of a program at a place, by what is known of all
abbrev pub IsSourceBy : Option Sources → (place : ℕ) → Option ProgramFile → ProgramSource → Type 0
IsSourceBy known place None source = IsUnknown source
IsSourceBy None place (Some program) source = (source.symbols.now ≡ program.bytes) × (source.lines ≡ Unknown)
IsSourceBy (Some sources) place (Some program) source =
    (source.symbols.now ≡ or_own (beside sources place) program.bytes) × AreLinesOf (assembled_at sources place) sources.lines place program.name source.lines

-- and of the program at a place among these
abbrev pub IsSourceOf : Option Sources → List ProgramFile → Option ℕ → ProgramSource → Type 0
IsSourceOf known programs None source = IsUnknown source
IsSourceOf known programs (Some place) source = IsSourceBy known place (slice_get programs place) source
