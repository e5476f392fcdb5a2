-- The rows of .debug_line that tell of a program's instructions (DWARF 5, section 6.2).
use Rattle.std.specs.Prelude.{◌≡◌, ℕ, ◌-◌, ◌==◌, Bool, true, false, not, ◌&&◌, ◌||◌, nat_lt, if◌then◌else◌, List, [], ◌∷◌, ◌++◌, map, length, slice_get, Option, Some, None, Result, Ok, Err}
use Rattle.dwarf.specs.declared.fault.Fault.{Fault}
use Rattle.dwarf.specs.declared.fault.LineError.{LineError}
use Rattle.dwarf.specs.declared.entry.Entry.{Entry}
use Rattle.dwarf.specs.declared.entry.Text.{Text}
use Rattle.dwarf.specs.declared.row.Row.{Row}
use Rattle.dwarf.specs.declared.unit.Unit.{Unit}
use Rattle.dwarf.specs.Files.{file_of, tables}
use Rattle.dwarf.specs.Headers.{header}
use Rattle.dwarf.specs.Items.{through}
use Rattle.dwarf.specs.Made.{Fails}
use Rattle.dwarf.specs.Numbers.{◌>>=◌}
use Rattle.dwarf.specs.Rows as programs
use Rattle.dwarf.specs.Units.{units}
use Rattle.line_tables.specs.declared.fact.Fact.{Fact}
use Rattle.line_tables.specs.declared.fact.Fact.TheVariants.{Line, NoLine}
use Rattle.line_tables.specs.declared.fact.Told.{Told}
use Rattle.line_tables.specs.declared.source.Source.{Source}

-- What a row tells: the address, whether it ends a sequence, and its line.

-- the line of a file, if its name is told
abbrev pub in_file : ℕ → Option Text → Option Source
in_file line (Some file) = Some (record { file = file; line = line })
in_file line None = None

abbrev pub named_line : ℕ → Option Entry → Option Source
named_line line (Some e) = in_file line e.name
named_line line None = None

-- the end of a sequence has no line, and line 0 is none
abbrev pub source_of : ℕ → List Entry → Row → Option Source
source_of version files r = if r.end_sequence || (r.line == 0) then None else named_line r.line (file_of version files r.file)

abbrev pub fact_of : Option Source → Fact
fact_of (Some s) = Line s
fact_of None = NoLine

abbrev pub told_by : ℕ → List Entry → Row → Told
told_by version files r = record { address = r.address; is_end = r.end_sequence; fact = fact_of (source_of version files r) }

-- Sequences: the rows up to one that ends a sequence, and with it. Rows after the last end are of none.

-- those of rows that follow these of their sequence
abbrev pub sequences_after : List Told → List Told → List (List Told)
sequences_after begun [] = []
sequences_after begun (t ∷ ts) =
    if t.is_end then (begun ++ t ∷ []) ∷ sequences_after [] ts else sequences_after (begun ++ t ∷ []) ts

abbrev pub sequences : List Told → List (List Told)
sequences rows = sequences_after [] rows

-- A sequence tells of instructions if it ends above the address at which it begins. One that begins at 0 is of a function that
-- the linker left out, unless it is the first.
abbrev pub is_told_between : Bool → Option Told → Option Told → Bool
is_told_between is_first (Some first) (Some last) = nat_lt first.address last.address && (nat_lt 0 first.address || is_first)
is_told_between is_first _ _ = false

-- by its first row and its last one
abbrev pub is_told : Bool → List Told → Bool
is_told is_first s = is_told_between is_first (slice_get s 0) (slice_get s (length s - 1))

-- the rows of sequences, with those of one more
abbrev pub with_sequence : List Told → List Told → List Told
with_sequence lines s = if is_told (length lines == 0) s then lines ++ s else lines

-- with those of several, one after the other
abbrev pub with_sequences : List Told → List (List Told) → List Told
with_sequences lines [] = lines
with_sequences lines (s ∷ ss) = with_sequences (with_sequence lines s) ss

-- with those of the rows of a unit
abbrev pub with_rows : ℕ → List Entry → List Row → List Told → List Told
with_rows version files rows lines = with_sequences lines (sequences (map (told_by version files) rows))

-- with those of a unit: its header, the rows of its program, its tables of directories and files
unfoldable pub with_unit : List ℕ → Unit → List Told → Result (List Told) Fault
with_unit section unit lines = header section unit >>= λ h. programs.rows section h >>= λ rows. tables section h >>= λ t.
    Ok (with_rows h.version t.1 rows lines)

-- the units one after the other, up to the first fault
abbrev pub section_lines : List ℕ → Result (List Told) Fault
section_lines section = units section >>= λ us. through (with_unit section) us []

-- What a function that takes memory of the host returned, with the rows that it left, is what reading gives.
abbrev pub IsWith : Result (Prim.Unit {0}) LineError → List Told → Result (List Told) Fault → Type 0
IsWith (Ok x) lines read = read ≡ Ok lines
IsWith (Err e) lines read = Fails e read
