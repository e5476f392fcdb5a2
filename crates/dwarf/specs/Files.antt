-- The tables of directories and files in the header of a line number program (DWARF 5, section 6.2.4; DWARF 2 to 4 have another
-- form).
use Rattle.std.specs.Prelude.{ℕ, ◌+◌, ◌-◌, ◌≡◌, ◌==◌, Bool, false, ◌&&◌, nat_lt, nat_le, if◌then◌else◌, List, length, take, slice_index, slice_get, Option, Some, None, Result, Ok, Err}
use Rattle.dwarf.specs.declared.fault.Fault.{Fault}
use Rattle.dwarf.specs.declared.fault.Fault.TheVariants.{Short, Length, Form, Format}
use Rattle.dwarf.specs.declared.fault.LineError.{LineError}
use Rattle.dwarf.specs.declared.line_header.LineHeader.{LineHeader}
use Rattle.dwarf.specs.declared.entry.Entry.{Entry}
use Rattle.dwarf.specs.declared.entry.Text.{Text}
use Rattle.dwarf.specs.declared.entry.Text.TheVariants.{Here, LineStrings, Strings}
use Rattle.dwarf.specs.declared.entry_list.EntryList.{EntryList}
use Rattle.dwarf.specs.declared.field.Field.{Field}
use Rattle.dwarf.specs.declared.field.FieldList.{FieldList}
use Rattle.dwarf.specs.declared.tables.FileTable.{FileTable}
use Rattle.dwarf.specs.declared.value.Value.{Value}
use Rattle.dwarf.specs.declared.value.Value.TheVariants.{Number, Name, Other}
use Rattle.dwarf.specs.declared.value.Read.{Read}
use Rattle.dwarf.specs.Numbers.{◌>>=◌, fixed, offset, offset_bytes, unsigned, past_number}
use Rattle.dwarf.specs.Texts.{past_text}
use Rattle.dwarf.specs.Items.{items, through}
use Rattle.dwarf.specs.Made.{Fails}

abbrev pub entry_next : Entry → ℕ
entry_next e = e.next

abbrev pub field_next : Field → ℕ
field_next f = f.next

-- Versions 2 to 4: entries follow one another up to an empty text.

-- here the list ends
abbrev pub is_end : List ℕ → ℕ → Bool
is_end bytes at = nat_lt at (length bytes) && (slice_index bytes at == 0)

-- a directory is its name
unfoldable pub old_directory : List ℕ → ℕ → Result Entry Fault
old_directory bytes at = past_text bytes at >>= λ next. Ok (record { name = Some (Here at); directory = 0; next = next })

-- a file is its name and three numbers: of its directory, of the time at which it was changed, and of its bytes
unfoldable pub old_file : List ℕ → ℕ → Result Entry Fault
old_file bytes at = past_text bytes at >>= λ named. unsigned bytes named >>= λ directory.
    past_number bytes directory.1 >>= λ timed. past_number bytes timed >>= λ next.
    Ok (record { name = Some (Here at); directory = directory.0; next = next })

abbrev pub old_directories : List ℕ → ℕ → Result (List Entry × ℕ) Fault
old_directories bytes at = items (is_end bytes) (old_directory bytes) entry_next (length bytes) at

abbrev pub old_files : List ℕ → ℕ → Result (List Entry × ℕ) Fault
old_files bytes at = items (is_end bytes) (old_file bytes) entry_next (length bytes) at

-- the directories, the empty text that ends them, and the files
abbrev pub old_tables : List ℕ → ℕ → Result (List Entry × List Entry) Fault
old_tables bytes at = old_directories bytes at >>= λ directories. past_text bytes directories.1 >>= λ next.
    old_files bytes next >>= λ files. Ok (directories.0, files.0)

-- Version 5: each list says which fields its entries have, and how many entries there are.

abbrev pub never : ℕ → Bool
never at = false

-- a field: what it tells, and the form of its value
unfoldable pub field : List ℕ → ℕ → Result Field Fault
field bytes at = unsigned bytes at >>= λ kind. unsigned bytes kind.1 >>= λ form.
    Ok (record { kind = kind.0; form = form.0; next = form.1 })

abbrev pub fields : List ℕ → ℕ → ℕ → Result (List Field × ℕ) Fault
fields bytes count at = items never (field bytes) field_next count at

-- Values by their forms (section 7.5.6).

-- a number or a text, and the place after it
abbrev pub number_read : ℕ → ℕ → Read
number_read n next = record { value = Number n; next = next }

abbrev pub text_read : Text → ℕ → Read
text_read text next = record { value = Name text; next = next }

-- so many bytes that nothing is made of
abbrev pub passed : List ℕ → ℕ → ℕ → Result Read Fault
passed bytes count at = if nat_le (at + count) (length bytes) then Ok (record { value = Other; next = at + count }) else Err (Short at)

-- a number of n bytes
abbrev pub number_of : ℕ → List ℕ → ℕ → Result Read Fault
number_of n bytes at = fixed n bytes at >>= λ x. Ok (number_read x (at + n))

-- data1, data2, data4, data8 and udata
unfoldable pub number_value : List ℕ → ℕ → ℕ → Result Read Fault
number_value bytes form at =
    if form == 0x0B then number_of 1 bytes at
    else (if form == 0x05 then number_of 2 bytes at
    else (if form == 0x06 then number_of 4 bytes at
    else (if form == 0x07 then number_of 8 bytes at
    else (if form == 0x0F then (unsigned bytes at >>= λ x. Ok (number_read x.0 x.1))
    else Err (Form at)))))

-- block and data16 are passed over
unfoldable pub other_value : List ℕ → ℕ → ℕ → Result Read Fault
other_value bytes form at =
    if form == 0x09 then (unsigned bytes at >>= λ x. passed bytes x.0 x.1)
    else (if form == 0x1E then passed bytes 16 at else number_value bytes form at)

-- string: the text itself; line_strp and strp: where it stands in .debug_line_str and in .debug_str
unfoldable pub value : List ℕ → Bool → ℕ → ℕ → Result Read Fault
value bytes is_wide form at =
    if form == 0x08 then (past_text bytes at >>= λ next. Ok (text_read (Here at) next))
    else (if form == 0x1F then (offset is_wide bytes at >>= λ place. Ok (text_read (LineStrings place) (at + offset_bytes is_wide)))
    else (if form == 0x0E then (offset is_wide bytes at >>= λ place. Ok (text_read (Strings place) (at + offset_bytes is_wide)))
    else other_value bytes form at))

-- what a field tells of an entry: DW_LNCT_path, 1, its name, and DW_LNCT_directory_index, 2, the number of its directory
abbrev pub told : ℕ → Value → ℕ → Entry → Entry
told kind (Name text) next e = record { name = if kind == 1 then Some text else e.name; directory = e.directory; next = next }
told kind (Number n) next e = record { name = e.name; directory = if kind == 2 then n else e.directory; next = next }
told kind Other next e = record { name = e.name; directory = e.directory; next = next }

-- with one more field, whose value stands where the last one ended
unfoldable pub with_field : List ℕ → Bool → Field → Entry → Result Entry Fault
with_field bytes is_wide f e = value bytes is_wide f.form e.next >>= λ r. Ok (told f.kind r.value r.next e)

-- an entry begins with nothing known
abbrev pub unknown_at : ℕ → Entry
unknown_at at = record { name = None; directory = 0; next = at }

-- an entry is the values of its fields, one after the other
abbrev pub entry : List ℕ → Bool → List Field → ℕ → Result Entry Fault
entry bytes is_wide layout at = through (with_field bytes is_wide) layout (unknown_at at)

abbrev pub entries : List ℕ → Bool → List Field → ℕ → ℕ → Result (List Entry × ℕ) Fault
entries bytes is_wide layout count at = items never (entry bytes is_wide layout) entry_next count at

-- a list: the number of fields, the fields, the number of entries, the entries; entries without fields are refused
unfoldable pub new_list : List ℕ → Bool → ℕ → Result (List Entry × ℕ) Fault
new_list bytes is_wide at = fixed 1 bytes at >>= λ width. fields bytes width (at + 1) >>= λ layout.
    unsigned bytes layout.1 >>= λ count.
    if (width == 0) && nat_lt 0 count.0 then Err (Format at) else entries bytes is_wide layout.0 count.0 count.1

abbrev pub new_tables : List ℕ → Bool → ℕ → Result (List Entry × List Entry) Fault
new_tables bytes is_wide at = new_list bytes is_wide at >>= λ directories.
    new_list bytes is_wide directories.1 >>= λ files. Ok (directories.0, files.0)

-- the tables of a unit: they end where its program begins
unfoldable pub tables : List ℕ → LineHeader → Result (List Entry × List Entry) Fault
tables section h =
    if nat_lt (length section) h.program then Err (Length h.tables)
    else (let bytes = take h.program section in
    if h.version == 5 then new_tables bytes h.is_wide h.tables else old_tables bytes h.tables)

-- where a row's file stands in its table: version 5 counts from 0 on, the others from 1 on
abbrev pub place_of : ℕ → ℕ → Option ℕ
place_of version number = if version == 5 then Some number else (if number == 0 then None else Some (number - 1))

-- the entry at a place of a list
abbrev pub entry_at : List Entry → Option ℕ → Option Entry
entry_at entries (Some place) = slice_get entries place
entry_at entries None = None

-- the file of a row's number
abbrev pub file_of : ℕ → List Entry → ℕ → Option Entry
file_of version files number = entry_at files (place_of version number)

-- What functions that take memory of the host returned is what reading gives.

abbrev pub AreEntries : Result EntryList LineError → Result (List Entry × ℕ) Fault → Type 0
AreEntries (Ok l) read = read ≡ Ok (l.entries.items, l.next)
AreEntries (Err e) read = Fails e read

abbrev pub AreFields : Result FieldList LineError → Result (List Field × ℕ) Fault → Type 0
AreFields (Ok l) read = read ≡ Ok (l.fields.items, l.next)
AreFields (Err e) read = Fails e read

abbrev pub AreTables : ℕ → Result FileTable LineError → Result (List Entry × List Entry) Fault → Type 0
AreTables version (Ok t) read = (read ≡ Ok (t.directories.items, t.files.items)) × (t.version ≡ version)
AreTables version (Err e) read = Fails e read
