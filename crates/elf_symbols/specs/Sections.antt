-- The bytes of a section by its name (ELF-64 Object File Format, "Sections" and "String Table"). All numbers are little-endian.
use Rattle.std.specs.Prelude.{ℕ, ◌/◌, ◌%◌, Bool, not, ◌&&◌, ◌==◌, nat_lt, if◌then◌else◌, List, [], take, drop, Option, Some, None, option_map}
use Rattle.xk_base.specs.Words.{least_below}
use Rattle.xk_base.specs.ProgramFile.{number_at}
use Rattle.elf_symbols.specs.declared.section.Section.{Section}
use Rattle.elf_symbols.specs.Symbols.{sections_place, section_count, has_sections, section, is_within, has_name, name_at}

-- the number of the section that holds the names of sections (`e_shstrndx`)
abbrev pub names_number : List ℕ → ℕ
names_number file = number_at 2 file 62

-- Its bytes stand in the file as they are: it isn't of the type whose bytes stand in no file (8), its bytes aren't compressed (flag 0x800), and all of them are in the file
abbrev pub has_bytes : List ℕ → Section → Bool
has_bytes file s = not (s.kind == 8) && ((s.flags / 0x800 % 2 == 0) && is_within file s)

-- the bytes of a section, if they stand in the file as they are
abbrev pub bytes_of : List ℕ → Section → Option (List ℕ)
bytes_of file s = if has_bytes file s then Some (take s.size (drop s.off file)) else None

-- section k has the name
abbrev pub is_of_name : List ℕ → (place : ℕ) → (names : Section) → List ℕ → ℕ → Bool
is_of_name file place names name k = has_name name (name_at file names (section file place k).name)

-- the first of so many sections that has the name
abbrev pub first_of_name : List ℕ → (place count : ℕ) → (names : Section) → List ℕ → Option Section
first_of_name file place count names name = option_map (section file place) (least_below (is_of_name file place names name) count)

abbrev pub bytes_found : List ℕ → Option Section → Option (List ℕ)
bytes_found file (Some s) = bytes_of file s
bytes_found file None = None

-- its bytes: none if the names aren't a string table (type 3) that is wholly in the file
abbrev pub bytes_named : List ℕ → (place count : ℕ) → (names : Section) → List ℕ → Option (List ℕ)
bytes_named file place count names name =
    if is_within file names && (names.kind == 3) then bytes_found file (first_of_name file place count names name) else None

-- by the section headers of the file: the bytes of the first section that has the name
abbrev pub section_named : List ℕ → List ℕ → Option (List ℕ)
section_named file name =
    if has_sections file && nat_lt (names_number file) (section_count file)
    then bytes_named file (sections_place file) (section_count file) (section file (sections_place file) (names_number file)) name else None

abbrev pub or_no_bytes : Option (List ℕ) → List ℕ
or_no_bytes (Some bytes) = bytes
or_no_bytes None = []

-- the same, and no bytes if there are none
abbrev pub section_bytes : List ℕ → List ℕ → List ℕ
section_bytes file name = or_no_bytes (section_named file name)
