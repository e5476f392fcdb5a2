-- The functions of an ELF-64 file by its symbol table (ELF-64 Object File Format, "Sections", "Symbol Table" and
-- "String Table"). All numbers are little-endian.
use Rattle.std.specs.Prelude.{ℕ, ◌+◌, ◌*◌, ◌/◌, ◌%◌, Bool, false, ◌&&◌, ◌==◌, nat_lt, nat_le, bytes_eq, if◌then◌else◌, List, length, take, drop, position, Option, Some, None, option_map}
use Rattle.xk_base.specs.Words.{least_below}
use Rattle.xk_base.specs.ProgramFile.{number_at, is_elf}
use Rattle.elf_symbols.specs.declared.section.Section.{Section}
use Rattle.elf_symbols.specs.declared.symbol.Symbol.{Symbol}

-- Sections.

-- where the section headers begin, and how many there are
abbrev pub sections_place : List ℕ → ℕ
sections_place file = number_at 8 file 40

abbrev pub section_count : List ℕ → ℕ
section_count file = number_at 2 file 60

-- the file is an ELF file, and its section headers, of 64 bytes each, are wholly in it
abbrev pub has_sections : List ℕ → Bool
has_sections file = is_elf file && nat_le (sections_place file + 64 * section_count file) (length file)

-- the section whose header begins at a place of the file
unfoldable pub section_at : List ℕ → ℕ → Section
section_at file at = record { name = number_at 4 file at; kind = number_at 4 file (at + 4); flags = number_at 8 file (at + 8); off = number_at 8 file (at + 24); size = number_at 8 file (at + 32); link = number_at 4 file (at + 40) }

-- section k, of headers that begin at a place
abbrev pub section : List ℕ → ℕ → ℕ → Section
section file place k = section_at file (place + 64 * k)

-- its bytes are in the file
abbrev pub is_within : List ℕ → Section → Bool
is_within file s = nat_le (s.off + s.size) (length file)

-- a symbol table has type 2, a string table type 3
abbrev pub is_symbol_table : List ℕ → ℕ → ℕ → Bool
is_symbol_table file place k = (section file place k).kind == 2

-- Symbols.

-- the symbol that begins at a place of the file
unfoldable pub symbol_at : List ℕ → ℕ → Symbol
symbol_at file at = record { name = number_at 4 file at; info = number_at 1 file (at + 4); section = number_at 2 file (at + 6); value = number_at 8 file (at + 8); size = number_at 8 file (at + 16) }

-- symbol i of a table, whose symbols have 24 bytes each
abbrev pub symbol : List ℕ → Section → ℕ → Symbol
symbol file table i = symbol_at file (table.off + 24 * i)

-- it is a function, whose range has the address
abbrev pub covers : ℕ → Symbol → Bool
covers address s = (s.info % 16 == 2) && (nat_le s.value address && nat_lt address (s.value + s.size))

-- symbol i is such a function
abbrev pub is_covering : List ℕ → Section → ℕ → ℕ → Bool
is_covering file table address i = covers address (symbol file table i)

-- the first symbol of a table whose function has the address
abbrev pub first_function : List ℕ → Section → ℕ → Option Symbol
first_function file table address = option_map (symbol file table) (least_below (is_covering file table address) (table.size / 24))

-- Names.

-- the bytes before the first zero byte, if there is one
abbrev pub name_in : List ℕ → Option (List ℕ)
name_in bytes = option_map (λ n. take n bytes) (position (λ b. b == 0) bytes)

-- the name at a place of a string table
abbrev pub name_at : List ℕ → Section → ℕ → Option (List ℕ)
name_at file strings at = name_in (drop at (take strings.size (drop strings.off file)))

-- the name of a symbol, if there is one
abbrev pub name_of : List ℕ → Section → Option Symbol → Option (List ℕ)
name_of file strings (Some s) = name_at file strings s.name
name_of file strings None = None

-- the name of the function that has the address, by a symbol table and its string table: none if one of them isn't
-- wholly in the file, or the name isn't in the string table up to its zero byte
abbrev pub function_by : List ℕ → Section → Section → ℕ → Option (List ℕ)
function_by file table strings address =
    if is_within file table && (is_within file strings && (strings.kind == 3))
    then name_of file strings (first_function file table address) else None

-- by a symbol table, which names its string table by the number of a section
abbrev pub function_in : List ℕ → ℕ → Option Section → Option (List ℕ)
function_in file address (Some table) =
    if nat_lt table.link (section_count file)
    then function_by file table (section file (sections_place file) table.link) address else None
function_in file address None = None

-- the first symbol table of a file whose section headers begin at a place
abbrev pub symbol_table : List ℕ → ℕ → ℕ → Option Section
symbol_table file place count = option_map (section file place) (least_below (is_symbol_table file place) count)

-- by the first symbol table of the file: the name of its first function whose range has the address
abbrev pub function_at : List ℕ → ℕ → Option (List ℕ)
function_at file address =
    if has_sections file then function_in file address (symbol_table file (sections_place file) (section_count file)) else None

-- where the function of a symbol begins, if there is one
abbrev pub start_of : Option Symbol → Option ℕ
start_of (Some s) = Some s.value
start_of None = None

-- where the function begins that has the address, by a symbol table: none if it isn't wholly in the file
abbrev pub start_by : List ℕ → Section → ℕ → Option ℕ
start_by file table address = if is_within file table then start_of (first_function file table address) else None

abbrev pub start_in : List ℕ → ℕ → Option Section → Option ℕ
start_in file address (Some table) = start_by file table address
start_in file address None = None

-- by the first symbol table of the file: where its first function begins whose range has the address
abbrev pub function_start : List ℕ → ℕ → Option ℕ
function_start file address =
    if has_sections file then start_in file address (symbol_table file (sections_place file) (section_count file)) else None

-- From a name to its address.

-- the name is there, and is this one
abbrev pub has_name : List ℕ → Option (List ℕ) → Bool
has_name name (Some own) = bytes_eq own name
has_name name None = false

-- the symbol stands for an address, so its type is none, data or a function, and it has this name
abbrev pub is_named : List ℕ → Section → List ℕ → Symbol → Bool
is_named file strings name s = nat_le (s.info % 16) 2 && has_name name (name_at file strings s.name)

-- symbol i is such a symbol
abbrev pub is_named_at : List ℕ → Section → Section → List ℕ → ℕ → Bool
is_named_at file table strings name i = is_named file strings name (symbol file table i)

-- the first such symbol of a table
abbrev pub first_named : List ℕ → Section → Section → List ℕ → Option Symbol
first_named file table strings name = option_map (symbol file table) (least_below (is_named_at file table strings name) (table.size / 24))

-- its address, by a symbol table and its string table: none if one of them isn't wholly in the file
abbrev pub address_by : List ℕ → Section → Section → List ℕ → Option ℕ
address_by file table strings name =
    if is_within file table && (is_within file strings && (strings.kind == 3))
    then start_of (first_named file table strings name) else None

abbrev pub address_in : List ℕ → List ℕ → Option Section → Option ℕ
address_in file name (Some table) =
    if nat_lt table.link (section_count file)
    then address_by file table (section file (sections_place file) table.link) name else None
address_in file name None = None

-- by the first symbol table of the file: where its first symbol stands that has the name
abbrev pub address_of : List ℕ → List ℕ → Option ℕ
address_of file name =
    if has_sections file then address_in file name (symbol_table file (sections_place file) (section_count file)) else None

-- All names.

-- the name of a symbol that stands for an address, so its type is none, data or a function
abbrev pub placed_name : List ℕ → Section → Symbol → Option (List ℕ)
placed_name file strings s = if nat_le (s.info % 16) 2 then name_at file strings s.name else None

-- the name of symbol i of a table, if it has so many
abbrev pub nth_name : List ℕ → Section → Section → ℕ → Option (List ℕ)
nth_name file table strings i = if nat_lt i (table.size / 24) then placed_name file strings (symbol file table i) else None

-- by a symbol table and its string table: none if one of them isn't wholly in the file
abbrev pub name_by : List ℕ → Section → Section → ℕ → Option (List ℕ)
name_by file table strings i =
    if is_within file table && (is_within file strings && (strings.kind == 3))
    then nth_name file table strings i else None

abbrev pub name_in_table : List ℕ → ℕ → Option Section → Option (List ℕ)
name_in_table file i (Some table) =
    if nat_lt table.link (section_count file)
    then name_by file table (section file (sections_place file) table.link) i else None
name_in_table file i None = None

-- the name of symbol i of the file's first symbol table, if it stands for an address
abbrev pub symbol_name : List ℕ → ℕ → Option (List ℕ)
symbol_name file i =
    if has_sections file then name_in_table file i (symbol_table file (sections_place file) (section_count file)) else None

-- how many symbols a table has: none if it isn't wholly in the file
abbrev pub symbols_in : List ℕ → Option Section → ℕ
symbols_in file (Some table) = if is_within file table then table.size / 24 else 0
symbols_in file None = 0

-- how many the file's first symbol table has
abbrev pub symbol_count : List ℕ → ℕ
symbol_count file =
    if has_sections file then symbols_in file (symbol_table file (sections_place file) (section_count file)) else 0

-- What a symbol stands for is in the low half of its byte of information: nothing that is told (0), or a function (2). In the high half is its binding: a local one (0) is known in its own source alone.
abbrev pub is_function : Symbol → Bool
is_function s = s.info % 16 == 2

abbrev pub is_untyped : Symbol → Bool
is_untyped s = s.info % 16 == 0

abbrev pub is_local : Symbol → Bool
is_local s = s.info / 16 == 0
