-- The ELF-64 file of a program (ELF-64 Object File Format; the machine's number is RISC-V's).
use Rattle.std.specs.Prelude.{ℕ, ◌+◌, ◌==◌, if◌then◌else◌, List, [], ◌∷◌, ◌++◌, length, Result, Ok}
use Rattle.xk_base.specs.Words.{le_bytes}
use Rattle.uasm_core.specs.declared.words.Section.TheVariants.{Text, Data}
use Rattle.uasm_core.specs.Places.{base_of, file_header_bytes, program_header_bytes, header_count, headers_len}
use Rattle.uasm_core.specs.Written.{Program, Fault, ◌>>=◌, written}

-- The file header.

-- 7F, the letters ELF, 64 bits, lowest byte first, version 1, and nine zeros
abbrev pub identification : List ℕ
identification = 0x7F ∷ 0x45 ∷ 0x4C ∷ 0x46 ∷ 2 ∷ 1 ∷ 1 ∷ 0 ∷ 0 ∷ 0 ∷ 0 ∷ 0 ∷ 0 ∷ 0 ∷ 0 ∷ 0 ∷ []

-- the type of a file that can be run
abbrev pub executable_file : ℕ
executable_file = 2

-- the number of RISC-V among the machines
abbrev pub machine_risc_v : ℕ
machine_risc_v = 243

-- the version of the format
abbrev pub current_version : ℕ
current_version = 1

-- in order: identification, type, machine, version, entry, place of the program headers and of the section
-- headers, flags, sizes of the file header and of a program header, number of program headers, and size,
-- number and name of the section headers, of which there are none
abbrev pub file_header : (entry phnum : ℕ) → List ℕ
file_header entry phnum =
    identification ++ le_bytes 2 executable_file ++ le_bytes 2 machine_risc_v ++ le_bytes 4 current_version
    ++ le_bytes 8 entry ++ le_bytes 8 file_header_bytes ++ le_bytes 8 0 ++ le_bytes 4 0
    ++ le_bytes 2 file_header_bytes ++ le_bytes 2 program_header_bytes ++ le_bytes 2 phnum
    ++ le_bytes 2 0 ++ le_bytes 2 0 ++ le_bytes 2 0

-- A program header.

-- the type of a segment that is to be loaded
abbrev pub to_be_loaded : ℕ
to_be_loaded = 1

-- read and execute
abbrev pub text_flags : ℕ
text_flags = 5

-- read and write
abbrev pub data_flags : ℕ
data_flags = 6

-- in order: type, flags, place in the file, virtual and physical address, size in the file and in memory, alignment
abbrev pub segment_header : (flags off vaddr size : ℕ) → List ℕ
segment_header flags off vaddr size =
    le_bytes 4 to_be_loaded ++ le_bytes 4 flags ++ le_bytes 8 off ++ le_bytes 8 vaddr ++ le_bytes 8 vaddr
    ++ le_bytes 8 size ++ le_bytes 8 size ++ le_bytes 8 1

-- nothing for a section with no bytes
abbrev pub program_header : (flags off vaddr size : ℕ) → List ℕ
program_header flags off vaddr size = if size == 0 then [] else segment_header flags off vaddr size

-- The file: headers, text, data.

-- a section with no bytes has no program header
abbrev pub elf_of : Program → List ℕ
elf_of p =
    let text_len = length p.text in
    let data_len = length p.data_bytes in
    let off = headers_len text_len data_len in
    file_header p.entry (header_count text_len + header_count data_len)
    ++ program_header text_flags off (base_of Text text_len) text_len
    ++ program_header data_flags (off + text_len) (base_of Data text_len) data_len
    ++ p.text ++ p.data_bytes

-- the file that a source asks for, or its first refusal
abbrev pub file_of : List ℕ → Result (List ℕ) Fault
file_of source = written source >>= λ p. Ok (elf_of p)
