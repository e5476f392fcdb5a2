-- Places in a program: a section, and how many bytes of text and of data stand before it.
use Rattle.std.specs.Prelude.{ℕ, ◌+◌, ◌*◌, Bool, nat_lt, ◌==◌, if◌then◌else◌, Option, None, Some}
use Rattle.xk_base.specs.declared.limits.TheConstants.{PROGRAM_BYTES}
use Rattle.xk_base.specs.ProgramFile.{page_up}
use Rattle.uasm_core.specs.declared.place.Place.{Place}
use Rattle.uasm_core.specs.declared.words.Section.{Section}
use Rattle.uasm_core.specs.declared.words.Section.TheVariants.{Text, Data}

-- where the first line stands
abbrev pub start : Place
start = record { section = Text; text_len = 0; data_len = 0 }

-- n bytes more in a section
abbrev pub grown : Section → ℕ → Place → Place
grown Text n p = record p { text_len = p.text_len + n }
grown Data n p = record p { data_len = p.data_len + n }

-- how many bytes of its section stand before it
abbrev pub offset_in : Section → Place → ℕ
offset_in Text p = p.text_len
offset_in Data p = p.data_len

-- text begins at 0, data at the text's length rounded up to a page
abbrev pub base_of : Section → ℕ → ℕ
base_of Text text_len = 0
base_of Data text_len = page_up text_len

-- the address of a place in a program with that much text
abbrev pub address : ℕ → Place → ℕ
address text_len p = base_of p.section text_len + offset_in p.section p

-- Sizes in the file (ELF-64 Object File Format).

-- bytes of the file header
abbrev pub file_header_bytes : ℕ
file_header_bytes = 64

-- bytes of a program header
abbrev pub program_header_bytes : ℕ
program_header_bytes = 56

-- how many program headers a section with n bytes has
abbrev pub header_count : ℕ → ℕ
header_count n = if n == 0 then 0 else 1

-- how many bytes the headers have
abbrev pub headers_len : (text_len data_len : ℕ) → ℕ
headers_len text_len data_len = file_header_bytes + program_header_bytes * (header_count text_len + header_count data_len)

-- how many bytes the file has whose sections end here
abbrev pub file_len : Place → ℕ
file_len p = headers_len p.text_len p.data_len + p.text_len + p.data_len

-- the file would be longer than a program file may be
abbrev pub is_past_limit : Place → Bool
is_past_limit p = nat_lt PROGRAM_BYTES (file_len p)

-- the place, unless the file would be too long
abbrev pub within_limit : Place → Option Place
within_limit p = if is_past_limit p then None else Some p
