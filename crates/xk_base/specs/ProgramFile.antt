-- The headers of an ELF-64 file, and the segments that they ask for (ELF-64 Object File Format).
-- All numbers are little-endian. A place past the file's end reads as 0.
use Rattle.std.specs.Prelude.{ℕ, zero, suc, ◌+◌, ◌*◌, ◌/◌, ◌%◌, ◌≤◌, Bool, true, not, ◌&&◌, ◌||◌, ◌==◌, nat_eq, nat_lt, nat_le, if◌then◌else◌, List, [], ◌∷◌, length, take, drop, Option, Some, None, Result, Ok, Err}
use Rattle.std.specs.List.{starts_with}
use Rattle.xk_base.specs.Words.{le, least_below}
use Rattle.xk_base.specs.declared.limits.TheConstants.{SIZE_LIMIT}
use Rattle.xk_base.specs.declared.errors.ExecError.{ExecError}
use Rattle.xk_base.specs.declared.errors.ExecError.TheVariants.{NotElf, BadSegment}
use Rattle.xk_base.specs.declared.program.Header.{Header}
use Rattle.xk_base.specs.declared.program.ProgramHeader.{ProgramHeader}
use Rattle.xk_base.specs.declared.program.Segment.{Segment}

-- the number in the n bytes from a place of the file on
abbrev pub number_at : ℕ → List ℕ → ℕ → ℕ
number_at n file at = le (take n (drop at file))

-- an address rounded up to a page's first
abbrev pub page_up : ℕ → ℕ
page_up a = 4096 * ((a + 4095) / 4096)

-- ---- the file header

-- the file is long enough for a file header, and begins with the bytes 7F 45 4C 46
unfoldable pub is_elf : List ℕ → Bool
is_elf file = nat_le 64 (length file) && starts_with nat_eq file (0x7F ∷ 0x45 ∷ 0x4C ∷ 0x46 ∷ [])

unfoldable pub file_header : List ℕ → Header
file_header file = record { entry = number_at 8 file 24; phoff = number_at 8 file 32; phnum = number_at 2 file 56 }

abbrev pub header_of : List ℕ → Result Header ExecError
header_of file = if is_elf file then Ok (file_header file) else Err NotElf

-- ---- a program header

-- where header i begins: the headers have 56 bytes each
abbrev pub place : Header → ℕ → ℕ
place f i = f.phoff + 56 * i

-- the program header that begins at a place of the file
unfoldable pub program_header : List ℕ → ℕ → ProgramHeader
program_header file at = record {
  kind = number_at 4 file at;
  flags = number_at 4 file (at + 4);
  off = number_at 8 file (at + 8);
  vaddr = number_at 8 file (at + 16);
  filesz = number_at 8 file (at + 32);
  memsz = number_at 8 file (at + 40);
}

abbrev pub program_header_at : List ℕ → Header → ℕ → ProgramHeader
program_header_at file f i = program_header file (place f i)

-- its type is 1: its segment is to be loaded
abbrev pub is_load : ProgramHeader → Bool
is_load h = h.kind == 1

-- it makes a segment: it is to be loaded, and takes memory
abbrev pub is_loaded : ProgramHeader → Bool
is_loaded h = is_load h && nat_lt 0 h.memsz

-- it begins inside a page, or below the end of the segments before it, or ends past the file's or the memory's end
abbrev pub is_misplaced : ℕ → ℕ → ProgramHeader → Bool
is_misplaced len size h =
    not (h.vaddr % 4096 == 0)
    || nat_lt h.vaddr (page_up size)
    || nat_lt len (h.off + h.filesz)
    || nat_lt SIZE_LIMIT (h.vaddr + h.memsz)

-- a header of type 1 is refused where the segments before it end at `size`, and the file has `len` bytes
unfoldable pub is_bad : ℕ → ℕ → ProgramHeader → Bool
is_bad len size h = is_load h && (nat_lt h.memsz h.filesz || (nat_lt 0 h.memsz && is_misplaced len size h))

-- ---- all program headers

-- where the last segment before header i ends
abbrev pub size_before : List ℕ → Header → ℕ → ℕ
size_before file f zero = 0
size_before file f (suc i) =
    let h = program_header_at file f i in
    if is_loaded h then h.vaddr + h.memsz else size_before file f i

-- header i isn't wholly in the file, or it is refused where the segments before it end at `size`
unfoldable pub is_refused_after : List ℕ → Header → ℕ → ℕ → Bool
is_refused_after file f size i = nat_lt (length file) (place f i + 56) || is_bad (length file) size (program_header_at file f i)

abbrev pub is_refused : List ℕ → Header → ℕ → Bool
is_refused file f i = is_refused_after file f (size_before file f i) i

-- R and U are always given, X by bit 0 of the flags, W by bit 1
abbrev pub segment : ProgramHeader → Segment
segment h = record {
  vaddr = h.vaddr;
  memsz = h.memsz;
  perm = record { read = true; write = h.flags / 2 % 2 == 1; execute = h.flags % 2 == 1; user = true };
  off = h.off;
  filesz = h.filesz;
}

-- the segments of n headers from header i on, in order
abbrev pub segments_from : List ℕ → Header → ℕ → ℕ → List Segment
segments_from file f i zero = []
segments_from file f i (suc n) =
    let h = program_header_at file f i in
    let others = segments_from file f (suc i) n in
    if is_loaded h then segment h ∷ others else others

-- these segments, unless a header is refused
abbrev pub unless_refused : Option ℕ → List Segment → Result (List Segment) ExecError
unless_refused (Some i) segments = Err (BadSegment i)
unless_refused None segments = Ok segments

-- the segments of a file, or its least header that is refused
abbrev pub segments_of : List ℕ → Header → Result (List Segment) ExecError
segments_of file f = unless_refused (least_below (is_refused file f) f.phnum) (segments_from file f 0 f.phnum)

-- segments one behind another, above a size, in a file of `len` bytes and below the memory's end
abbrev pub Fit : ℕ → ℕ → List Segment → Type 0
Fit len size [] = Unit {0}
Fit len size (s ∷ later) = (page_up size ≤ s.vaddr) × (s.filesz ≤ s.memsz) × (s.off + s.filesz ≤ len) × (s.vaddr + s.memsz ≤ SIZE_LIMIT) × Fit len (s.vaddr + s.memsz) later
