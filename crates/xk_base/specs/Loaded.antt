-- What exec makes of a program file and its argument texts: an image, where it starts, and its first stack
-- (ELF-64 Object File Format, "Program Loading"; the xv6 book, "Code: exec").
-- An image is said as what results: what each page allows, and the byte at each address.
use Rattle.std.specs.Prelude.{ℕ, ◌+◌, ◌-◌, ◌*◌, ◌/◌, true, false, ◌&&◌, ◌==◌, nat_lt, nat_le, if◌then◌else◌, List, [], ◌∷◌, ◌++◌, length, take, drop, map, slice_index, Option, Some, None, option_map, Result, Ok, Err}
use Rattle.std.specs.List.{flat_map, range_with_len, zip}
use Rattle.xk_base.specs.Gathered.{gathered}
use Rattle.xk_base.specs.Image.{Page, Image, page_count}
use Rattle.xk_base.specs.ProgramFile.{page_up, header_of, segments_of}
use Rattle.xk_base.specs.Words.{le_bytes}
use Rattle.xk_base.specs.declared.access.Rights.{Rights}
use Rattle.xk_base.specs.declared.errors.ExecError.{ExecError}
use Rattle.xk_base.specs.declared.errors.ExecError.TheVariants.{ArgsTooLong}
use Rattle.xk_base.specs.declared.program.Header.{Header}
use Rattle.xk_base.specs.declared.program.Segment.{Segment}
use Rattle.xk_base.specs.Access.{data_rights}

-- ---- memory by address

-- bytes laid at an address over a memory, whose own bytes show everywhere else
abbrev pub over : ℕ → List ℕ → (ℕ → ℕ) → ℕ → ℕ
over address bytes byte a = if nat_le address a && nat_lt a (address + length bytes) then slice_index bytes (a - address) else byte a

-- parts laid over a memory, one after another: each is an address and its bytes
abbrev pub all_over : List (ℕ × List ℕ) → (ℕ → ℕ) → ℕ → ℕ
all_over [] byte = byte
all_over (part ∷ later) byte = all_over later (over part.0 part.1 byte)

-- a memory of zeros
abbrev pub zeros : ℕ → ℕ
zeros a = 0

-- the addresses of page v
unfoldable pub addresses : ℕ → List ℕ
addresses v = range_with_len (4096 * v) 4096

-- page v of a memory
abbrev pub page_by : (ℕ → ℕ) → ℕ → Rights → Page
page_by byte v perm = record { perm = perm; bytes = map byte (addresses v) }

-- the image of a memory up to a size: the pages below it that `perm` gives rights
abbrev pub image_by : (ℕ → Option Rights) → (ℕ → ℕ) → ℕ → Image
image_by perm byte size = record { pages = gathered (λ v. option_map (page_by byte v) (perm v)) (page_count size); size = size }

-- ---- the segments

-- where the last of the segments ends, or n where there are none
abbrev pub end_after : ℕ → List Segment → ℕ
end_after n [] = n
end_after n (s ∷ later) = end_after (s.vaddr + s.memsz) later

-- what page v allows: the rights of the first segment that ends above the page's address, also where the page lies in the gap before that segment
abbrev pub perm_at : List Segment → ℕ → Option Rights
perm_at [] v = None
perm_at (s ∷ later) v = if nat_lt (4096 * v) (s.vaddr + s.memsz) then Some s.perm else perm_at later v

-- a segment's bytes of the file
abbrev pub file_bytes : List ℕ → Segment → List ℕ
file_bytes file s = take s.filesz (drop s.off file)

-- the segments' bytes of the file, each laid at its segment's address
abbrev pub segments_over : List ℕ → List Segment → (ℕ → ℕ) → ℕ → ℕ
segments_over file segments byte = all_over (map (λ s. (s.vaddr, file_bytes file s)) segments) byte

-- ---- the stack

-- n bytes further down, and from there down to a multiple of 16
abbrev pub down : ℕ → ℕ → ℕ
down sp n = 16 * ((sp - n) / 16)

-- where the texts lie, each with its zero byte: the first at the top, each later one below
abbrev pub text_places : ℕ → List (List ℕ) → List ℕ
text_places top [] = []
text_places top (text ∷ later) = let at = down top (length text + 1) in at ∷ text_places at later

-- the last of the places, which is the lowest, or the top where there are none
abbrev pub lowest : ℕ → List ℕ → ℕ
lowest top [] = top
lowest top (at ∷ later) = lowest at later

-- where the texts' addresses and a null pointer lie, below all texts
abbrev pub stack_pointer : ℕ → List (List ℕ) → ℕ
stack_pointer top texts = down (lowest top (text_places top texts)) (8 * (length texts + 1))

-- the texts' addresses and a null pointer, 8 bytes each
abbrev pub pointers : ℕ → List (List ℕ) → List ℕ
pointers top texts = flat_map (le_bytes 8) (text_places top texts ++ 0 ∷ [])

-- the texts, each with its zero byte, laid at their places
abbrev pub texts_over : ℕ → List (List ℕ) → (ℕ → ℕ) → ℕ → ℕ
texts_over top texts byte = all_over (zip (text_places top texts) (map (λ text. text ++ 0 ∷ []) texts)) byte

-- the first stack: the texts, and below them their addresses and a null pointer
abbrev pub stack_over : ℕ → List (List ℕ) → (ℕ → ℕ) → ℕ → ℕ
stack_over top texts byte = over (stack_pointer top texts) (pointers top texts) (texts_over top texts byte)

-- ---- the whole image

-- the guard page: user code can't reach it
abbrev pub guard : Rights
guard = record { read = true; write = true; execute = false; user = false }

-- what page v allows, where the guard page begins at address s, and the stack page behind it
abbrev pub page_perm : List Segment → ℕ → ℕ → Option Rights
page_perm segments s v = if 4096 * v == s then Some guard else if 4096 * v == s + 4096 then Some data_rights else perm_at segments v

-- the segments, the guard page and the stack page, which are all pages up to the size
unfoldable pub program_image : List ℕ → List Segment → List (List ℕ) → Image
program_image file segments texts =
    let s = page_up (end_after 0 segments) in
    image_by (page_perm segments s) (stack_over (s + 8192) texts (segments_over file segments zeros)) (s + 8192)

-- a program in memory: its image, the pc and the stack pointer that it starts with, and how many texts it has
pub record Loaded : Type 0 where
  pub image : Image
  pub pc : ℕ
  pub sp : ℕ
  pub argc : ℕ

-- the address with its two lowest bits cleared
abbrev pub aligned : ℕ → ℕ
aligned a = 4 * (a / 4)

-- the segments with the texts, unless these don't fit into the stack page
abbrev pub with_texts : List ℕ → Header → List (List ℕ) → List Segment → Result Loaded ExecError
with_texts file header texts segments =
    let s = page_up (end_after 0 segments) in
    let sp = stack_pointer (s + 8192) texts in
    if nat_lt sp (s + 4096)
    then Err ArgsTooLong
    else Ok (record { image = program_image file segments texts; pc = aligned header.entry; sp = sp; argc = length texts })

infixl 10 ◌>>=◌
abbrev pub ◌>>=◌ : {A B : Type 0} → Result A ExecError → (A → Result B ExecError) → Result B ExecError
(Ok x) >>= f = f x
(Err e) >>= f = Err e

-- the program in memory, or the first refusal: of the file header, of the least program header, of the texts
abbrev pub loaded : List ℕ → List (List ℕ) → Result Loaded ExecError
loaded file texts = do
  header ← header_of file
  segments ← segments_of file header
  with_texts file header texts segments
