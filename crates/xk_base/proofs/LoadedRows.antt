-- What the definition of a loaded program says of small files, computed.
use Rattle.std.proofs.Common.{◌≡◌, ℕ, ◌+◌, ◌-◌, ◌*◌, true, false, List, [], ◌∷◌, ◌++◌, map, take, length, Some, None, Result, Ok, Err, refl, replicate, set}
use Rattle.std.specs.List.{range_with_len}
use Rattle.xk_base.specs.declared.errors.ExecError.{ExecError}
use Rattle.xk_base.specs.declared.errors.ExecError.TheVariants.{NotElf, BadSegment, ArgsTooLong}
use Rattle.xk_base.specs.declared.program.Segment.{Segment}
use Rattle.xk_base.specs.Words.{least_below}
use Rattle.xk_base.specs.ProgramFile.{is_elf, file_header, header_of, program_header, is_bad, is_refused_after, segments_of}
use Rattle.xk_base.specs.Loaded.{stack_pointer, stack_over, segments_over, zeros, perm_at, page_perm, guard, program_image, image_by, loaded, ◌>>=◌, Loaded}
use Rattle.xk_base.specs.Access.{data_rights}

abbrev nothing : ℕ → List ℕ
nothing n = replicate n 0

-- 132 bytes: headers, and three instructions
abbrev small : List ℕ
small =
    (0x7F ∷ 0x45 ∷ 0x4C ∷ 0x46 ∷ 2 ∷ 1 ∷ 1 ∷ []) ++ nothing 9 ++ (2 ∷ 0 ∷ 243 ∷ 0 ∷ 1 ∷ 0 ∷ 0 ∷ 0 ∷ []) ++ nothing 8 ++ (64 ∷ []) ++ nothing 7 ++ nothing 8 ++ nothing 4
    ++ (64 ∷ 0 ∷ 56 ∷ 0 ∷ 1 ∷ 0 ∷ []) ++ nothing 6
    ++ (1 ∷ 0 ∷ 0 ∷ 0 ∷ 5 ∷ 0 ∷ 0 ∷ 0 ∷ 120 ∷ []) ++ nothing 7 ++ nothing 8 ++ nothing 8 ++ (12 ∷ []) ++ nothing 7 ++ (12 ∷ []) ++ nothing 7 ++ (1 ∷ []) ++ nothing 7
    ++ (0x93 ∷ 0x08 ∷ 0x20 ∷ 0x00 ∷ 0x13 ∷ 0x05 ∷ 0x00 ∷ 0x00 ∷ 0x73 ∷ 0x00 ∷ 0x00 ∷ 0x00 ∷ [])

-- the text `init`
abbrev init : List ℕ
init = 105 ∷ 110 ∷ 105 ∷ 116 ∷ []

abbrev text_segment : Segment
text_segment = record { vaddr = 0; memsz = 12; perm = record { read = true; write = false; execute = true; user = true }; off = 120; filesz = 12 }

small-length : length small ≡ 132
small-length = refl

abbrev segments_in : List ℕ → Result (List Segment) ExecError
segments_in file = header_of file >>= segments_of file

small-segments : segments_in small ≡ Ok (text_segment ∷ [])
unfolding is_elf file_header program_header is_bad is_refused_after least_below
small-segments = refl

-- ---- the stack of `init` with its own name as its argument, below 0x3000: the text at 0x2FF0, the pointers at 0x2FE0

init-sp : stack_pointer 0x3000 (init ∷ []) ≡ 0x2FE0
init-sp = refl

init-text : map (stack_over 0x3000 (init ∷ []) zeros) (range_with_len 0x2FF0 5) ≡ init ++ 0 ∷ []
init-text = refl

init-pointers : map (stack_over 0x3000 (init ∷ []) zeros) (range_with_len 0x2FE0 16) ≡ (0xF0 ∷ 0x2F ∷ []) ++ nothing 6 ++ nothing 8
init-pointers = refl

-- with no argument there is a null pointer alone
no-argument : stack_pointer 0x3000 [] ≡ 0x2FF0
no-argument = refl

-- 31 texts of one byte take 16 bytes each, and their pointers 256
abbrev ones : ℕ → List (List ℕ)
ones n = replicate n (97 ∷ [])

thirty-one : stack_pointer 0x3000 (ones 31) ≡ 0x3000 - (31 * 16 + 256)
thirty-one = refl

-- ---- the pages of `init`: its text, the guard page, the stack page, no more

init-pages : map (page_perm (text_segment ∷ []) 4096) (0 ∷ 1 ∷ 2 ∷ 3 ∷ []) ≡ Some text_segment.perm ∷ Some guard ∷ Some data_rights ∷ None ∷ []
init-pages = refl

init-bytes : map (segments_over small (text_segment ∷ []) zeros) (range_with_len 0 14) ≡ (0x93 ∷ 0x08 ∷ 0x20 ∷ 0x00 ∷ 0x13 ∷ 0x05 ∷ 0x00 ∷ 0x00 ∷ 0x73 ∷ 0x00 ∷ 0x00 ∷ 0x00 ∷ 0 ∷ 0 ∷ [])
init-bytes = refl

-- a second segment behind a gap has the gap's page too
abbrev data_segment : Segment
data_segment = record { vaddr = 8192; memsz = 1; perm = data_rights; off = 0; filesz = 1 }

gap : map (perm_at (text_segment ∷ data_segment ∷ [])) (0 ∷ 1 ∷ 2 ∷ 3 ∷ []) ≡ Some text_segment.perm ∷ Some data_rights ∷ Some data_rights ∷ None ∷ []
gap = refl

-- ---- the whole

abbrev registers : Loaded → List ℕ
registers l = l.pc ∷ l.sp ∷ l.argc ∷ l.image.size ∷ []

abbrev started : List ℕ → List (List ℕ) → Result (List ℕ) ExecError
started file texts = loaded file texts >>= λ l. Ok (registers l)

small-loaded : started small (init ∷ []) ≡ Ok (0 ∷ 0x2FE0 ∷ 1 ∷ 0x3000 ∷ [])
unfolding is_elf file_header program_header is_bad is_refused_after least_below program_image
small-loaded = refl

-- all of it: the image has the pages, the bytes and the stack that are computed above
small-program : loaded small (init ∷ []) ≡ Ok (record { image = program_image small (text_segment ∷ []) (init ∷ []); pc = 0; sp = 0x2FE0; argc = 1 })
unfolding is_elf file_header program_header is_bad is_refused_after least_below program_image
small-program = refl

small-image : program_image small (text_segment ∷ []) (init ∷ []) ≡ image_by (page_perm (text_segment ∷ []) 0x1000)
    (stack_over 0x3000 (init ∷ []) (segments_over small (text_segment ∷ []) zeros)) 0x3000
unfolding program_image
small-image = refl

-- an entry of 3 is one of 0
odd-entry : started (set small 24 3) [] ≡ Ok (0 ∷ 0x2FF0 ∷ 0 ∷ 0x3000 ∷ [])
unfolding is_elf file_header program_header is_bad is_refused_after least_below program_image
odd-entry = refl

-- a file whose one segment takes no memory has a guard page and a stack
no-memory : started (set (set small 96 0) 104 0) [] ≡ Ok (0 ∷ 0x1FF0 ∷ 0 ∷ 0x2000 ∷ [])
unfolding is_elf file_header program_header is_bad is_refused_after least_below program_image
no-memory = refl

-- ---- refusals

cut-63 : started (take 63 small) [] ≡ Err NotElf
unfolding is_elf file_header program_header is_bad is_refused_after least_below
cut-63 = refl

cut-64 : started (take 64 small) [] ≡ Err (BadSegment 0)
unfolding is_elf file_header program_header is_bad is_refused_after least_below
cut-64 = refl

cut-131 : started (take 131 small) [] ≡ Err (BadSegment 0)
unfolding is_elf file_header program_header is_bad is_refused_after least_below
cut-131 = refl

-- a second header would begin at byte 120
second-header : started (set small 56 2) [] ≡ Err (BadSegment 1)
unfolding is_elf file_header program_header is_bad is_refused_after least_below
second-header = refl

-- a text of 4095 bytes fills the stack page and leaves no room for the pointers
too-long : started small (replicate 4095 97 ∷ []) ≡ Err ArgsTooLong
unfolding is_elf file_header program_header is_bad is_refused_after least_below
too-long = refl
