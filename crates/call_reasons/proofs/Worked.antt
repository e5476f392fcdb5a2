-- Worked cases of reasons.
use Rattle.std.proofs.Common.{◌≡◌, ℕ, ◌+◌, ◌-◌, ◌++◌, ◌∷◌, [], List, replicate, true, false, cond, Option, None, Some, codes, refl}
use Rattle.std.specs.Prelude.{ℤ, pos, negsuc, ◌==◌, ◌&&◌, nat_le, slice_index, bytes_eq, take}
use Rattle.std.specs.Fmt.{digits}
use Rattle.xk_base.specs.declared.errors.ExecError.TheVariants.{ArgsTooLong, BadSegment}
use Rattle.xk_base.specs.ProgramFile.{is_elf, file_header, program_header, is_bad, is_refused_after}
use Rattle.xk_base.specs.Words.{least_below}
use Rattle.proc_table.specs.declared.process.Call.{Call}
use Rattle.kernel_spec.specs.rows.Buffers.{no_slashes}
use Rattle.kernel_spec.specs.rows.Calls.{row_of}
use Rattle.call_reasons.specs.Facts.{Facts}
use Rattle.call_reasons.specs.Loading.{load_error}
use Rattle.call_reasons.specs.Reasons.{first, of_loading, reason_told, tests}
use Rattle.call_reasons.specs.Texts.{has_texts, text_at, texts_at}
use Rattle.call_reasons.specs.Words.{reason_words}
use Rattle.call_reasons.specs.declared.opened.Opened.{Opened}
use Rattle.call_reasons.specs.declared.reason.Reason.{Reason}
use Rattle.call_reasons.specs.declared.reason.Reason.TheVariants.{NoCall, NotOpen, NotForReading, NotForWriting, BelowZero, NotReadable, NotWritable, NoReader, NoChild, NoProcess, NoDescriptor}
use Rattle.call_reasons.specs.declared.reason.Reason.TheVariants.{BadSize, NoFrames, NoPath, NoList, NotNamed, NoProgram, NotInMode, NotElf, BadHeader, LongWords}

abbrev call : (number a0 a1 a2 : ℕ) → Call
call number a0 a1 a2 = record { number = pos number; a0 = a0; a1 = a1; a2 = a2; moved = 0; clock = 0 }

-- descriptor 0 may be read by, 1 may be written by and is on a pipe that nobody reads, no other is in use
abbrev open_here : ℤ → Option Opened
open_here (pos n) =
    cond (n == 0) (Some (record { reads = true; writes = false; is_file = false; is_unread = false }))
    (cond (n == 1) (Some (record { reads = false; writes = true; is_file = false; is_unread = true })) None)
open_here (negsuc k) = None

-- one page of memory at 4096, 3 frames and no child
abbrev here : Facts
here = record {
  opened = open_here;
  free_descriptors = 1;
  reads = λ address count. address == 4096;
  writes = λ address count. address == 4096;
  byte = λ address. 0;
  size = 8192;
  has_child = false;
  is_pid = λ number. false;
  is_program = λ name. false;
  file = λ name. None;
  free = 3;
}

abbrev told : (number a0 a1 a2 : ℕ) → Option Reason
told number a0 a1 a2 = reason_told (call number a0 a1 a2) here (negsuc 0)

closed : told 21 7 0 0 ≡ Some (NotOpen (pos 7))
unfolding reason_told row_of tests
closed = refl

-- the low 32 bits of a register are the number: here -1
below_all : told 21 4294967295 0 0 ≡ Some (NotOpen (negsuc 0))
unfolding reason_told row_of tests
below_all = refl

-- the descriptor is tested before the count, and the count before the buffer
read_order : told 5 1 0 4294967295 ≡ Some (NotForReading (pos 1))
unfolding reason_told row_of tests
read_order = refl

count_first : told 5 0 0 4294967295 ≡ Some (BelowZero (negsuc 0))
unfolding reason_told row_of tests
count_first = refl

nowhere : told 5 0 8 64 ≡ Some (NotWritable 8 64)
unfolding reason_told row_of tests
nowhere = refl

-- none of the tests that a machine shows holds
short : told 5 0 4096 64 ≡ Some (NoFrames 3)
unfolding reason_told row_of tests
short = refl

unread : told 16 1 4096 3 ≡ Some NoReader
unfolding reason_told row_of tests
unread = refl

-- 0 bytes are written even if nobody reads
nothing_written : told 16 1 4096 0 ≡ None
unfolding reason_told row_of tests
nothing_written = refl

unwritable : told 16 0 4096 3 ≡ Some (NotForWriting (pos 0))
unfolding reason_told row_of tests
unwritable = refl

-- a wait may have no address
childless : told 3 0 0 0 ≡ Some NoChild
unfolding reason_told row_of tests
childless = refl

bad_status : told 3 8 0 0 ≡ Some (NotWritable 8 4)
unfolding reason_told row_of tests
bad_status = refl

one_left : told 4 4096 0 0 ≡ Some (NoDescriptor 1)
unfolding reason_told row_of tests
one_left = refl

nobody : told 6 9 0 0 ≡ Some (NoProcess (pos 9))
unfolding reason_told row_of tests
nobody = refl

too_small : told 12 4294959103 0 0 ≡ Some BadSize
unfolding reason_told row_of tests
too_small = refl

all_of_it : told 12 4294959104 0 0 ≡ Some (NoFrames 3)
unfolding reason_told row_of tests
all_of_it = refl

unknown : told 99 0 0 0 ≡ Some NoCall
unfolding reason_told row_of tests
unknown = refl

-- no reason is told of another answer
answered : reason_told (call 21 7 0 0) here (pos 0) ≡ None
unfolding reason_told row_of tests
answered = refl

words : reason_words (NotOpen (pos 7)) ≡ codes "descriptor 7 isn't open"
unfolding digits
words = refl

bytes : reason_words (NotWritable 4096 64) ≡ codes "it may not write all 64 bytes from 0x1000 on"
unfolding digits
bytes = refl

one_byte : reason_words (NotReadable 8 1) ≡ codes "it may not read the byte at 0x8"
unfolding digits
one_byte = refl

header_words : reason_words (BadHeader 12) ≡ codes "program header 12 of its file can't be loaded"
unfolding digits
header_words = refl

mode_words : reason_words (NotInMode (negsuc 0)) ≡ codes "it can't be opened in mode -1"
unfolding digits
mode_words = refl

-- ---- texts

-- from 4096 on a path of 5 bytes, the console's name, and from 4112 on a pointer to the path and a pointer 0
abbrev memory : List ℕ
memory = codes "//cat" ++ 0 ∷ codes "console" ++ 0 ∷ 0 ∷ 0 ∷ 0 ∷ 16 ∷ 0 ∷ 0 ∷ 0 ∷ 0 ∷ 0 ∷ 0 ∷ replicate 8 0

-- these 32 bytes are all that may be read, and cat is the one program
abbrev texts : Facts
texts = record here {
  reads = λ address count. nat_le 4096 address && nat_le (address + count) 4128;
  byte = λ address. slice_index memory (address - 4096);
  is_program = λ name. bytes_eq name (codes "cat");
  file = λ name. cond (bytes_eq name (codes "cat")) (Some []) None;
}

path_read : text_at texts 6 4096 ≡ Some (codes "//cat")
unfolding text_at
path_read = refl

-- the zero byte counts among the bytes of a path
path_long : text_at texts 5 4096 ≡ None
unfolding text_at
path_long = refl

path_nowhere : text_at texts 128 4095 ≡ None
unfolding text_at
path_nowhere = refl

-- the bytes that may be read end before a zero byte
path_cut : text_at (record texts { reads = λ address count. nat_le (address + count) 4101 }) 128 4096 ≡ None
unfolding text_at
path_cut = refl

list_read : has_texts texts 1 6 4112 ≡ true
unfolding texts_at text_at
list_read = refl

-- a pointer 0 alone is an empty list
list_empty : has_texts texts 0 6 4120 ≡ true
unfolding texts_at
list_empty = refl

one_too_many : has_texts texts 0 6 4112 ≡ false
unfolding texts_at
one_too_many = refl

text_too_long : has_texts texts 1 5 4112 ≡ false
unfolding texts_at text_at
text_too_long = refl

pointer_cut : has_texts texts 31 4096 4121 ≡ false
unfolding texts_at
pointer_cut = refl

-- ---- exec and open

abbrev told_of_texts : (number a0 a1 : ℕ) → Option Reason
told_of_texts number a0 a1 = reason_told (call number a0 a1 0) texts (negsuc 0)

exec_no_path : told_of_texts 7 8 8 ≡ Some (NoPath 8)
unfolding reason_told row_of tests text_at
exec_no_path = refl

-- the list is tested before the name
exec_no_list : told_of_texts 7 4102 8 ≡ Some (NoList 8)
unfolding reason_told row_of tests text_at texts_at
exec_no_list = refl

-- the console is no program
exec_console : told_of_texts 7 4102 4112 ≡ Some NoProgram
unfolding reason_told row_of tests text_at texts_at no_slashes
exec_console = refl

-- exec of cat with its path as its one word, if these bytes are cat's file
abbrev told_of_file : (file : List ℕ) → Option Reason
told_of_file file = reason_told (call 7 4096 4112 0) (record texts { file = λ name. cond (bytes_eq name (codes "cat")) (Some file) None }) (negsuc 0)

-- a file header of 64 bytes, with so many program headers right behind it
abbrev elf : (count : ℕ) → List ℕ
elf count = 0x7F ∷ 0x45 ∷ 0x4C ∷ 0x46 ∷ replicate 28 0 ++ 64 ∷ replicate 23 0 ++ count ∷ replicate 7 0

-- a program header that isn't to be loaded, and one that has a byte in the file and none in memory
abbrev note : List ℕ
note = replicate 56 0

abbrev bad_load : List ℕ
bad_load = 1 ∷ replicate 31 0 ++ 1 ∷ replicate 23 0

exec_zeros : told_of_file (replicate 64 0) ≡ Some NotElf
unfolding reason_told row_of tests text_at texts_at no_slashes load_error is_elf file_header
exec_zeros = refl

-- 63 bytes are too few for a file header
exec_cut : told_of_file (take 63 (elf 0)) ≡ Some NotElf
unfolding reason_told row_of tests text_at texts_at no_slashes load_error is_elf file_header
exec_cut = refl

-- program headers are counted from 0
exec_second_header : told_of_file (elf 2 ++ note ++ bad_load) ≡ Some (BadHeader 1)
unfolding reason_told row_of tests text_at texts_at no_slashes load_error is_elf file_header program_header is_bad is_refused_after least_below
exec_second_header = refl

-- the least one that can't be loaded is told
exec_two_headers : told_of_file (elf 2 ++ bad_load ++ bad_load) ≡ Some (BadHeader 0)
unfolding reason_told row_of tests text_at texts_at no_slashes load_error is_elf file_header program_header is_bad is_refused_after least_below
exec_two_headers = refl

-- a program header that isn't wholly in the file
exec_no_header : told_of_file (elf 1 ++ replicate 55 0) ≡ Some (BadHeader 0)
unfolding reason_told row_of tests text_at texts_at no_slashes load_error is_elf file_header program_header is_bad is_refused_after least_below
exec_no_header = refl

-- it can be loaded
exec_short : told_of_file (elf 1 ++ note) ≡ Some (NoFrames 3)
unfolding reason_told row_of tests text_at texts_at no_slashes load_error is_elf file_header program_header is_bad is_refused_after least_below
exec_short = refl

-- a word, its zero byte, its address and a pointer 0 have 4,096 bytes
word_fits : load_error (Some (elf 0)) (Some (replicate 4079 97 ∷ [])) ≡ None
unfolding load_error is_elf file_header least_below
word_fits = refl

word_too_long : load_error (Some (elf 0)) (Some (replicate 4080 97 ∷ [])) ≡ Some ArgsTooLong
unfolding load_error is_elf file_header least_below
word_too_long = refl

-- the file is tested before the words
header_first : load_error (Some (elf 1)) (Some (replicate 4080 97 ∷ [])) ≡ Some (BadSegment 0)
unfolding load_error is_elf file_header program_header is_bad is_refused_after least_below
header_first = refl

too_long_told : first (of_loading (call 7 4096 4112 0) here true (Some ArgsTooLong)) ≡ Some LongWords
too_long_told = refl

open_no_path : told_of_texts 15 8 9 ≡ Some (NoPath 8)
unfolding reason_told row_of tests text_at
open_no_path = refl

-- "at" is no program's name
open_unnamed : told_of_texts 15 4099 9 ≡ Some NotNamed
unfolding reason_told row_of tests text_at no_slashes
open_unnamed = refl

-- a program's file can only be read
open_to_write : told_of_texts 15 4096 1 ≡ Some (NotInMode (pos 1))
unfolding reason_told row_of tests text_at no_slashes
open_to_write = refl

console_to_write : told_of_texts 15 4102 2 ≡ None
unfolding reason_told row_of tests text_at no_slashes
console_to_write = refl

console_mode : told_of_texts 15 4102 3 ≡ Some (NotInMode (pos 3))
unfolding reason_told row_of tests text_at no_slashes
console_mode = refl

mode_below : told_of_texts 15 4102 4294967295 ≡ Some (NotInMode (negsuc 0))
unfolding reason_told row_of tests text_at no_slashes
mode_below = refl

-- the mode is tested before the descriptors
none_free : reason_told (call 15 4096 0 0) (record texts { free_descriptors = 0 }) (negsuc 0) ≡ Some (NoDescriptor 0)
unfolding reason_told row_of tests text_at no_slashes
none_free = refl
