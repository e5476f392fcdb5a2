-- The table of open files: a map from places to open files, each with the number of descriptors that name it.
use Rattle.std.specs.Prelude.{◌≡◌, ℕ, ◌+◌, ◌-◌, ◌≤◌, Bool, true, false, cond, nat_eq, List, Option, None, Some, IsSome, get_or, set, length, option_map, replicate, count_by, position, is_some, is_none}
use Rattle.std.specs.Option.{option_and_then}
use Rattle.xk_base.specs.declared.limits.TheConstants.{OPEN_FILES}
use Rattle.file_table.specs.declared.open_file.TheConstants.{SHARERS_MAX}
use Rattle.file_table.specs.declared.open_file.End.{End}
use Rattle.file_table.specs.declared.open_file.End.TheVariants.{Reading, Writing}
use Rattle.file_table.specs.declared.open_file.Target.{Target}
use Rattle.file_table.specs.declared.open_file.Target.TheVariants.{Console, Program, Pipe}
use Rattle.file_table.specs.declared.open_file.OpenFile.{OpenFile}
use Rattle.file_table.specs.declared.open_file.CountedFile.{CountedFile}

-- ---- an open file

-- the console, with the modes that it was opened with
abbrev pub console_file : Bool → Bool → OpenFile
console_file read write = record { target = Console; read = read; write = write }

-- a program's file is read-only, from its first byte on
abbrev pub program_file : ℕ → OpenFile
program_file program = record { target = Program program 0; read = true; write = false }

-- one end of a pipe is for reading, the other for writing
abbrev pub pipe_file : ℕ → End → OpenFile
pipe_file frame Reading = record { target = Pipe frame Reading; read = true; write = false }
pipe_file frame Writing = record { target = Pipe frame Writing; read = false; write = true }

-- the offset of a target, case by case
abbrev pub target_offset : Target → ℕ
target_offset Console = 0
target_offset (Program program offset) = offset
target_offset (Pipe frame end) = 0

-- the offset of the next byte; 0 where it is no program's file
abbrev pub offset_of : OpenFile → ℕ
offset_of f = target_offset f.target

-- a target with its next byte at the offset, case by case
abbrev pub target_moved : ℕ → Target → Target
target_moved offset Console = Console
target_moved offset (Program program before) = Program program offset
target_moved offset (Pipe frame end) = Pipe frame end

-- a program's file with its next byte at the offset; any other stays
abbrev pub moved_to : ℕ → OpenFile → OpenFile
moved_to offset f = record f { target = target_moved offset f.target }

-- ---- the table

-- what stands in a place
abbrev pub entry_at : List (Option CountedFile) → ℕ → Option CountedFile
entry_at files file = get_or files file None

-- the open file of this name is there
abbrev pub IsOpen : List (Option CountedFile) → ℕ → Type 0
IsOpen files file = IsSome (entry_at files file)

-- an entry without its count
abbrev pub entry_file : CountedFile → OpenFile
entry_file e = e.file

-- an entry without its open file
abbrev pub entry_count : CountedFile → ℕ
entry_count e = e.count

-- the open file of this name
abbrev pub open_file_at : List (Option CountedFile) → ℕ → Option OpenFile
open_file_at files file = option_map entry_file (entry_at files file)

-- how many descriptors name it
abbrev pub count_at : List (Option CountedFile) → ℕ → Option ℕ
count_at files file = option_map entry_count (entry_at files file)

-- no file is open
abbrev pub none_open : List (Option CountedFile)
none_open = replicate OPEN_FILES None

-- how many files are open
abbrev pub open_count : List (Option CountedFile) → ℕ
open_count files = count_by is_some files

-- what is true of every table: each open file is named by 1 to SHARERS_MAX descriptors
pub record IsTable (files : List (Option CountedFile)) : Type 0 where
  pub places : length files ≡ OPEN_FILES
  pub counts : (file : ℕ) (e : CountedFile) → entry_at files file ≡ Some e → (1 ≤ e.count) × (e.count ≤ SHARERS_MAX)

-- ---- changes of the table

-- the lowest place without an open file
abbrev pub lowest_place : List (Option CountedFile) → Option ℕ
lowest_place files = position is_none files

-- the file is open in this place, and one descriptor names it
abbrev pub with_opened : ℕ → OpenFile → List (Option CountedFile) → List (Option CountedFile)
with_opened file f files = set files file (Some (record { file = f; count = 1 }))

-- one descriptor more names it
abbrev pub once_more : CountedFile → CountedFile
once_more e = record e { count = e.count + 1 }

-- one descriptor more names the open file of this name
abbrev pub with_sharer : ℕ → List (Option CountedFile) → List (Option CountedFile)
with_sharer file files = set files file (option_map once_more (entry_at files file))

-- its next byte is the one at the offset
abbrev pub entry_moved : ℕ → CountedFile → CountedFile
entry_moved offset e = record e { file = moved_to offset e.file }

-- the open file of this name has its next byte at the offset
abbrev pub with_offset : ℕ → ℕ → List (Option CountedFile) → List (Option CountedFile)
with_offset file offset files = set files file (option_map (entry_moved offset) (entry_at files file))

-- only one descriptor names it
abbrev pub is_last : CountedFile → Bool
is_last e = nat_eq e.count 1

-- one descriptor fewer names it; after the last one it is open no more
abbrev pub once_less : CountedFile → Option CountedFile
once_less e = cond (is_last e) None (Some (record e { count = e.count - 1 }))

-- one descriptor fewer names the open file of this name
abbrev pub without_sharer : ℕ → List (Option CountedFile) → List (Option CountedFile)
without_sharer file files = set files file (option_and_then once_less (entry_at files file))
