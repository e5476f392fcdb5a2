-- What a record tells, and its whole text.
use Rattle.std.specs.Prelude.{◌≡◌, ◌≢◌, ℕ, ◌<◌, ◌^◌, List, [], ◌∷◌, ◌++◌, codes, length, map, flat_map}
use Rattle.std.specs.Fmt.{decimal}
use Rattle.std.specs.List.{All}
use Rattle.std.specs.String.{string_bytes}
use Rattle.hex.specs.Hex.{encode_lower, IsBytes}
use Rattle.sha2.specs.Sha256.{sha256}
use Rattle.xk_base.specs.declared.program.Program.{Program}
use Rattle.xv_record.specs.declared.file.Record.{Record}
use Rattle.xv_record.specs.declared.line.Line.{Line}
use Rattle.xv_record.specs.declared.sums.ProgramSum.{ProgramSum}
use Rattle.xv_record.specs.Text.{worded, events_text_of, AreLines}

-- of a program: the SHA-256 of its bytes, how many there are, and its name
pub record ProgramTold : Type 0 where
  pub sum : List ℕ
  pub size : ℕ
  pub name : List ℕ

-- of a session: the frames of RAM, the programs that it was booted with, and the events that it got
pub record RecordTold : Type 0 where
  pub frames : ℕ
  pub programs : List ProgramTold
  pub events : List Line

abbrev pub program_told_of : (sum : List ℕ) → (size : ℕ) → (name : List ℕ) → ProgramTold
program_told_of sum size name = record { sum = sum; size = size; name = name }

abbrev pub told_program : ProgramSum → ProgramTold
told_program p = program_told_of p.sum p.size (string_bytes p.name)

abbrev pub told : Record → RecordTold
told r = record { frames = r.frames; programs = map told_program r.programs.items; events = r.events.items }

-- what is told of a program that is there
abbrev pub program_told : Program → ProgramTold
program_told p = program_told_of (sha256 p.bytes.items) (length p.bytes.items) p.name.items

-- a program's line: its checksum in hexadecimal digits, its length and its name
abbrev pub program_text : ProgramTold → List ℕ
program_text p = codes "program " ++ (encode_lower p.sum ++ (codes " " ++ (decimal p.size ++ (codes " " ++ (p.name ++ 10 ∷ [])))))

-- what stands in a record's text before its events: its first line, the frames, a line for each program, and the line `events`
abbrev pub head_text_of : (frames : ℕ) → List ProgramTold → List ℕ
head_text_of frames programs = codes "xv record 1\n" ++ (worded (codes "frames ") frames ++ (flat_map program_text programs ++ codes "events\n"))

-- the text of a record without its last line: its head and its events
abbrev pub begun_text_of : RecordTold → List ℕ
begun_text_of r = head_text_of r.frames r.programs ++ events_text_of r.events

-- the line that ends a record
abbrev pub end_text : List ℕ
end_text = codes "end\n"

-- the text of a record
abbrev pub record_text_of : RecordTold → List ℕ
record_text_of r = begun_text_of r ++ end_text

-- no byte of it is a line break
abbrev pub IsOneLine : List ℕ → Type 0
IsOneLine bytes = All (λ b. b ≢ 10) bytes

-- its checksum has 32 bytes, its length is one that a program can hold, and its name is one line
pub record IsProgramTold (p : ProgramTold) : Type 0 where
  pub sum : length p.sum ≡ 32
  pub sum_bytes : IsBytes p.sum
  pub size : p.size < 2 ^ 64
  pub name : IsOneLine p.name

abbrev pub AreProgramsTold : List ProgramTold → Type 0
AreProgramsTold programs = All IsProgramTold programs

-- such a record can be written
pub record IsTold (r : RecordTold) : Type 0 where
  pub frames : r.frames < 2 ^ 32
  pub programs : AreProgramsTold r.programs
  pub events : AreLines r.events
