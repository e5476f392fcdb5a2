-- What is told of sources and instructions.
use Rattle.std.specs.Prelude.{◌≡◌, ℕ, List, [], length, Option, None, Some, Result, Ok, Err, nat_le, if◌then◌else◌}
use Rattle.std.specs.Str.{IsUtf8}
use Rattle.rv64i_core.specs.Table.{decoded}
use Rattle.rv64i_core.specs.declared.instruction.Instr.{Instr}
use Rattle.uasm_core.specs.FileFormat.{file_of}
use Rattle.uasm_core.specs.LineTable.{LineTable, line_table}
use Rattle.uasm_core.specs.Views.{Stands}
use Rattle.uasm_core.specs.declared.error.AsmError.{AsmError}
use Rattle.uasm_core.specs.declared.error.AsmError.TheVariants as errors
use Rattle.uasm_core.specs.declared.error.AsmErrorKind.{AsmErrorKind}
use Rattle.uasm_core.specs.declared.error.AsmErrorKind.TheVariants.{UnknownWord, BadOperand, OutOfRange, DuplicateLabel, UnknownLabel}
use Rattle.uasm_text.specs.Text.{text_at}
use Rattle.xv_page.specs.Told.{laid}
use Rattle.xv_page.specs.declared.texts.Assembled.{Assembled}

-- ---- instructions

abbrev pub text_of : (address : ℕ) → Option Instr → List ℕ
text_of address None = []
text_of address (Some i) = text_at address i

-- the text of the instruction of a word at an address; none if the word is no instruction
abbrev pub line_of : (address word : ℕ) → List ℕ
line_of address word = text_of address (decoded word)

-- ---- sources

abbrev pub mistake : AsmErrorKind → ℕ
mistake UnknownWord = 2
mistake BadOperand = 3
mistake OutOfRange = 4
mistake DuplicateLabel = 5
mistake UnknownLabel = 6

abbrev pub refusal : AsmError → Assembled
refusal errors.Memory = record { kind = 1; count = 0 }
refusal (errors.At line kind) = record { kind = mistake kind; count = line }

-- a file of so many bytes, and a room of so many
abbrev pub filed : (size room : ℕ) → Assembled
filed size room = if nat_le size room then record { kind = 0; count = size } else record { kind = 8; count = size }

abbrev pub made_told : (room : ℕ) → Result (List ℕ) AsmError → Assembled
made_told room (Ok file) = filed (length file) room
made_told room (Err e) = refusal e

abbrev pub made_laid : Result (List ℕ) AsmError → List ℕ → List ℕ
made_laid (Ok file) room = laid file room
made_laid (Err e) room = room

-- the table of the source is kept, if there is a file; if there is none, no table is
abbrev pub IsKept : (source : List ℕ) → Result (List ℕ) AsmError → Option LineTable → Type 0
IsKept source (Ok file) (Some table) = line_table source ≡ Ok table
IsKept source (Ok file) None = ⊥
IsKept source (Err e) kept = kept ≡ None

-- The very file that the text asks for, or its first refusal, unless memory ran out: it is told, and a file is laid into the room, and the table of the source's lines and labels kept
pub record IsMade (source before after : List ℕ) (kept : Option LineTable) (told : Assembled) : Type 0 where
  pub made : Result (List ℕ) AsmError
  pub stands : Stands (λ (file : List ℕ). file) made (file_of source)
  pub is_told : told ≡ made_told (length before) made
  pub is_laid : after ≡ made_laid made before
  pub is_kept : IsKept source made kept

-- bytes that are no text are told so; the room stays as it is, and no table is kept
abbrev pub IsNoText : (source before after : List ℕ) → Option LineTable → Assembled → Type 0
IsNoText source before after kept told = (¬ IsUtf8 source) × (told ≡ record { kind = 7; count = 0 }) × (after ≡ before) × (kept ≡ None)

-- a source of UTF-8 is assembled
pub data IsAssembled (source before after : List ℕ) (kept : Option LineTable) (told : Assembled) : Type 0 where
  a-text : IsUtf8 source → IsMade source before after kept told → IsAssembled source before after kept told
  no-text : IsNoText source before after kept told → IsAssembled source before after kept told
