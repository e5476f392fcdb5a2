-- What the assembler makes of the text of an instruction.
use Rattle.std.specs.Prelude.{◌≡◌, ℕ, ◌+◌, ◌-◌, ◌*◌, ◌^◌, ◌<◌, ◌≤◌, IsTrue, if◌then◌else◌, List, [], ◌∷◌, Some, None, Result, Ok, Err}
use Rattle.xk_base.specs.Words.{le_bytes}
use Rattle.rv64i_core.specs.Table.{word, IsInLayout}
use Rattle.rv64i_core.specs.declared.instruction.Instr.{Instr}
use Rattle.rv64i_core.specs.declared.instruction.Instr.TheVariants.{Jal, Branch, Fence}
use Rattle.uasm_core.specs.declared.error.AsmErrorKind.{AsmErrorKind}
use Rattle.uasm_core.specs.declared.error.AsmErrorKind.TheVariants.{BadOperand}
use Rattle.uasm_core.specs.Kinds.{Place, text_section}
use Rattle.uasm_core.specs.Places.{address}
use Rattle.uasm_core.specs.Line.{parts_of, is_label}
use Rattle.uasm_core.specs.Statement.{Statement, Code, BranchTo, JumpTo, Labels, statement}
use Rattle.uasm_core.specs.Written.{Program, written}
use Rattle.uasm_core.specs.Meaning.{ProgramLine, Spells}
use Rattle.uasm_text.specs.Text.{is_the_fence, text_with, target_of, text_at}

-- The language has a line for each instruction; of the fences for one alone, whose word is 0FF0000F.
abbrev pub IsInLanguage : Instr → Type 0
IsInLanguage (Fence d s imm) = IsTrue (is_the_fence d s imm)
IsInLanguage i = Unit {0}

-- With a label.

-- An offset of k bits leads from an address to another, so many half words ahead; or, if its top bit is set, that
-- less 2^k, and so back.
pub record Leads (k from offset to : ℕ) : Type 0 where
  pub ahead : offset < 2 ^ (k - 1) → to ≡ from + 2 * offset
  pub back : 2 ^ (k - 1) ≤ offset → to + 2 * (2 ^ k - offset) ≡ from

-- the label stands at this address
abbrev pub Stands : Labels → List ℕ → ℕ → Type 0
Stands labels label to = labels label ≡ Some to

-- where a branch or a jump at an address leads; nothing is said of others
abbrev pub LeadsTo : ℕ → Instr → ℕ → Type 0
LeadsTo at (Jal d offset) to = Leads 20 at offset to
LeadsTo at (Branch op s t offset) to = Leads 12 at offset to
LeadsTo at i to = Unit {0}

-- what the line of an instruction asks for: a branch or a jump to the label, or this very instruction
abbrev pub asked : List ℕ → Instr → Statement
asked label (Jal d offset) = JumpTo d label
asked label (Branch op s t offset) = BranchTo op s t label
asked label i = Code (i ∷ [])

-- the line of an instruction in a program: no label stands before it, and it spells the instruction's word
abbrev pub line_with : List ℕ → Place → Instr → ProgramLine
line_with label at i = record { label = None; place = at; statement = asked label i; bytes = le_bytes 4 (word i) }

-- In whatever source, at whatever place of its text: the line of an instruction, with a label that stands where it
-- leads, spells the instruction's word.
abbrev pub LabelledIsRead : Type 0
LabelledIsRead = (i : Instr) (label : List ℕ) (labels : Labels) (text_len : ℕ) (at : Place) (to : ℕ)
    → IsInLayout i → IsInLanguage i → at.section ≡ text_section → IsTrue (is_label label) → Stands labels label to → LeadsTo (address text_len at) i to
    → Spells labels text_len at (text_with label i) (line_with label at i)

-- The address that is shown for the target is the one where that label stands.
abbrev pub TargetIsShown : Type 0
TargetIsShown = (i : Instr) (at to target : ℕ) → IsInLayout i → at < 2 ^ 64 → to < 2 ^ 64 → LeadsTo at i to → target_of at i ≡ Some target → target ≡ to

-- With an address.

-- what the shown line asks for in text: this very instruction; an address is no label, so branches and jumps are
-- refused, and a fence that the language doesn't have is refused too
abbrev pub read_as : Instr → Result Statement AsmErrorKind
read_as (Jal d offset) = Err BadOperand
read_as (Branch op s t offset) = Err BadOperand
read_as (Fence d s imm) = if is_the_fence d s imm then Ok (Code (Fence d s imm ∷ [])) else Err BadOperand
read_as i = Ok (Code (i ∷ []))

-- So no shown line is read as another instruction.
abbrev pub ShownIsRead : Type 0
ShownIsRead = (i : Instr) (at : ℕ) → IsInLayout i → statement text_section (parts_of (text_at at i)) ≡ read_as i

-- a program of one word
abbrev pub program_of_word : ℕ → Program
program_of_word w = record { text = le_bytes 4 w; data_bytes = []; entry = 0 }

-- A shown line that leads to no target is a whole source, and asks for the program of the instruction's word.
abbrev pub ShownIsProgram : Type 0
ShownIsProgram = (i : Instr) (at : ℕ) → IsInLayout i → IsInLanguage i → target_of at i ≡ None → written (text_at at i) ≡ Ok (program_of_word (word i))
