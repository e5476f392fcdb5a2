-- What is shown of an instruction.
use Rattle.std.specs.Prelude.{ℕ, List, Option, None, Some, option_map}
use Rattle.rv64i_core.specs.Table.{decoded}
use Rattle.rv64i_core.specs.declared.instruction.Instr.{Instr}
use Rattle.uasm_text.specs.Text.{text_at}

-- the instruction of four bytes, if they are there and are one
abbrev pub instruction_in : Option ℕ → Option Instr
instruction_in (Some word) = decoded word
instruction_in None = None

-- its text in the assembler's language
abbrev pub instruction_text : (address : ℕ) → Option ℕ → Option (List ℕ)
instruction_text address word = option_map (text_at address) (instruction_in word)
