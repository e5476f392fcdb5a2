-- Where a jump or a branch leads.
use Rattle.std.specs.Prelude.{ℕ, ◌*◌, ◌/◌, Option, None, Some}
use Rattle.rv64i_core.specs.Registers.{Registers, reg, add}
use Rattle.rv64i_core.specs.Step.{extended}
use Rattle.rv64i_core.specs.Table.{decoded}
use Rattle.rv64i_core.specs.declared.instruction.Instr.{Instr}
use Rattle.rv64i_core.specs.declared.instruction.Instr.TheVariants.{Jalr}
use Rattle.uasm_text.specs.Text.{target_of}

-- with these registers, as the rows of `rv64i_core`'s `specs/Step.antt` have it; none if it is no jump and no branch
unfoldable pub leads_to : Registers → Instr → Option ℕ
leads_to regs (Jalr d s imm) = Some (add (reg regs s) (extended 12 imm) / 2 * 2)
leads_to regs instr = target_of regs.pc instr

-- by the word of the instruction
abbrev pub jump_by : Registers → Option Instr → Option ℕ
jump_by regs None = None
jump_by regs (Some instr) = leads_to regs instr

abbrev pub jump_of : Registers → Option ℕ → Option ℕ
jump_of regs None = None
jump_of regs (Some word) = jump_by regs (decoded word)
