-- The next instruction of a process.
use Rattle.xk_base.specs.Image.{Image}
use Rattle.rv64i_core.specs.Registers.{Registers}
use Rattle.rv64i_core.specs.Step.{Step, instr}
use Rattle.rv64i_core.specs.UserImage.{user}

-- what the instruction at the pc comes to, with these registers, on the memory that user code sees of this image
abbrev pub next_instruction : Registers → Image → Step
next_instruction regs image = instr regs (user image)
