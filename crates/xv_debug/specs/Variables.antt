-- What is seen of a process where variables of a program in C are told.
use Rattle.std.specs.Prelude.{ℕ, nat_lt, if◌then◌else◌, Option, Some, None}
use Rattle.rv64i_core.specs.Registers.{Registers, reg}

-- a register by its DWARF number: 0 to 31 are x0 to x31 (RISC-V ABIs, "DWARF Register Numbers")
abbrev pub register_held : Registers → (number : ℕ) → Option ℕ
register_held regs number = if nat_lt number 32 then Some (reg regs number) else None
