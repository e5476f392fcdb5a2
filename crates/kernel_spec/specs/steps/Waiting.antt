-- Calls that wait: which may, the registers of a process in its call, and the one that may fail late.
use Rattle.std.specs.Prelude.{◌≡◌, ℕ, ℤ, pos, List, [], ◌∷◌, Option, None, Some}
use Rattle.rv64i_core.specs.Registers.{Registers, with_pc, after}
use Rattle.proc_table.specs.declared.process.Call.{Call}
use Rattle.pipe_core.specs.Pipe.{Pipe}
use Rattle.file_table.specs.declared.open_file.End.{End}
use Rattle.kernel_spec.specs.views.Words.{c_int}
use Rattle.kernel_spec.specs.views.View.{View, Descriptor, Shown_pipe}

-- the calls that may wait: wait, read, sleep and write
abbrev pub waiting_calls : List ℤ
waiting_calls = pos 3 ∷ pos 5 ∷ pos 13 ∷ pos 16 ∷ []

-- the registers with which the process is in its call: the pc is past the ECALL, where it isn't there already
abbrev pub regs_in_call : View → Option Call → Registers
regs_in_call v None = with_pc v.regs (after v.regs)
regs_in_call v (Some c) = v.regs

-- a write to a pipe that nobody reads any more
abbrev pub IsBrokenWrite : View → Type 0
IsBrokenWrite v =
    (c : Call) × (d : ℕ) × (x : Descriptor) × (name : ℕ) × (end : End) × (pipe : Pipe)
    × (v.call ≡ Some c) × (c.number ≡ pos 16) × (c_int c.a0 ≡ pos d) × (v.descriptors d ≡ Some x) × (x.shown ≡ Shown_pipe name end pipe) × (pipe.readers ≡ 0)
