-- What a process asks of the kernel.
use Rattle.std.specs.Prelude.{ℕ, Option, Some, option_map}
use Rattle.rv64i_core.specs.Registers.{Registers, reg}
use Rattle.proc_table.specs.declared.process.Call.{Call}
use Rattle.kernel_spec.specs.runs.Run.{World}
use Rattle.kernel_spec.specs.views.State.{State}
use Rattle.kernel_spec.specs.views.Words.{A0, A1, A2, A7, c_int}
use Rattle.kcall_core.specs.Observers.{process_at, registers_of}
use Rattle.kcall_core.specs.declared.kernel.observers.ProcessState.{ProcessState}
use Rattle.kcall_core.specs.declared.kernel.observers.ProcessState.TheVariants as state
use Rattle.call_reasons.specs.declared.asked.Asked.{Asked}

-- ---- by registers (RISC-V Calling Conventions, "Integer Register Convention")

-- the number of the call, and what is passed to it
abbrev pub asked_with : Registers → Asked
asked_with regs = record { number = c_int (reg regs A7); a0 = reg regs A0; a1 = reg regs A1; a2 = reg regs A2 }

-- what process p asks for, as its registers stand; none if it isn't live
abbrev pub asked_by_registers : State → ℕ → Option Asked
asked_by_registers s p = option_map asked_with (registers_of s p)

-- ---- by the kernel's note

-- a call that isn't over, as it was at its first step
abbrev pub noted : Call → Asked
noted c = record { number = c.number; a0 = c.a0; a1 = c.a1; a2 = c.a2 }

-- of a process in a call, what that call asks for; of any other what else it asks for
abbrev pub asked_by : Option ProcessState → Option Asked → Option Asked
asked_by (Some (state.Live parent marked (Some call) asleep)) other = Some (noted call)
asked_by _ other = other

-- what process p asks for: at a call's first step, and as long as the call isn't over
abbrev pub asked_of : World → ℕ → Option Asked
asked_of w p = asked_by (process_at w p) (asked_by_registers w.state p)

-- the call as the kernel notes it at its first step, before it has moved bytes
abbrev pub call_asked : Asked → Call
call_asked asked = record { number = asked.number; a0 = asked.a0; a1 = asked.a1; a2 = asked.a2; moved = 0; clock = 0 }
