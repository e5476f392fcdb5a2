-- One step of a process, as a function of what it sees.
use Rattle.std.specs.Prelude.{Bool, true, false, Option, None, Some}
use Rattle.rv64i_core.specs.Registers.{Registers, reg, with_pc, after}
use Rattle.rv64i_core.specs.Memory.{Store}
use Rattle.rv64i_core.specs.Step.{Step, Next, Ecall, Fault}
use Rattle.rv64i_core.specs.UserImage.{with_store}
use Rattle.proc_table.specs.declared.process.Call.{Call}
use Rattle.kernel_spec.specs.rows.Touches.{before_instruction, instruction_now}
use Rattle.kernel_spec.specs.views.Words.{A0, A1, A2, A7, c_int, minus_one}
use Rattle.kernel_spec.specs.views.View.{View}
use Rattle.kernel_spec.specs.steps.Own.{Own, Stepped, Exited, Faulted, goes_on}
use Rattle.kernel_spec.specs.rows.Calls.{perform, gone}

-- the call that an ECALL begins: its number and arguments are in registers
abbrev pub call_begun : View → Call
call_begun v = record {
  number = c_int (reg v.regs A7);
  a0 = reg v.regs A0;
  a1 = reg v.regs A1;
  a2 = reg v.regs A2;
  moved = 0;
  clock = v.clock;
}

-- the call in progress, or else the one that an ECALL begins
abbrev pub call_or_begun : View → Option Call → Call
call_or_begun v (Some c) = c
call_or_begun v None = call_begun v

-- the call that a step is on, where it is on one
abbrev pub call_in : View → Call
call_in v = call_or_begun v v.call

-- past the ECALL, with the call in progress
abbrev pub begun : View → View
begun v = record v { regs = with_pc v.regs (after v.regs); call = Some (call_begun v) }

abbrev pub stored : View → Registers → Option Store → View
stored v r None = record v { regs = r }
stored v r (Some st) = record v { regs = r; image = with_store v.image st }

abbrev pub after_instruction : View → Step → Own
after_instruction v (Next r st) = goes_on Stepped (stored v r st)
after_instruction v Ecall = perform (call_begun v) (begun v)
after_instruction v (Fault cause) = gone (Faulted cause) v

-- a call in progress goes on; else the instruction at the pc is done, once the absent page that it is on is there
abbrev pub going_on : View → Option Call → Own
going_on v (Some c) = perform c v
going_on v None = after_instruction (before_instruction v) (instruction_now v)

-- a process that is marked ends
abbrev pub unless_killed : View → Bool → Own
unless_killed v true = gone (Exited minus_one) v
unless_killed v false = going_on v v.call

-- the step
unfoldable pub own : View → Own
own v = unless_killed v v.killed
