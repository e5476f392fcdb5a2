-- What the host is told, as numbers.
use Rattle.std.specs.Prelude.{ℕ, ℤ, pos, ◌+◌, ◌*◌, ◌++◌, Bool, true, false, if◌then◌else◌, nat_eq, nat_lt, nat_le, List, length, drop, Option, None, Some, is_some}
use Rattle.xk_base.specs.Access.{code_of}
use Rattle.xk_base.specs.declared.access.Rights.{Rights}
use Rattle.rv64i_core.specs.Registers.{Registers, reg}
use Rattle.file_table.specs.declared.open_file.Target.{Target}
use Rattle.file_table.specs.declared.open_file.Target.TheVariants as target
use Rattle.file_table.specs.declared.open_file.End.{End}
use Rattle.file_table.specs.declared.open_file.End.TheVariants.{Reading, Writing}
use Rattle.proc_table.specs.declared.process.Call.{Call}
use Rattle.kernel_spec.specs.steps.Own.{Answer, Stepped, Called, Blocked, Exited, Faulted}
use Rattle.kernel_spec.specs.runs.Run as runs
use Rattle.kcall_core.specs.declared.kernel.observers.Descriptor.{Descriptor}
use Rattle.kcall_core.specs.declared.kernel.observers.ProcessState.{ProcessState}
use Rattle.kcall_core.specs.declared.kernel.observers.ProcessState.TheVariants as state
use Rattle.kcall_core.specs.declared.kernel.observers.frame_uses.FrameUse.{FrameUse}
use Rattle.kcall_core.specs.declared.kernel.observers.frame_uses.FrameUse.TheVariants.{Free, Trapframe, Root, Upper, Lower, Page, Pipe}
use Rattle.kcall_core.specs.declared.memories.piping.PipeCounts.{PipeCounts}
use Rattle.xv_machine.specs.declared.trace.Note.{Note}
use Rattle.xv_machine.specs.declared.trace.Note.TheVariants as notes
use Rattle.xv_session.specs.Recorded.{Recorded}
use Rattle.xv_session.specs.declared.looking.NextStep.{NextStep}
use Rattle.xv_session.specs.declared.session.SessionError.{SessionError}
use Rattle.xv_session.specs.declared.session.SessionError.TheVariants as errors
use Rattle.xv_page.specs.declared.answers.Answer.{Answer as CallAnswer}
use Rattle.xv_page.specs.declared.answers.Answer.TheVariants as answers
use Rattle.xv_page.specs.declared.outcomes.Told.{Told}
use Rattle.xv_page.specs.declared.outcomes.RunsTold.{RunsTold}
use Rattle.xv_page.specs.declared.views.Word.{Word}
use Rattle.xv_page.specs.declared.views.Facts.{Facts}
use Rattle.xv_page.specs.declared.views.ProcessTold.{ProcessTold}
use Rattle.xv_page.specs.declared.views.DescriptorTold.{DescriptorTold}
use Rattle.xv_page.specs.declared.views.PipeTold.{PipeTold}
use Rattle.xv_page.specs.declared.views.UseTold.{UseTold}

-- ---- outcomes

abbrev pub flag : Bool → ℕ
flag true = 1
flag false = 0

abbrev pub plain : ℕ → ℕ → ℤ → Told
plain kind pid number = record { kind = kind; pid = pid; number = number; shown = 0; value = pos 0 }

-- a step of process pid
abbrev pub step_told : ℕ → Answer → Told
step_told pid Stepped = plain 0 pid (pos 0)
step_told pid (Called number value) = record { kind = 1; pid = pid; number = number; shown = 0; value = value }
step_told pid (Blocked number) = plain 2 pid number
step_told pid (Exited status) = plain 3 pid status
step_told pid (Faulted cause) = plain 4 pid (pos (code_of cause))

abbrev pub told_of : runs.Outcome → Told
told_of (runs.Step_of pid answer) = step_told pid answer
told_of (runs.Turn pid) = plain 5 pid (pos 0)
told_of runs.Idle = plain 6 0 (pos 0)
told_of runs.Ticked = plain 7 0 (pos 0)
told_of (runs.Typed echo) = record { kind = 8; pid = 0; number = pos 0; shown = length echo; value = pos 0 }
told_of (runs.Sent (Some byte)) = record { kind = 9; pid = 0; number = pos byte; shown = 1; value = pos 0 }
told_of (runs.Sent None) = plain 10 0 (pos 0)
told_of runs.Halted = plain 11 0 (pos 0)

-- what came of the last Run, if it is told
abbrev pub last_told : Option runs.Outcome → Told
last_told None = plain 6 0 (pos 0)
last_told (Some o) = told_of o

-- what a row of Runs came to
abbrev pub runs_told : ℕ → Bool → Option runs.Outcome → RunsTold
runs_told sent met last = record { sent = sent; met = flag met; has_last = flag (is_some last); last = last_told last }

-- a note of the trace; of a key it has the byte
abbrev pub told_of_note : Note → Told
told_of_note (notes.Stepped pid) = plain 0 pid (pos 0)
told_of_note (notes.Called pid number value) = record { kind = 1; pid = pid; number = number; shown = 0; value = value }
told_of_note (notes.Blocked pid number) = plain 2 pid number
told_of_note (notes.Exited pid status) = plain 3 pid status
told_of_note (notes.Faulted pid cause) = plain 4 pid (pos (code_of cause))
told_of_note (notes.Turn pid) = plain 5 pid (pos 0)
told_of_note notes.Idle = plain 6 0 (pos 0)
told_of_note notes.Ticked = plain 7 0 (pos 0)
told_of_note (notes.Typed key echo) = record { kind = 8; pid = 0; number = pos key; shown = echo; value = pos 0 }
told_of_note (notes.Sent (Some byte)) = record { kind = 9; pid = 0; number = pos byte; shown = 1; value = pos 0 }
told_of_note (notes.Sent None) = plain 10 0 (pos 0)
told_of_note notes.Halted = plain 11 0 (pos 0)

-- ---- views

abbrev pub word_told : Option ℕ → Word
word_told None = record { there = 0; value = 0 }
word_told (Some value) = record { there = 1; value = value }

-- a pid, or 0
abbrev pub number_of : Option ℕ → ℕ
number_of None = 0
number_of (Some number) = number

abbrev pub status_or_zero : Option ℤ → ℤ
status_or_zero None = pos 0
status_or_zero (Some status) = status

abbrev pub facts_of : Recorded → Facts
facts_of s = record { at = length s.events; free = s.machine.world.state.free; current = number_of s.machine.world.turns.current; halted = flag (is_some s.machine.world.turns.halted); status = status_or_zero s.machine.world.turns.halted; clock = s.machine.world.state.clock; notes = length s.machine.notes }

-- a register by its number: 0 is the pc, 1 to 31 are x1 to x31
abbrev pub register_of : ℕ → Registers → Option ℕ
register_of number regs = if nat_eq number 0 then Some regs.pc else (if nat_lt number 32 then Some (reg regs number) else None)

abbrev pub register_in : ℕ → Option Registers → Option ℕ
register_in number None = None
register_in number (Some regs) = register_of number regs

-- the address that a step loads from or stores to
abbrev pub address_in : Option NextStep → Option ℕ
address_in None = None
address_in (Some step) = step.address

-- a live process that is in no call
abbrev pub alive : Option ℕ → Bool → Bool → ProcessTold
alive parent marked asleep = record { kind = 1; parent = number_of parent; marked = flag marked; asleep = flag asleep; in_call = 0; number = pos 0; a0 = 0; a1 = 0; a2 = 0; moved = 0; since = 0; status = pos 0 }

abbrev pub with_call : ProcessTold → Option Call → ProcessTold
with_call told None = told
with_call told (Some call) = record told { in_call = 1; number = call.number; a0 = call.a0; a1 = call.a1; a2 = call.a2; moved = call.moved; since = call.clock }

-- one that has ended, or none
abbrev pub gone : ℕ → ℕ → ℤ → ProcessTold
gone kind parent status = record { kind = kind; parent = parent; marked = 0; asleep = 0; in_call = 0; number = pos 0; a0 = 0; a1 = 0; a2 = 0; moved = 0; since = 0; status = status }

abbrev pub process_told : Option ProcessState → ProcessTold
process_told None = gone 0 0 (pos 0)
process_told (Some (state.Live parent marked call asleep)) = with_call (alive parent marked asleep) call
process_told (Some (state.Zombie parent status)) = gone 2 (number_of parent) status

abbrev pub no_descriptor : DescriptorTold
no_descriptor = record { kind = 0; read = 0; write = 0; frame = 0; program = 0; offset = 0 }

abbrev pub end_kind : End → ℕ
end_kind Reading = 3
end_kind Writing = 4

-- what an open file stands for
abbrev pub on_target : DescriptorTold → Target → DescriptorTold
on_target told target.Console = record told { kind = 1 }
on_target told (target.Program program offset) = record told { kind = 2; program = program; offset = offset }
on_target told (target.Pipe frame end) = record told { kind = end_kind end; frame = frame }

abbrev pub descriptor_told : Option Descriptor → DescriptorTold
descriptor_told None = no_descriptor
descriptor_told (Some d) = on_target (record no_descriptor { read = flag d.open_file.read; write = flag d.open_file.write }) d.open_file.target

abbrev pub pipe_told : Option PipeCounts → PipeTold
pipe_told None = record { there = 0; readers = 0; writers = 0; bytes = 0 }
pipe_told (Some counts) = record { there = 1; readers = counts.readers; writers = counts.writers; bytes = counts.bytes }

-- the lowest five bits of the page's entry (RISC-V Privileged ISA, "Sv39: Virtual Address Translation"): V, R, W, X, U
abbrev pub rights_told : Option Rights → ℕ
rights_told None = 0
rights_told (Some rights) = 1 + 2 * flag rights.read + 4 * flag rights.write + 8 * flag rights.execute + 16 * flag rights.user

-- ---- frames

abbrev pub use_of : (kind pid place : ℕ) → UseTold
use_of kind pid place = record { kind = kind; pid = pid; place = place }

-- what a frame is used for
abbrev pub use_told : Option FrameUse → UseTold
use_told None = use_of 0 0 0
use_told (Some Free) = use_of 1 0 0
use_told (Some (Trapframe pid)) = use_of 2 pid 0
use_told (Some (Root pid)) = use_of 3 pid 0
use_told (Some (Upper pid place)) = use_of 4 pid place
use_told (Some (Lower pid place)) = use_of 5 pid place
use_told (Some (Page pid vpn)) = use_of 6 pid vpn
use_told (Some Pipe) = use_of 7 0 0

-- ---- answers

-- why a session didn't do what was asked
abbrev pub answer_of : SessionError → CallAnswer
answer_of errors.Memory = answers.Memory
answer_of errors.Full = answers.Full

-- bytes in a room that they fit, from its first byte on: what is behind them stays; else the room stays as it is
abbrev pub laid : (bytes room : List ℕ) → List ℕ
laid bytes room = if nat_le (length bytes) (length room) then bytes ++ drop (length bytes) room else room
