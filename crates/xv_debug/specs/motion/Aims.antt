-- What Runs are sent for. `next` waits for the end of an instruction, and of the function or the kernel call that it calls.
use Rattle.std.specs.Prelude.{ℕ, ◌&&◌, ◌||◌, Bool, true, false, nat_eq, nat_le, nat_lt, if◌then◌else◌, Option, None, Some}
use Rattle.rv64i_core.specs.Registers.{Registers, reg, add}
use Rattle.rv64i_core.specs.Table.{decoded}
use Rattle.rv64i_core.specs.declared.instruction.Instr.{Instr}
use Rattle.rv64i_core.specs.declared.instruction.Instr.TheVariants.{Jal, Jalr, Ecall}
use Rattle.kernel_spec.specs.steps.Own.{Answer, Called, Exited, Faulted}
use Rattle.kernel_spec.specs.runs.Run.{World, Outcome, Step_of}
use Rattle.kernel_spec.specs.views.State.{State}
use Rattle.kernel_spec.specs.views.Words.{is_this}
use Rattle.kcall_core.specs.Observers.{registers_of}
use Rattle.xv_machine.specs.Meaning.{Meaning}
use Rattle.xv_session.specs.Looking.{next_step_of}
use Rattle.xv_session.specs.Until as searched
use Rattle.xv_session.specs.Until.{store_awaited}
use Rattle.xv_session.specs.declared.looking.NextStep.{NextStep}
use Rattle.xv_session.specs.declared.until.Condition.TheVariants.{StepOf}
use Rattle.xv_debug.specs.declared.motion.aiming.Aim.{Aim}
use Rattle.xv_debug.specs.declared.motion.aiming.Aim.TheVariants.{Anything, Nothing, On, Answer as Answers, Return, Outside}
use Rattle.xv_debug.specs.declared.motion.aiming.Leads.{Leads}
use Rattle.xv_debug.specs.declared.motion.aiming.Leads.TheVariants.{Kernel, Function, Other}

-- ---- how an instruction leads to the next one

-- a jump that keeps its return address in ra, which is x1, calls a function
abbrev pub jump_leads : (link : ℕ) → Leads
jump_leads link = if nat_eq link 1 then Function else Other

abbrev pub instruction_leads : Instr → Leads
instruction_leads Ecall = Kernel
instruction_leads (Jal rd imm) = jump_leads rd
instruction_leads (Jalr rd rs1 imm) = jump_leads rd
instruction_leads _ = Other

abbrev pub decoded_leads : Option Instr → Leads
decoded_leads None = Other
decoded_leads (Some instr) = instruction_leads instr

abbrev pub word_leads : Option ℕ → Leads
word_leads None = Other
word_leads (Some word) = decoded_leads (decoded word)

-- ---- what is waited for

-- an answer of the kernel; or that the process is back behind its jump, with sp, which is x2, not below what it is now; or its next step
abbrev pub aim_by : Leads → NextStep → Aim
aim_by Kernel step = Answers step.pid
aim_by Function step = Return step.pid (add step.regs.pc 4) (reg step.regs 2)
aim_by Other step = On (StepOf step.pid)

abbrev pub aim_of : NextStep → Aim
aim_of step = aim_by (word_leads step.word) step

abbrev pub aim_at : ℕ → Option NextStep → Aim
aim_at p None = On (StepOf p)
aim_at p (Some step) = aim_of step

abbrev pub aim_with : State → Option ℕ → Aim
aim_with s None = Anything
aim_with s (Some p) = aim_at p (next_step_of s p)

-- of the process that runs; where nobody runs, the next event
abbrev pub aim_in : World → Aim
aim_in w = aim_with w.state w.turns.current

-- ---- which event it is

-- the registers of process p, if it runs
abbrev pub regs_if : (runs : Bool) → State → (p : ℕ) → Option Registers
regs_if true s p = registers_of s p
regs_if false s p = None

abbrev pub is_back : (pc stack : ℕ) → Option Registers → Bool
is_back pc stack None = false
is_back pc stack (Some regs) = nat_eq regs.pc pc && nat_le stack (reg regs 2)

-- process p runs, its next instruction stands at the address, and its stack pointer isn't below this one
abbrev pub has_returned : (p pc stack : ℕ) → World → Bool
has_returned p pc stack w = is_back pc stack (regs_if (is_this p w.turns.current) w.state p)

abbrev pub is_elsewhere : (first last : ℕ) → Option Registers → Bool
is_elsewhere first last None = false
is_elsewhere first last (Some regs) = nat_lt regs.pc first || nat_lt last regs.pc

-- process p runs, and its next instruction stands before the first of these addresses, or after the last
abbrev pub stands_outside : (p first last : ℕ) → World → Bool
stands_outside p first last w = is_elsewhere first last (regs_if (is_this p w.turns.current) w.state p)

abbrev pub is_end : Answer → Bool
is_end (Exited status) = true
is_end (Faulted cause) = true
is_end _ = false

abbrev pub is_answer : Answer → Bool
is_answer (Called number value) = true
is_answer answer = is_end answer

-- process p is gone
abbrev pub ends_of : ℕ → Outcome → Bool
ends_of p (Step_of q answer) = is_end answer && nat_eq q p
ends_of p _ = false

-- the kernel answered process p, or it is gone
abbrev pub is_answer_to : ℕ → Outcome → Bool
is_answer_to p (Step_of q answer) = is_answer answer && nat_eq q p
is_answer_to p _ = false

-- it is a store that is waited for, and the process that runs is about to make it
abbrev pub is_due : Aim → Meaning → Bool
is_due (On condition) m = store_awaited condition m
is_due _ m = false

-- an event of which this came, and which left this machine, is what is waited for; before it that store was the next step, or not
abbrev pub meets_with : Aim → (due : Bool) → Outcome → Meaning → Bool
meets_with Anything due o m = true
meets_with Nothing due o m = false
meets_with (On condition) due o m = searched.meets_with condition due o m
meets_with (Answers pid) due o m = is_answer_to pid o
meets_with (Return pid pc stack) due o m = has_returned pid pc stack m.world || ends_of pid o
meets_with (Outside pid first last) due o m = stands_outside pid first last m.world || ends_of pid o

-- an event of which this came, and which led from the one machine to the other, is what is waited for
abbrev pub meets : Aim → (before : Meaning) → Outcome → (after : Meaning) → Bool
meets aim m o n = meets_with aim (is_due aim m) o n
