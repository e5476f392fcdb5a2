-- What is told of the step that a process is about to make, and of a fault.
use Rattle.std.specs.Prelude.{◌≡◌, ℕ, ◌+◌, ◌*◌, Option, None, Some, option_map}
use Rattle.rv64i_core.specs.Registers.{Registers}
use Rattle.rv64i_core.specs.Step.{data_address_of}
use Rattle.rv64i_core.specs.Table.{decoded}
use Rattle.kernel_spec.specs.steps.Own.{Answer, Stepped, Called, Blocked, Exited, Faulted}
use Rattle.kernel_spec.specs.runs.Run.{Run, Outcome, Step_of}
use Rattle.kernel_spec.specs.views.State.{State}
use Rattle.kcall_core.specs.Observers.{registers_of, byte_at}
use Rattle.xv_machine.specs.Meaning.{Meaning}
use Rattle.xv_machine.specs.Reached.{IsEvent}
use Rattle.xv_session.specs.declared.looking.NextStep.{NextStep}
use Rattle.xv_session.specs.declared.looking.Fault.{Fault}

-- four bytes as a number, the first of which is the lowest
abbrev pub word_of : Option ℕ → Option ℕ → Option ℕ → Option ℕ → Option ℕ
word_of (Some a) (Some b) (Some c) (Some d) = Some (a + 256 * (b + 256 * (c + 256 * d)))
word_of _ _ _ _ = None

-- the four bytes at an address of a live process, whatever their pages allow; none where one isn't there
abbrev pub word_at : State → ℕ → ℕ → Option ℕ
word_at s p address = word_of (byte_at s p address) (byte_at s p (address + 1)) (byte_at s p (address + 2)) (byte_at s p (address + 3))

-- the address that the instruction of a word loads from or stores to
abbrev pub address_of : Registers → Option ℕ → Option ℕ
address_of regs None = None
address_of regs (Some word) = data_address_of regs (decoded word)

abbrev pub step_with : State → ℕ → Registers → NextStep
step_with s p regs = record { pid = p; regs = regs; word = word_at s p regs.pc; address = address_of regs (word_at s p regs.pc) }

-- the step that process p is about to make; none where it isn't live
abbrev pub next_step_of : State → ℕ → Option NextStep
next_step_of s p = option_map (step_with s p) (registers_of s p)

-- of the state before it, a step that faulted
abbrev pub fault_by : State → ℕ → Answer → Option Fault
fault_by s p (Faulted cause) = option_map (λ (step : NextStep). record { step = step; cause = cause }) (next_step_of s p)
fault_by s p Stepped = None
fault_by s p (Called number value) = None
fault_by s p (Blocked number) = None
fault_by s p (Exited status) = None

abbrev pub fault_of : State → Outcome → Option Fault
fault_of s (Step_of p answer) = fault_by s p answer
fault_of s _ = None

-- the step of the process that runs, of the machine before it
abbrev pub fault_in : Meaning → Outcome → Option Fault
fault_in m o = fault_of m.world.state o

-- The machine was sent a Run, and where a fault came of it, it is told, of the machine as it was before
abbrev pub FaultTold : Option Fault → Meaning → Meaning → Type 0
FaultTold told old new = (o : Outcome) × IsEvent old Run o new × (told ≡ fault_in old o)
