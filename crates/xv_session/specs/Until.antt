-- What a search among the events of a run waits for, and what it leaves.
use Rattle.std.specs.Prelude.{◌≡◌, ℕ, zero, suc, ◌-◌, ◌≤◌, ◌&&◌, Bool, true, false, nat_eq, nat_le, nat_lt, ℤ, Option, None, Some}
use Rattle.std.specs.Ordering.{int_eq}
use Rattle.rv64i_core.specs.Memory.{bytes_of_width}
use Rattle.rv64i_core.specs.Registers.{Registers}
use Rattle.rv64i_core.specs.Step.{store_width}
use Rattle.rv64i_core.specs.Table.{decoded}
use Rattle.rv64i_core.specs.declared.instruction.Instr.{Instr}
use Rattle.rv64i_core.specs.declared.instruction.Instr.TheVariants.{Store}
use Rattle.kernel_spec.specs.steps.Own.{Stepped, Called, Blocked, Exited, Faulted}
use Rattle.kernel_spec.specs.runs.Run.{World, Run, Outcome, Step_of}
use Rattle.kernel_spec.specs.views.State.{State}
use Rattle.kernel_spec.specs.views.Words.{is_this}
use Rattle.kcall_core.specs.Observers.{process_at, registers_of}
use Rattle.kcall_core.specs.declared.kernel.observers.ProcessState.{ProcessState}
use Rattle.kcall_core.specs.declared.kernel.observers.ProcessState.TheVariants.{Live}
use Rattle.xv_machine.specs.Meaning.{Meaning}
use Rattle.xv_session.specs.Looking.{next_step_of}
use Rattle.xv_session.specs.Steps.{Advances}
use Rattle.xv_session.specs.declared.until.Condition.{Condition}
use Rattle.xv_session.specs.declared.until.Condition.TheVariants.{StepOf, Call, At, Fault, Exit, StoreTo}
use Rattle.xv_session.specs.declared.looking.NextStep.{NextStep}
use Rattle.xv_session.specs.declared.running.Running.{Running}

-- process p made a step
abbrev pub makes_step : ℕ → Outcome → Bool
makes_step p (Step_of q answer) = nat_eq q p
makes_step p _ = false

-- a step of the kernel call of this number was made
abbrev pub is_on_call : ℤ → Outcome → Bool
is_on_call n (Step_of p (Called number value)) = int_eq number n
is_on_call n (Step_of p (Blocked number)) = int_eq number n
is_on_call n _ = false

-- an instruction could not be done
abbrev pub faults : Outcome → Bool
faults (Step_of p (Faulted cause)) = true
faults _ = false

-- a process is gone
abbrev pub ends : Outcome → Bool
ends (Step_of p (Exited status)) = true
ends (Step_of p (Faulted cause)) = true
ends _ = false

abbrev pub pc_is : ℕ → Option Registers → Bool
pc_is pc None = false
pc_is pc (Some regs) = nat_eq regs.pc pc

-- a process of which this is told lives, and is in no kernel call
abbrev pub is_outside_calls : Option ProcessState → Bool
is_outside_calls (Some (Live parent marked None asleep)) = true
is_outside_calls _ = false

-- process p stands before the instruction at this address: its pc is there, and it is in no kernel call, whose answer it hasn't got yet
abbrev pub is_before : (pc : ℕ) → World → (p : ℕ) → Bool
is_before pc w p = pc_is pc (registers_of w.state p) && is_outside_calls (process_at w p)

-- process p runs, and stands before the instruction at this address
abbrev pub stands_at : (p pc : ℕ) → World → Bool
stands_at p pc w = is_this p w.turns.current && is_before pc w p

-- an instruction was done
abbrev pub is_done : Outcome → Bool
is_done (Step_of p Stepped) = true
is_done _ = false

-- ---- a store to an address

abbrev pub instruction_in : Option ℕ → Option Instr
instruction_in None = None
instruction_in (Some word) = decoded word

-- the instruction is a store, and one of the bytes that it puts, from its own address on, lies at this one
abbrev pub puts_at : (address : ℕ) → Option Instr → (own : Option ℕ) → Bool
puts_at address (Some (Store op s t imm)) (Some own) = nat_le own address && nat_lt (address - own) (bytes_of_width (store_width op))
puts_at address _ _ = false

abbrev pub storing_by : (address : ℕ) → Option NextStep → Bool
storing_by address None = false
storing_by address (Some step) = puts_at address (instruction_in step.word) step.address

abbrev pub storing_in : (address : ℕ) → State → Option ℕ → Bool
storing_in address s None = false
storing_in address s (Some p) = storing_by address (next_step_of s p)

-- the process that runs is about to store to the address
abbrev pub is_storing : (address : ℕ) → World → Bool
is_storing address w = storing_in address w.state w.turns.current

-- ---- what is waited for

-- it is a store that is waited for, and the process that runs is about to make it
abbrev pub store_awaited : Condition → Meaning → Bool
store_awaited (StoreTo address) m = is_storing address m.world
store_awaited _ m = false

-- the event of which this came, and which left this machine, is what is waited for; before it that store was the next step, or not
abbrev pub meets_with : Condition → (stores : Bool) → Outcome → Meaning → Bool
meets_with (StepOf pid) stores o m = makes_step pid o
meets_with (Call number) stores o m = is_on_call number o
meets_with (At pid pc) stores o m = stands_at pid pc m.world
meets_with Fault stores o m = faults o
meets_with Exit stores o m = ends o
meets_with (StoreTo address) stores o m = stores && is_done o

-- the event of which this came, and which led from the one machine to the other, is what is waited for
abbrev pub meets : Condition → (before : Meaning) → Outcome → (after : Meaning) → Bool
meets c m o n = meets_with c (store_awaited c m) o n

-- so many Runs were sent, one by one, and none of them was what is waited for
abbrev pub Unmet : Condition → ℕ → Running → Running → Type 0
Unmet c zero old new = new ≡ old
Unmet c (suc n) old new = (mid : Running) × (o : Outcome) × Unmet c n old mid × Advances mid Run o new × (meets c mid.machine o new.machine ≡ false)

-- So many Runs were sent, `most` at most: the last was the first that is what is waited for, or none was, and all were sent; and this came of the last
abbrev pub Searched : Condition → (most : ℕ) → (met : Bool) → (last : Option Outcome) → (old new : Running) → (sent : ℕ) → Type 0
Searched c most met last old new zero = (most ≡ 0) × (met ≡ false) × (last ≡ None) × (new ≡ old)
Searched c most met last old new (suc n) =
    (mid : Running) × (o : Outcome) × Unmet c n old mid × Advances mid Run o new × (meets c mid.machine o new.machine ≡ met) × (last ≡ Some o) × (suc n ≤ most) × (met ≡ false → suc n ≡ most)
