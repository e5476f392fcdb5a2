-- What GDB is told when the process is gone that it let run alone.
use Rattle.std.specs.Prelude.{◌≡◌, ℕ, ◌+◌, ◌-◌, ◌%◌, ◌^◌, ◌==◌, if◌then◌else◌, List, length, take, Option, None, Some}
use Rattle.std.specs.List.{list_any}
use Rattle.rv64i_core.specs.Registers.{Registers}
use Rattle.kcall_core.specs.Observers.{registers_of}
use Rattle.xv_machine.specs.Meaning.{Meaning}
use Rattle.xv_session.specs.Recorded.{IsPlayed}
use Rattle.gdb_packets.specs.Answers.{no_resumed, stepped_to}
use Rattle.gdb_target.specs.declared.let_run.LetRun.{LetRun}
use Rattle.gdb_target.specs.declared.let_run.LetRun.TheVariants.{All, Alone}
use Rattle.gdb_target.specs.declared.target.Target.{Target}

-- the address behind an instruction of four bytes
abbrev pub address_after : (pc : ℕ) → ℕ
address_after pc = (pc + 4) % 2 ^ 64

-- the address, if it is one of these
abbrev pub if_among : List ℕ → (address : ℕ) → Option ℕ
if_among addresses address = if list_any (λ a. a == address) addresses then Some address else None

-- the address behind the instruction at which a process stood with these registers, if a breakpoint is there
abbrev pub breakpoint_after : (addresses : List ℕ) → Option Registers → Option ℕ
breakpoint_after addresses None = None
breakpoint_after addresses (Some registers) = if_among addresses (address_after registers.pc)

-- Before the last event of the run the process had these registers, or none if it didn't live
pub record HadBefore (t : Target) (p : ℕ) (registers : Option Registers) : Type 0 where
  pub before : Meaning
  pub played : IsPlayed t.run.session.frames t.run.session.trace t.run.session.programs (take (length t.run.session.events - 1) t.run.session.events) before
  pub registers_are : registers ≡ registers_of before.world.state p

-- The breakpoint to which the last event's instruction would have led the process
abbrev pub WouldCome : Target → (p : ℕ) → (address : Option ℕ) → Type 0
WouldCome t p address = (registers : Option Registers) × HadBefore t p registers × (address ≡ breakpoint_after t.points.breakpoints.items registers)

-- it is that of the process that was let run alone, if one was
abbrev pub IsStepOver : LetRun → Target → (address : Option ℕ) → Type 0
IsStepOver All t address = address ≡ None
IsStepOver (Alone p) t address = WouldCome t p address

-- what is told: that the step came to the breakpoint, or else that nobody is let run any more
abbrev pub gone_told : LetRun → (address : Option ℕ) → List ℕ
gone_told let_run None = no_resumed
gone_told All (Some address) = no_resumed
gone_told (Alone p) (Some address) = stepped_to p address
