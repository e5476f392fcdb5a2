-- What stands at a place of a run.
use Rattle.std.specs.Prelude.{◌≡◌, ℕ, Bool, true, false, not, ◌==◌, ◌&&◌, List, length, Option, None, Some, is_none}
use Rattle.std.specs.List.{list_any}
use Rattle.rv64i_core.specs.Registers.{Registers}
use Rattle.kernel_spec.specs.runs.Run.{Run}
use Rattle.kcall_core.specs.Observers.{process_at, registers_of}
use Rattle.kcall_core.specs.declared.kernel.observers.ProcessState.{ProcessState}
use Rattle.kcall_core.specs.declared.kernel.observers.ProcessState.TheVariants.{Live, Zombie}
use Rattle.xv_session.specs.Names.{place_in}
use Rattle.gdb_target.specs.PlayedBy.{is_run}
use Rattle.gdb_target.specs.Plan.{planned_at}
use Rattle.gdb_target.specs.declared.played.Played.{Played}

-- a process that is what this says does an instruction when it runs: it lives, is in no kernel call, and isn't to be killed
abbrev pub does_instruction : Option ProcessState → Bool
does_instruction None = false
does_instruction (Some (Zombie parent status)) = false
does_instruction (Some (Live parent marked None asleep)) = not marked
does_instruction (Some (Live parent marked (Some call) asleep)) = false

-- The next event of the run is Run
abbrev pub NextIsRun : Played → Type 0
NextIsRun run = planned_at run.plan (length run.session.events) ≡ Run

-- the next event is Run, and the machine hasn't halted
abbrev pub goes_on : Played → Bool
goes_on run = is_run (planned_at run.plan (length run.session.events)) && is_none run.session.machine.world.turns.halted

-- the process does an instruction by the next event, if it runs
abbrev pub begins : Played → (p : ℕ) → Bool
begins run p = goes_on run && does_instruction (process_at run.session.machine.world p)

abbrev pub if_so : Bool → (p : ℕ) → Option ℕ
if_so true p = Some p
if_so false p = None

abbrev pub starter_of : Played → (current : Option ℕ) → Option ℕ
starter_of run None = None
starter_of run (Some p) = if_so (begins run p) p

-- the process that does an instruction by the next event of the run
abbrev pub starter : Played → Option ℕ
starter run = starter_of run run.session.machine.world.turns.current

-- The process does an instruction by the next event of the run
pub record Starts (run : Played) (p : ℕ) : Type 0 where
  pub current : run.session.machine.world.turns.current ≡ Some p
  pub next : NextIsRun run
  pub goes_on : run.session.machine.world.turns.halted ≡ None
  pub instruction : does_instruction (process_at run.session.machine.world p) ≡ true

-- the pc is one of these addresses
abbrev pub is_among : List ℕ → Option Registers → Bool
is_among addresses None = false
is_among addresses (Some registers) = list_any (λ a. a == registers.pc) addresses

-- The process, which runs the program at this place, stands at one of these addresses, and does the instruction there by the next event
pub record StandsAt (run : Played) (program : ℕ) (addresses : List ℕ) (p : ℕ) : Type 0 where
  pub starts : Starts run p
  pub runs : place_in p run.session.names ≡ Some program
  pub at : is_among addresses (registers_of run.session.machine.world.state p) ≡ true

-- it is the place of the program
abbrev pub is_place : (program : ℕ) → Option ℕ → Bool
is_place program None = false
is_place program (Some place) = place == program

-- the process runs the program at this place, and its pc is one of these addresses
abbrev pub stands_at : Played → (program : ℕ) → (addresses : List ℕ) → (p : ℕ) → Bool
stands_at run program addresses p = is_among addresses (registers_of run.session.machine.world.state p) && is_place program (place_in p run.session.names)

abbrev pub stander_of : Played → (program : ℕ) → (addresses : List ℕ) → Option ℕ → Option ℕ
stander_of run program addresses None = None
stander_of run program addresses (Some p) = if_so (stands_at run program addresses p) p

-- the process of the program that stands at one of these addresses, and does the instruction there by the next event
abbrev pub stander : Played → (program : ℕ) → (addresses : List ℕ) → Option ℕ
stander run program addresses = stander_of run program addresses (starter run)
