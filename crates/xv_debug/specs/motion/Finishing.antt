-- Where the end of a function is.
use Rattle.std.specs.Prelude.{◌≡◌, ◌⊎◌, ℕ, ⊤, Option, None, Some, slice_get}
use Rattle.rv64i_core.specs.Registers.{Registers, reg}
use Rattle.xv_report.specs.Locations.{IsSourceOf}
use Rattle.xv_report.specs.Reports.{AreCallsOf}
use Rattle.xv_report.specs.Unwound.{frames_known}
use Rattle.xv_report.specs.declared.callers.Callers.{Callers}
use Rattle.xv_report.specs.declared.sources.ProgramSource.{ProgramSource}
use Rattle.xv_report.specs.declared.sources.Sources.{Sources}
use Rattle.xv_report.specs.declared.unwinding.Calls.{Calls}
use Rattle.xv_report.specs.declared.unwinding.Calls.TheVariants.{Known, FromRa, Guessed}
use Rattle.xv_session.specs.Names.{place_in}
use Rattle.xv_session.specs.Recorded.{Recorded}
use Rattle.kcall_core.specs.Observers.{registers_of}
use Rattle.xv_debug.specs.declared.motion.aiming.Aim.{Aim}
use Rattle.xv_debug.specs.declared.motion.aiming.Aim.TheVariants.{Return}

-- of calls that are guessed, the address in ra, or the one that the last frame tells
abbrev pub IsReturnGuessed : Callers → Option ℕ → Type 0
IsReturnGuessed callers None = ⊤
IsReturnGuessed callers (Some address) = (callers.ra ≡ Some address) ⊎ (slice_get callers.frames.items 0 ≡ Some address)

-- the address to which the last call returns
abbrev pub IsReturnTold : Calls → Option ℕ → Type 0
IsReturnTold (Known addresses) address = address ≡ slice_get addresses.items 0
IsReturnTold (FromRa addresses) address = address ≡ slice_get addresses.items 0
IsReturnTold (Guessed callers) address = IsReturnGuessed callers address

-- a process is back at an address, with its stack pointer, x2, not below what it is now
abbrev pub return_aim : (p : ℕ) → Registers → (address : ℕ) → Aim
return_aim p regs address = Return p address (reg regs 2)

-- The process that runs is back at the address to which its function returns: by the table of call frames of its program, of what is known of the sources of all, or else by a guess
pub record IsFinishAim (known : Option Sources) (s : Recorded) (aim : Aim) : Type 0 where
  pub pid : ℕ
  pub regs : Registers
  pub source : ProgramSource
  pub calls : Calls
  pub address : ℕ
  pub runs : s.machine.world.turns.current ≡ Some pid
  pub has : registers_of s.machine.world.state pid ≡ Some regs
  pub of : IsSourceOf known s.machine.world.state.programs (place_in pid s.names) source
  pub called : AreCallsOf (frames_known source.symbols.now) s.machine.world.state pid calls
  pub told : IsReturnTold calls (Some address)
  pub is : aim ≡ return_aim pid regs address
