-- That a process stands in another line than it does.
use Rattle.std.specs.Prelude.{◌≡◌, ◌≤◌, ℕ, Option, None, Some}
use Rattle.rv64i_core.specs.Registers.{Registers}
use Rattle.kernel_spec.specs.runs.Run.{World}
use Rattle.kcall_core.specs.Observers.{registers_of}
use Rattle.xv_debug.specs.declared.motion.aiming.Aim.{Aim}
use Rattle.xv_debug.specs.declared.motion.aiming.Aim.TheVariants.{Outside}

-- it runs, and stands outside of addresses among which its pc is; which addresses the line has, is not said here
pub record IsLineAim (w : World) (p : ℕ) (aim : Aim) : Type 0 where
  pub regs : Registers
  pub first : ℕ
  pub last : ℕ
  pub has : registers_of w.state p ≡ Some regs
  pub from : first ≤ regs.pc
  pub within : regs.pc ≤ last
  pub is : aim ≡ Outside p first last

-- there is none if there is no process, or if it doesn't live
abbrev pub IsLineOf : (process : Option ℕ) → World → Option Aim → Type 0
IsLineOf None w aim = aim ≡ None
IsLineOf (Some p) w None = registers_of w.state p ≡ None
IsLineOf (Some p) w (Some aim) = IsLineAim w p aim
