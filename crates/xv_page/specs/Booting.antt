-- What the calls leave that boot a session.
use Rattle.std.specs.Prelude.{◌≡◌, ℕ, List, [], ◌∷◌, ◌++◌, map, Option, None, Some, Result, Ok, Err}
use Rattle.std.specs.declared.boxed.Box.{Box}
use Rattle.std.specs.declared.vec.Vec.{Vec}
use Rattle.xk_base.specs.declared.errors.BootError.{BootError}
use Rattle.xk_base.specs.declared.errors.BootError.TheVariants as boot
use Rattle.xk_base.specs.declared.errors.ExecError.{ExecError}
use Rattle.xk_base.specs.declared.errors.ExecError.TheVariants as exec
use Rattle.xk_base.specs.declared.program.Program.{Program}
use Rattle.kernel_spec.specs.runs.First.{first}
use Rattle.kernel_spec.specs.views.State.{ProgramFile, named_file}
use Rattle.xv_machine.specs.Boots.{Boots}
use Rattle.xv_session.specs.Answers.{machine_of, IsNew}
use Rattle.xv_session.specs.Recorded.{Recorded}
use Rattle.xv_page.specs.declared.answers.Answer.{Answer}
use Rattle.xv_page.specs.declared.answers.Answer.TheVariants.{Done, NotBooted, Memory, Full, Unknown}
use Rattle.xv_page.specs.declared.booting.BootTold.{BootTold}

module _ {Z : Type 0} where
  -- the session in the host's place for one
  abbrev pub held : Option (Box Recorded Z) → Option Recorded
  held None = None
  held (Some b) = Some b.value

  -- a session that lies in a box
  abbrev pub boxed : Result (Box Recorded Z) BootError → Result Recorded BootError
  boxed (Ok b) = Ok b.value
  boxed (Err e) = Err e

-- this session lies in the box, or the host has too little memory
abbrev pub IsBoxed : {Z : Type 0} → Recorded → Result (Box Recorded Z) BootError → Type 0
IsBoxed s (Ok b) = b.value ≡ s
IsBoxed s (Err e) = e ≡ boot.Memory

-- the programs of a list, which may not be there yet
abbrev pub files_of : {Y Z : Type 0} → Option (Box (Vec Program Y) Z) → List ProgramFile
files_of None = []
files_of (Some b) = map named_file b.value.items

-- ---- why there is no machine

abbrev pub refusal : (kind cause place : ℕ) → BootTold
refusal kind cause place = record { kind = kind; cause = cause; place = place }

abbrev pub exec_refusal : ExecError → BootTold
exec_refusal exec.NotElf = refusal 5 1 0
exec_refusal exec.TooManyArgs = refusal 5 2 0
exec_refusal exec.ArgsTooLong = refusal 5 3 0
exec_refusal exec.NoFrames = refusal 5 4 0
exec_refusal (exec.BadSegment index) = refusal 5 5 index

abbrev pub boot_told : BootError → BootTold
boot_told boot.BadConfig = refusal 1 0 0
boot_told (boot.BadPrograms index) = refusal 2 0 index
boot_told boot.NoInit = refusal 3 0 0
boot_told boot.Memory = refusal 4 0 0
boot_told (boot.Init cause) = exec_refusal cause

abbrev pub result_told : Result Recorded BootError → BootTold
result_told (Ok s) = refusal 0 0 0
result_told (Err e) = boot_told e

-- ---- what the calls leave

-- a program was put behind those of the list, or the host has too little memory, and the list is as it was
abbrev pub AddedTo : ProgramFile → Answer → (old new : List ProgramFile) → Type 0
AddedTo file Done old new = new ≡ old ++ file ∷ []
AddedTo file Memory old new = new ≡ old
AddedTo file NotBooted old new = ⊥
AddedTo file Full old new = ⊥
AddedTo file Unknown old new = ⊥

-- the session that was just booted takes the place of the old one; which stays if it was refused
abbrev pub Replaces : (frames trace : ℕ) → List ProgramFile → Result Recorded BootError → (old new : Option Recorded) → Type 0
Replaces frames trace programs (Ok s) old new = (new ≡ Some s) × IsNew frames trace programs s
Replaces frames trace programs (Err e) old new = new ≡ old

-- A machine was booted of the programs, or the first refusal came, or the host has too little memory: this is told, and in the first case there is a new session, of no event
pub record IsBooted (frames trace : ℕ) (programs : List ProgramFile) (told : BootTold) (old new : Option Recorded) : Type 0 where
  pub answer : Result Recorded BootError
  pub boots : Boots frames (machine_of answer) (first frames trace programs)
  pub is_told : told ≡ result_told answer
  pub replaces : Replaces frames trace programs answer old new
