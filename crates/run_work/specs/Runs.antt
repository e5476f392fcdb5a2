-- What a run with a budget of work comes to, by its exit status. Without a budget it is what a run of `xv_run` comes to, but for the host's memory, which may run out.
use Rattle.std.specs.Prelude.{◌≡◌, ◌≢◌, ◌⊎◌, ℕ, ℤ, pos, ◌≤◌, List, Ok, Option, None, Some, String, map}
use Rattle.std.specs.declared.alloc.Global.{Global}
use Rattle.xk_base.specs.declared.program.Program.{Program}
use Rattle.kernel_spec.specs.runs.First.{first}
use Rattle.kernel_spec.specs.views.State.{ProgramFile, named_file}
use Rattle.program_files.specs.Programs.{AreProgramsIn}
use Rattle.program_files.specs.Statuses.{Devices}
use Rattle.xv_machine.specs.declared.driving.RunPlan.{RunPlan}
use Rattle.xv_machine.specs.declared.machine.Config.{Config}
use Rattle.xv_machine.specs.Devices.{OneFailed}
use Rattle.xv_machine.specs.Drives.{Done, StoppedByRead, StoppedByWrite, StoppedByPlayer}
use Rattle.xv_machine.specs.Meaning.{Meaning}

-- the machine was driven by the plan to its end, and process 1 has gone with this status, or is live
abbrev pub DroveTo : RunPlan → (booted ended : Meaning) → (before after : Devices) → (halted : Option ℤ) → Type 0
DroveTo plan booted ended before after halted =
    Done plan before.source after.source booted ended before.sink after.sink × (ended.world.turns.halted ≡ halted)

-- it was driven up to a key that couldn't be read, and no other call of a device failed
abbrev pub ReadFailed : RunPlan → (booted ended : Meaning) → (before after : Devices) → Type 0
ReadFailed plan booted ended before after =
    StoppedByRead plan before.source after.source booted ended before.sink after.sink
    × OneFailed before.failed_reads after.failed_reads before.failed_writes after.failed_writes

-- it was driven up to an event whose bytes couldn't be written, and no other call of a device failed
abbrev pub WriteFailed : RunPlan → (booted ended : Meaning) → (before after : Devices) → Type 0
WriteFailed plan booted ended before after =
    StoppedByWrite plan before.source after.source booted ended before.sink after.sink
    × OneFailed before.failed_writes after.failed_writes before.failed_reads after.failed_reads

-- the machine was driven by the plan up to some event, and then no further; what the events showed was written, and no device has failed
pub record BrokenOff (plan : RunPlan) (booted ended : Meaning) (before after : Devices) : Type 0 where
  pub stopped : StoppedByPlayer plan before.source after.source booted ended before.sink after.sink
  pub reads : after.failed_reads ≡ before.failed_reads
  pub writes : after.failed_writes ≡ before.failed_writes

-- what the exit status says of a run that led a machine from its boot to where it ended: as `Tells` has it, and 6 that the run was broken off, since its budget was used up
pub record EndsSo (status : ℕ) (plan : RunPlan) (booted ended : Meaning) (before after : Devices) : Type 0 where
  pub exited : status ≡ 0 → DroveTo plan booted ended before after (Some (pos 0))
  pub exited_otherwise : status ≡ 3 → (code : ℤ) × (code ≢ pos 0) × DroveTo plan booted ended before after (Some code)
  pub rounds_over : status ≡ 4 → DroveTo plan booted ended before after None
  pub device_failed : status ≡ 5 → ReadFailed plan booted ended before after ⊎ WriteFailed plan booted ended before after
  pub over : status ≡ 6 → BrokenOff plan booted ended before after
  pub no_other : (status ≡ 0) ⊎ (status ≡ 3) ⊎ (status ≡ 4) ⊎ (status ≡ 5) ⊎ (status ≡ 6)

-- What the exit status says of these programs: any but 2 that a machine in their first world was driven, and where and how that ended. 2 stands for a boot that is refused, and for a host that is out of memory
abbrev pub Says : (status : ℕ) (config : Config) (plan : RunPlan) (programs : List ProgramFile) (before after : Devices) → Type 0
Says status config plan programs before after =
    status ≢ 2 → (booted : Meaning) × (ended : Meaning) × (first config.frames config.trace programs ≡ Ok booted.world) × EndsSo status plan booted ended before after

-- What the exit status says of a run of the FILEs of these paths: any but 2 that their programs were booted and driven so
abbrev pub IsStatusOfRun : (status : ℕ) → Config → RunPlan → (paths : List (String Global)) → Type 0
IsStatusOfRun status config plan paths =
    status ≢ 2 → (programs : List Program) × (before : Devices) × (after : Devices)
    × AreProgramsIn paths programs × Says status config plan (map named_file programs) before after

-- the exit status of a program that runs others with a budget: help was shown or `init` exited with 0, the words are refused, or 2 to 6 as `Says` has them
abbrev pub IsRunStatus : ℕ → Type 0
IsRunStatus status = status ≤ 6
