-- What a run of the program comes to, by its exit status.
use Rattle.std.specs.Prelude.{◌≡◌, ◌≢◌, ◌⊎◌, ℕ, List, Ok, map}
use Rattle.kernel_spec.specs.runs.First.{first}
use Rattle.kernel_spec.specs.views.State.{ProgramFile, named_file}
use Rattle.program_files.specs.Programs.{AreProgramsIn}
use Rattle.program_files.specs.Statuses.{Devices, IsPlainStatus, Tells}
use Rattle.xk_base.specs.declared.program.Program.{Program}
use Rattle.xv_machine.specs.declared.driving.RunPlan.{RunPlan}
use Rattle.xv_machine.specs.declared.machine.Config.{Config}
use Rattle.xv_machine.specs.Meaning.{Meaning}
use Rattle.xv_run.specs.Ranges.{AreInRange}
use Rattle.xv_run.specs.declared.line.Settings.{Settings}

-- What the exit status says of these programs: 2 that nothing was read or written (that a boot succeeds where there is memory is tested); any
-- other one that a machine in their first world was driven, and what Tells says.
pub record Says (status : ℕ) (config : Config) (plan : RunPlan) (programs : List ProgramFile) (before after : Devices) : Type 0 where
  pub refused : status ≡ 2 → after ≡ before
  pub driven : status ≢ 2 → (booted : Meaning) × (first config.frames config.trace programs ≡ Ok booted.world) × Tells status plan booted before after

-- the machine and the rounds that settings ask for
abbrev pub config_of : Settings → Config
config_of s = record { frames = s.frames; trace = s.trace }

abbrev pub plan_of : Settings → RunPlan
plan_of s = record { rounds = s.rounds; quantum = s.quantum }

-- What the exit status says of settings: any but 2 what it says of the programs of their FILEs, on such a machine, in such rounds
abbrev pub IsStatusOf : Settings → (status : ℕ) → Type 0
IsStatusOf s status =
    status ≢ 2 → (programs : List Program) × AreProgramsIn s.files.items programs
    × ((before : Devices) × (after : Devices) × Says status (config_of s) (plan_of s) (map named_file programs) before after)

-- What it says of any words: that they give no settings, or what it says of their settings
abbrev pub IsStatusOfWords : (status : ℕ) → Type 0
IsStatusOfWords status = IsPlainStatus status ⊎ ((s : Settings) × AreInRange s × IsStatusOf s status)
