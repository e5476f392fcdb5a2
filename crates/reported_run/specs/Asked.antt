-- What the words of a command line ask for, and what the exit status says of it.
use Rattle.std.specs.Prelude.{◌⊎◌, ℕ}
use Rattle.program_files.specs.Statuses.{IsPlainStatus}
use Rattle.recorded_runs.specs.Statuses.{IsAskedStatus, IsStatusOfReplay}
use Rattle.run_work.specs.Runs.{IsStatusOfRun}
use Rattle.xv_machine.specs.declared.driving.RunPlan.{RunPlan}
use Rattle.xv_machine.specs.declared.machine.Config.{Config}
use Rattle.reported_run.specs.Ranges.{AreInRange}
use Rattle.reported_run.specs.declared.line.Settings.{Settings}

abbrev pub config_of : Settings → Config
config_of s = record { frames = s.frames; trace = s.trace }

abbrev pub plan_of : Settings → RunPlan
plan_of s = record { rounds = s.rounds; quantum = s.quantum }

-- What the exit status says of the settings: what it says of the record that they name, or of a run of their FILEs if they name none
abbrev pub IsStatusOf : Settings → (status : ℕ) → Type 0
IsStatusOf s status =
    IsAskedStatus s.replay status (IsStatusOfRun status (config_of s) (plan_of s) s.files.items) (λ asked. IsStatusOfReplay status s.trace asked s.files.items)

-- What it says of any words: that they give no settings, or what it says of their settings
abbrev pub IsStatusOfWords : (status : ℕ) → Type 0
IsStatusOfWords status = IsPlainStatus status ⊎ ((s : Settings) × AreInRange s × IsStatusOf s status)
