-- What the exit status of a run tells.
use Rattle.std.specs.Prelude.{◌≡◌, ◌≢◌, ◌⊎◌, ℕ, zero, suc, ℤ, pos, negsuc, Option, None, Some, Result, Ok, Err}
use Rattle.xv_machine.specs.declared.driving.DriveEnd.{DriveEnd}
use Rattle.xv_machine.specs.declared.driving.DriveEnd.TheVariants.{Halted, RoundsOver}
use Rattle.xv_machine.specs.declared.driving.DriveError.{DriveError}
use Rattle.xv_machine.specs.declared.driving.RunPlan.{RunPlan}
use Rattle.xv_machine.specs.Devices.{Source, Sink, OneFailed}
use Rattle.xv_machine.specs.Drives.{Done}
use Rattle.xv_machine.specs.Meaning.{Meaning}

-- the exit status if init went with this status
abbrev pub exit_status : ℤ → ℕ
exit_status (pos zero) = 0
exit_status (pos (suc status)) = 3
exit_status (negsuc status) = 3

-- the exit status if the drive ended so
abbrev pub status_of : Result DriveEnd DriveError → ℕ
status_of (Ok (Halted status)) = exit_status status
status_of (Ok RoundsOver) = 4
status_of (Err e) = 5

-- the exit status if words give no settings: help was shown, or they are refused, or help couldn't be written
abbrev pub IsWordsStatus : ℕ → Type 0
IsWordsStatus status = (status ≡ 0) ⊎ (status ≡ 1) ⊎ (status ≡ 5)

-- the exit status of a program that doesn't tell by it how a run ended: it is done, the words are refused, what they name is refused, or a device failed
abbrev pub IsPlainStatus : ℕ → Type 0
IsPlainStatus status = (status ≡ 0) ⊎ (status ≡ 1) ⊎ (status ≡ 2) ⊎ (status ≡ 5)

-- what a source and a sink tell of themselves, and how many of their calls have failed
pub record Devices : Type 0 where
  pub source : Source
  pub failed_reads : ℕ
  pub sink : Sink
  pub failed_writes : ℕ

-- the machine was driven by the plan to its end, and process 1 has gone with this status, or is live
abbrev pub Drove : RunPlan → Meaning → (before after : Devices) → (halted : Option ℤ) → Type 0
Drove plan booted before after halted =
    (ended : Meaning) × Done plan before.source after.source booted ended before.sink after.sink × (ended.world.turns.halted ≡ halted)

-- what the exit status says of a machine that has booted, and was driven
pub record Tells (status : ℕ) (plan : RunPlan) (booted : Meaning) (before after : Devices) : Type 0 where
  pub exited : status ≡ 0 → Drove plan booted before after (Some (pos 0))
  pub exited_otherwise : status ≡ 3 → (code : ℤ) × (code ≢ pos 0) × Drove plan booted before after (Some code)
  pub rounds_over : status ≡ 4 → Drove plan booted before after None
  pub device_failed : status ≡ 5
      → OneFailed before.failed_reads after.failed_reads before.failed_writes after.failed_writes
      ⊎ OneFailed before.failed_writes after.failed_writes before.failed_reads after.failed_reads
  pub no_other : (status ≡ 0) ⊎ (status ≡ 3) ⊎ (status ≡ 4) ⊎ (status ≡ 5)
