-- What a run comes to that was recorded and is played, and what its exit status says.
use Rattle.std.specs.Prelude.{◌≡◌, ◌≢◌, ◌⊎◌, ℕ, ℤ, pos, List, Option, None, Some, Result, Ok, Err}
use Rattle.kernel_spec.specs.runs.First.{first}
use Rattle.kernel_spec.specs.runs.Run.{Event}
use Rattle.kernel_spec.specs.views.State.{ProgramFile}
use Rattle.program_files.specs.Statuses.{exit_status}
use Rattle.xv_machine.specs.declared.devices.DeviceFault.{DeviceFault}
use Rattle.xv_machine.specs.Devices.{Sink, one_more}
use Rattle.xv_machine.specs.Meaning.{Meaning}
use Rattle.xv_machine.specs.Stretches.{BrokeOff, Played, PlayedFirst}
use Rattle.recorded_runs.specs.declared.ending.RecordEnd.{RecordEnd}
use Rattle.recorded_runs.specs.declared.ending.RecordEnd.TheVariants.{Halted, Over}

-- process 1 has gone with the status that is told, or is live
abbrev pub IsEndOf : RecordEnd → Meaning → Type 0
IsEndOf (Halted status) m = m.world.turns.halted ≡ Some status
IsEndOf Over m = m.world.turns.halted ≡ None

-- the exit status if a record's end is this, or if what its events show couldn't be written
abbrev pub status_of : Result RecordEnd DeviceFault → ℕ
status_of (Ok (Halted status)) = exit_status status
status_of (Ok Over) = 4
status_of (Err fault) = 5

-- one more call failed, if bytes couldn't be written, and else none
abbrev pub CountsFailure : Result RecordEnd DeviceFault → (failed failed_after : ℕ) → Type 0
CountsFailure (Ok end) failed failed_after = failed_after ≡ failed
CountsFailure (Err fault) failed failed_after = failed_after ≡ one_more failed

-- what a sink tells of itself, and how many of its calls have failed
pub record Screen : Type 0 where
  pub sink : Sink
  pub failed_writes : ℕ

-- the machine got just these events, in order, what they show was written, and process 1 has gone with this status, or is live
abbrev pub Replayed : List Event → (booted ended : Meaning) → (before after : Screen) → (halted : Option ℤ) → Type 0
Replayed events booted ended before after halted = Played events booted ended before.sink after.sink × (ended.world.turns.halted ≡ halted)

-- the machine got the first of these events, up to one whose bytes couldn't be written
abbrev pub Unwritten : List Event → (booted ended : Meaning) → (before after : Screen) → Type 0
Unwritten events booted ended before after = BrokeOff events booted ended before.sink after.sink × (after.failed_writes ≡ one_more before.failed_writes)

-- the machine got the first of these events, and no others; what they show was written
abbrev pub Stopped : List Event → (booted ended : Meaning) → (before after : Screen) → Type 0
Stopped events booted ended before after = PlayedFirst events booted ended before.sink after.sink × (after.failed_writes ≡ before.failed_writes)

-- what the exit status says of a machine that was to get these events, from its boot to where it ended
pub record TellsReplay (status : ℕ) (events : List Event) (booted ended : Meaning) (before after : Screen) : Type 0 where
  pub exited : status ≡ 0 → Replayed events booted ended before after (Some (pos 0))
  pub exited_otherwise : status ≡ 3 → (code : ℤ) × (code ≢ pos 0) × Replayed events booted ended before after (Some code)
  pub record_over : status ≡ 4 → Replayed events booted ended before after None
  pub unwritten : status ≡ 5 → Unwritten events booted ended before after
  pub over_budget : status ≡ 6 → Stopped events booted ended before after
  pub no_other : (status ≡ 0) ⊎ (status ≡ 3) ⊎ (status ≡ 4) ⊎ (status ≡ 5) ⊎ (status ≡ 6)

-- What the exit status says of these programs and events: any but 2 that a machine in their first world got the events so, and where it ended. 2 stands for a boot that is refused, and for a host that is out of memory
abbrev pub SaysReplay : (status : ℕ) (frames trace : ℕ) → List ProgramFile → List Event → (before after : Screen) → Type 0
SaysReplay status frames trace programs events before after =
    status ≢ 2 → (booted : Meaning) × (ended : Meaning) × (first frames trace programs ≡ Ok booted.world) × TellsReplay status events booted ended before after
