-- A run whose lines were handed on, and where it ended.
use Rattle.std.specs.Prelude.{◌≡◌, ◌≢◌, ℕ, Bool, true, List, Ok, Option}
use Rattle.kernel_spec.specs.runs.First.{first}
use Rattle.kernel_spec.specs.runs.Run.{Event}
use Rattle.kernel_spec.specs.views.State.{ProgramFile}
use Rattle.program_files.specs.Statuses.{Devices}
use Rattle.recorded_runs.specs.Replays.{Screen, TellsReplay}
use Rattle.run_work.specs.Runs.{EndsSo}
use Rattle.xv_machine.specs.declared.driving.RunPlan.{RunPlan}
use Rattle.xv_machine.specs.declared.machine.Config.{Config}
use Rattle.xv_machine.specs.Meaning.{Meaning}
use Rattle.xv_session.specs.declared.running.Running.{Running}
use Rattle.explained_run.specs.Handed.{Holds}
use Rattle.explained_run.specs.Told.{IsTold}
use Rattle.explained_run.specs.declared.choice.Choice.{Choice}
use Rattle.explained_run.specs.declared.counts.Count.{Count}

-- A machine was booted, and events have led it to this one. Just what is told of these events, of the lines that are asked for, was handed on; and the rows tally what is done by the same events, if there was memory for them
pub record HandsOn (choice : Choice) (ended : Meaning) (handed : Option (List ℕ)) : Type 0 where
  pub running : Running
  pub stands : running.machine ≡ ended
  pub at : ℕ
  pub text : List ℕ
  pub counted : Bool
  pub counts : List Count
  pub told : ∥ IsTold choice running at true text counted counts ∥₁
  pub held : ∥ Holds handed text ∥₁

-- how a run by the plan ended, of a machine that has booted, and what was handed on of it up to there
abbrev pub RunTold : Choice → (status : ℕ) → RunPlan → (booted ended : Meaning) → (before after : Devices) → (handed : Option (List ℕ)) → Type 0
RunTold choice status plan booted ended before after handed = EndsSo status plan booted ended before after × HandsOn choice ended handed

-- and so of a record's events
abbrev pub ReplayTold : Choice → (status : ℕ) → List Event → (booted ended : Meaning) → (before after : Screen) → (handed : Option (List ℕ)) → Type 0
ReplayTold choice status events booted ended before after handed = TellsReplay status events booted ended before after × HandsOn choice ended handed

-- What the exit status says of these programs: any but 2 that a machine in their first world was driven, where and how that ended, and that what is told of it up to there was handed on, of the lines that are asked for
abbrev pub SaysTold : Choice → (status : ℕ) → Config → RunPlan → List ProgramFile → (before after : Devices) → (handed : Option (List ℕ)) → Type 0
SaysTold choice status config plan programs before after handed =
    status ≢ 2 → (booted : Meaning) × (ended : Meaning) × (first config.frames config.trace programs ≡ Ok booted.world) × RunTold choice status plan booted ended before after handed

-- and of a record's events
abbrev pub SaysReplayTold : Choice → (status : ℕ) → (frames trace : ℕ) → List ProgramFile → List Event → (before after : Screen) → (handed : Option (List ℕ)) → Type 0
SaysReplayTold choice status frames trace programs events before after handed =
    status ≢ 2 → (booted : Meaning) × (ended : Meaning) × (first frames trace programs ≡ Ok booted.world) × ReplayTold choice status events booted ended before after handed
