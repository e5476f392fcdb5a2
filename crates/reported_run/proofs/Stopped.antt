-- How a run ends that is broken off.
use Rattle.std.proofs.Common.{◌≡◌, List, refl}
use Rattle.std.specs.Prelude.{◌≢◌}
use Rattle.kernel_spec.specs.runs.Run.{Event}
use Rattle.program_files.specs.Statuses.{Devices}
use Rattle.run_work.specs.Runs.{BrokenOff, EndsSo}
use Rattle.run_work.proofs.Ended.{ended-over}
use Rattle.xv_machine.specs.declared.driving.RunPlan.{RunPlan}
use Rattle.xv_machine.specs.Meaning.{Meaning}
use Rattle.xv_machine.specs.Stretches.{PlayedFirst}
use Rattle.recorded_runs.specs.Replays.{Screen, TellsReplay}
use Rattle.recorded_runs.proofs.Ends.{tells-stopped}
use Rattle.reported_run.specs.Stops.{stop_status}
use Rattle.reported_run.specs.declared.stop.Stop.{Stop}
use Rattle.reported_run.specs.declared.stop.Stop.TheVariants.{Session, OverBudget}

pub stopped : (stop : Stop) (plan : RunPlan) (booted ended : Meaning) (before after : Devices) → BrokenOff plan booted ended before after
    → stop_status stop ≢ 2 → EndsSo (stop_status stop) plan booted ended before after
stopped (Session error) plan booted ended before after broken other = absurd (other refl)
stopped OverBudget plan booted ended before after broken other = ended-over plan booted ended before after broken

-- a record that is broken off
pub stopped-replay : (stop : Stop) (events : List Event) (booted ended : Meaning) (before after : Screen) → PlayedFirst events booted ended before.sink after.sink
    → after.failed_writes ≡ before.failed_writes → stop_status stop ≢ 2 → TellsReplay (stop_status stop) events booted ended before after
stopped-replay (Session error) events booted ended before after first none other = absurd (other refl)
stopped-replay OverBudget events booted ended before after first none other = tells-stopped events booted ended before after first none
