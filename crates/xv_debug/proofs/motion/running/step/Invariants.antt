use Rattle.std.proofs.Common.{◌-◌, ◌≤◌, option_map}
use Rattle.xv_machine.specs.Events.{outcome_of}
use Rattle.xv_debug.specs.motion.Ran.{Ran}
use Rattle.xv_debug.proofs.motion.running.step.Given as goal

abbrev pub invariant-runs : goal.invariant-runs
invariant-runs g l = (l.sent ≤ l.count) × Ran l.sent (option_map outcome_of l.last) l.fn.session l.session

abbrev pub decreases-runs : goal.decreases-runs
decreases-runs g l = l.count - l.sent
