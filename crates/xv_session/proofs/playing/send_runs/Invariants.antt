use Rattle.std.proofs.Common.{◌-◌, ◌≤◌, replicate}
use Rattle.kernel_spec.specs.runs.Run as runs
use Rattle.xv_session.specs.Follows.{Follows}
use Rattle.xv_session.proofs.playing.send_runs.Given as goal

abbrev pub invariant-runs : goal.invariant-runs
invariant-runs g l = (l.left ≤ l.count) × Follows (replicate (l.count - l.left) runs.Run) l.fn.followed l.followed

abbrev pub decreases-runs : goal.decreases-runs
decreases-runs g l = l.left
