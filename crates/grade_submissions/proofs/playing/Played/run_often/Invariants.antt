use Rattle.std.proofs.Common.{◌+◌, ◌-◌, ◌≤◌, replicate}
use Rattle.kernel_spec.specs.runs.Run.{Run}
use Rattle.grade_submissions.specs.Plays.{PlaysOn}
use Rattle.grade_submissions.proofs.playing.Played.run_often.Given as goal

abbrev pub invariant-runs : goal.invariant-runs
invariant-runs l = record {
  plays : PlaysOn (replicate (l.count - l.left) Run) l.fn.self l.self;
  within : l.left ≤ l.count;
  few : l.self.kept.runs + l.left ≤ l.fn.self.kept.runs + l.count;
}

abbrev pub decreases-runs : goal.decreases-runs
decreases-runs l = l.left
