use Rattle.std.proofs.Common.{◌*◌, ◌≤◌}
use Rattle.grade_submissions.proofs.Planning.{HasPlayed}
use Rattle.grade_submissions.proofs.playing.play.Given as goal

abbrev pub invariant-loop-round : goal.invariant-loop-round
invariant-loop-round l = record {
  played : HasPlayed l.plan l.keys l.round l.initial.played l.played;
  few : l.played.kept.runs ≤ l.round * l.plan.quantum;
}
