use Rattle.std.proofs.Common.{◌≡◌, replicate}
use Rattle.xv_machine.specs.Events.{event_of}
use Rattle.grade_submissions.specs.Plays.{PlaysOn}
use Rattle.grade_submissions.proofs.playing.Played.show_often.Given as goal

abbrev pub invariant-loop-sent : goal.invariant-loop-sent
invariant-loop-sent l = record {
  plays : PlaysOn (replicate l.sent (event_of l.event)) l.fn.self l.self;
  same : l.self.kept.runs ≡ l.fn.self.kept.runs;
}
