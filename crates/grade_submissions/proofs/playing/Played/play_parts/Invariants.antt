use Rattle.std.proofs.Common.{◌+◌, ◌≤◌, take}
use Rattle.xv_machine.specs.RoundParts.{events_of_parts}
use Rattle.grade_submissions.specs.Plays.{PlaysFirst, runs_among}
use Rattle.grade_submissions.proofs.playing.Played.play_parts.Given as goal

abbrev pub invariant-loop-part : goal.invariant-loop-part
invariant-loop-part l = record {
  plays : PlaysFirst (events_of_parts (take l.part-index l.parts)) l.fn.self l.self;
  few : l.self.kept.runs ≤ l.fn.self.kept.runs + runs_among (events_of_parts (take l.part-index l.parts));
}
