use Rattle.std.proofs.Common.{◌≡◌, ◌-◌, length, take}
use Rattle.xv_live.specs.Plays.{events_of_lines}
use Rattle.recorded_runs.proofs.cutting.first_lines.Given as goal

abbrev pub invariant-loop-line : goal.invariant-loop-line
invariant-loop-line l = record {
  lines : events_of_lines l.first.items ≡ take l.most (events_of_lines (take l.line-index l.lines));
  left : l.left ≡ l.most - length (events_of_lines (take l.line-index l.lines));
}
