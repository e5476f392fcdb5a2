use Rattle.std.proofs.Common.{◌≡◌, take}
use Rattle.xv_live.specs.Plays.{events_of_lines}
use Rattle.recorded_runs.proofs.recording.recording_of.Given as goal

abbrev pub invariant-loop-line : goal.invariant-loop-line
invariant-loop-line l = l.recording ≡ events_of_lines (take l.line-index l.lines)
