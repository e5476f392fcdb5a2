use Rattle.std.proofs.Common.{◌≡◌, take}
use Rattle.xv_live.specs.Plays.{events_of_lines}
use Rattle.xv_machine.specs.Stretches.{Played}
use Rattle.recorded_runs.proofs.playing.play_lines.Given as goal

abbrev pub invariant-loop-line : goal.invariant-loop-line
invariant-loop-line g l = record {
  played : Played (events_of_lines (take l.line-index l.lines)) (g.P.RoundPlayer.machine l.fn.player) (g.P.RoundPlayer.machine l.player) (g.W.ByteSink.sink l.fn.sink) (g.W.ByteSink.sink l.sink);
  failures : g.W.ByteSink.failures l.sink ≡ g.W.ByteSink.failures l.fn.sink;
}
