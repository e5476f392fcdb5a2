use Rattle.std.proofs.Common.{◌≡◌, ◌-◌, ◌≤◌, replicate}
use Rattle.xv_machine.specs.Events.{event_of}
use Rattle.xv_machine.specs.Stretches.{Played}
use Rattle.recorded_runs.proofs.playing.play_often.Given as goal

abbrev pub invariant-parts : goal.invariant-parts
invariant-parts g l = record {
  within : l.left ≤ l.count;
  played : Played (replicate (l.count - l.left) (event_of l.event)) (g.P.RoundPlayer.machine l.fn.player) (g.P.RoundPlayer.machine l.player) (g.W.ByteSink.sink l.fn.sink) (g.W.ByteSink.sink l.sink);
  failures : g.W.ByteSink.failures l.sink ≡ g.W.ByteSink.failures l.fn.sink;
}

abbrev pub decreases-parts : goal.decreases-parts
decreases-parts g l = l.left
