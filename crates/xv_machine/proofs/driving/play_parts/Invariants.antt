use Rattle.std.proofs.Common.{◌≡◌, take}
use Rattle.xv_machine.specs.RoundParts.{events_of_parts}
use Rattle.xv_machine.specs.Stretches.{Played}
use Rattle.xv_machine.proofs.driving.play_parts.Given as goal

abbrev pub invariant-loop-part : goal.invariant-loop-part
invariant-loop-part g l = record {
  played : Played (events_of_parts (take l.part-index l.parts)) (g.P.RoundPlayer.machine l.fn.player) (g.P.RoundPlayer.machine l.player) (g.W.ByteSink.sink l.fn.sink) (g.W.ByteSink.sink l.sink);
  failures : g.W.ByteSink.failures l.sink ≡ g.W.ByteSink.failures l.fn.sink;
}
