use Rattle.std.proofs.Common.{◌≡◌, replicate}
use Rattle.kernel_spec.specs.runs.Run.{Key}
use Rattle.xv_machine.specs.Stretches.{Played}
use Rattle.xv_machine.proofs.driving.type_often.Given as goal

abbrev pub invariant-loop-typed : goal.invariant-loop-typed
invariant-loop-typed g l = record {
  played : Played (replicate l.typed (Key l.byte)) (g.P.RoundPlayer.machine l.fn.player) (g.P.RoundPlayer.machine l.player) (g.W.ByteSink.sink l.fn.sink) (g.W.ByteSink.sink l.sink);
  failures : g.W.ByteSink.failures l.sink ≡ g.W.ByteSink.failures l.fn.sink;
}
