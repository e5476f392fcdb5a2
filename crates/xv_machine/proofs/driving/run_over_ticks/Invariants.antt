use Rattle.xv_machine.specs.Stretches.{RanOver}
use Rattle.xv_machine.proofs.driving.run_over_ticks.Given as goal

abbrev pub invariant-loop-passed : goal.invariant-loop-passed
invariant-loop-passed g l = RanOver l.passed l.quantum (g.P.RoundPlayer.machine l.fn.player) (g.P.RoundPlayer.machine l.player)
