use Rattle.std.proofs.Common.{◌≡◌, ◌≤◌, ◌-◌}
use Rattle.xv_machine.proofs.Rounds.{Going}
use Rattle.xv_machine.proofs.driving.play_rounds.Given as goal

abbrev pub invariant-rounds : goal.invariant-rounds
invariant-rounds g l = record {
  going : Going l.plan.quantum l.count l.at_end (g.R.KeySource.source l.fn.keys).left (g.R.KeySource.source l.keys).left (g.P.RoundPlayer.machine l.fn.player)
      (g.P.RoundPlayer.machine l.player) (g.W.ByteSink.sink l.fn.sink) (g.W.ByteSink.sink l.sink) (g.R.KeySource.source l.fn.keys).asked (g.R.KeySource.source l.keys).asked;
  halted : l.halted ≡ (g.P.RoundPlayer.machine l.player).world.turns.halted;
  reads : g.R.KeySource.failures l.keys ≡ g.R.KeySource.failures l.fn.keys;
  writes : g.W.ByteSink.failures l.sink ≡ g.W.ByteSink.failures l.fn.sink;
  within : l.count ≤ l.plan.rounds;
}

abbrev pub decreases-rounds : goal.decreases-rounds
decreases-rounds g l = l.plan.rounds - l.count
