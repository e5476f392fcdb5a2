use Rattle.xv_machine.specs.Events.{outcome_of}
use Rattle.reported_run.proofs.watching.WatchedRoundPlayer.play_tick.Goals as goal

pub returns-clause-ticked : goal.returns-clause-ticked
returns-clause-ticked g c = (outcome_of c.in_ok-send.outcome, c.in_ok-send.ensures.sent)
