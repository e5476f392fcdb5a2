use Rattle.xv_machine.specs.Events.{outcome_of}
use Rattle.reported_run.proofs.Stretches.{send-made}
use Rattle.reported_run.proofs.watching.WatchedRoundPlayer.play_sends.Goals as goal

pub returns-clause-made : goal.returns-clause-made
returns-clause-made g c =
    send-made (outcome_of c.in_ok-outcome.outcome) c.byte_of.result c.args.self.now.session.machine c.send.new.self.session.machine c.in_ok-outcome.ensures.sent c.byte_of.ensures
