use Rattle.kernel_spec.specs.runs.Run.{Run}
use Rattle.xv_machine.specs.Events.{outcome_of}
use Rattle.xv_session.proofs.LastSteps.{follows-one}
use Rattle.xv_session.proofs.followed.Followed.run_once.Goals as goal

pub returns-clause-follows : goal.returns-clause-follows
returns-clause-follows c =
    follows-one Run (outcome_of c.run_once-outcome.result) c.args.self.now (record { running = c.run_once-outcome.new.self; last = c.last_by-self.result })
    c.run_once-outcome.ensures c.last_by-self.ensures
