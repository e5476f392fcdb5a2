use Rattle.xv_machine.specs.Events.{event_of, outcome_of}
use Rattle.xv_session.proofs.LastSteps.{follows-one}
use Rattle.xv_session.proofs.followed.Followed.event.Goals as goal

pub returns-clause-follows : goal.returns-clause-follows
returns-clause-follows c =
    follows-one (event_of c.args.event) (outcome_of c.event-outcome.result) c.args.self.now (record { running = c.event-outcome.new.self; last = c.last_by-self.result })
    c.event-outcome.ensures c.last_by-self.ensures
