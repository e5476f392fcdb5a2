use Rattle.std.proofs.Common.{◌∙◌, ap, sym}
use Rattle.program_files.specs.Failures.{failure_status}
use Rattle.program_files.proofs.Failures.{failure_status-session}
use Rattle.reported_run.specs.Stops.{stop_status}
use Rattle.reported_run.proofs.teller.Teller.say_stop.Goals as goal

pub returns-in-Session-clause-status : goal.returns-in-Session-clause-status
returns-in-Session-clause-status g c = c.say_failure.ensures.status ∙ (ap failure_status c.from.ensures ∙ failure_status-session _) ∙ ap stop_status (sym c.in-Session.is)
