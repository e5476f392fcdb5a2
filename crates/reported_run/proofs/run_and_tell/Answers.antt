use Rattle.std.proofs.Common.{inl, inr}
use Rattle.run_work.proofs.Ended.{plain-run}
use Rattle.reported_run.proofs.run_and_tell.Goals as goal

pub returns-in-Ok-clause-asked : goal.returns-in-Ok-clause-asked
returns-in-Ok-clause-asked g c = inr (c.in-Ok.settings, c.in-Ok.ensures, c.tell_asked.ensures.asked)

pub returns-in-Err-clause-status : goal.returns-in-Err-clause-status
returns-in-Err-clause-status g c = plain-run c.close.result c.close.ensures

pub returns-in-Err-clause-asked : goal.returns-in-Err-clause-asked
returns-in-Err-clause-asked g c = inl c.close.ensures
