use Rattle.run_work.proofs.Ended.{files-run, says-run}
use Rattle.reported_run.proofs.run.Goals as goal

pub returns-clause-status : goal.returns-clause-status
returns-clause-status c = says-run c.run_with.result _ _ _ _ _ c.run_with.ensures

pub returns-clause-says : goal.returns-clause-says
returns-clause-says c = files-run c.run_with.result _ _ _ _ _ _ c.requires c.run_with.ensures
