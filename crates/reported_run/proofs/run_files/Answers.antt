use Rattle.std.proofs.Common.{◌∙◌}
use Rattle.run_work.proofs.Ended.{early-run, files-unrun}
use Rattle.reported_run.proofs.run_files.Goals as goal

pub returns-in-Err-clause-status : goal.returns-in-Err-clause-status
returns-in-Err-clause-status c = early-run c.close.result c.close.ensures.either

pub returns-in-Err-clause-says : goal.returns-in-Err-clause-says
returns-in-Err-clause-says c = files-unrun c.close.result _ _ _ (c.close.ensures.is ∙ c.in-Err.ensures.refused)
