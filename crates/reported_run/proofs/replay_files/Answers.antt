use Rattle.std.proofs.Common.{◌∙◌}
use Rattle.recorded_runs.proofs.Asked.{unplayed}
use Rattle.run_work.proofs.Ended.{early-run}
use Rattle.reported_run.proofs.replay_files.Goals as goal

pub returns-in-Err-clause-status : goal.returns-in-Err-clause-status
returns-in-Err-clause-status c = early-run c.close.result c.close.ensures.either

pub returns-in-Err-clause-says : goal.returns-in-Err-clause-says
returns-in-Err-clause-says c = unplayed c.close.result _ _ _ (c.close.ensures.is ∙ c.in-Err.ensures.refused)
