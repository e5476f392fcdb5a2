use Rattle.kernel_spec.proofs.laws.runs.Goals as goal
use Rattle.kernel_spec.proofs.runs.Boot as in-boot
use Rattle.kernel_spec.proofs.steps.OutsideIsSeen as in-outside

pub returns-clause-runs_join : goal.returns-clause-runs_join
returns-clause-runs_join c = in-boot.runs_join

pub returns-clause-promised_runs_join : goal.returns-clause-promised_runs_join
returns-clause-promised_runs_join c = in-boot.promised_runs_join

pub returns-clause-promised_is_run : goal.returns-clause-promised_is_run
returns-clause-promised_is_run c = in-boot.promised_is_run

pub returns-clause-halted_stays : goal.returns-clause-halted_stays
returns-clause-halted_stays c = in-outside.halted_stays

pub returns-clause-runs_split : goal.returns-clause-runs_split
returns-clause-runs_split c = in-boot.runs_split

pub returns-clause-promised_runs_split : goal.returns-clause-promised_runs_split
returns-clause-promised_runs_split c = in-boot.promised_runs_split
