use Rattle.kernel_spec.proofs.laws.two_worlds.Goals as goal
use Rattle.kernel_spec.proofs.runs.Two as in-two
use Rattle.kernel_spec.proofs.runs.Cuts as in-cuts
use Rattle.kernel_spec.proofs.runs.Apart as in-apart

pub returns-clause-two_worlds : goal.returns-clause-two_worlds
returns-clause-two_worlds c = in-two.two_worlds

pub returns-clause-same_step : goal.returns-clause-same_step
returns-clause-same_step c = in-two.same_step

pub returns-clause-shared_is_apart : goal.returns-clause-shared_is_apart
returns-clause-shared_is_apart c = in-apart.shared_is_apart

pub returns-clause-runs_are_cut : goal.returns-clause-runs_are_cut
returns-clause-runs_are_cut c = in-cuts.runs_are_cut

pub returns-clause-pids_are_given : goal.returns-clause-pids_are_given
returns-clause-pids_are_given c = in-cuts.pids_are_given
