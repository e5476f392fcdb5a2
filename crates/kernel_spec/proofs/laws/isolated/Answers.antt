use Rattle.kernel_spec.proofs.laws.isolated.Goals as goal
use Rattle.kernel_spec.proofs.runs.Boot as in-boot
use Rattle.kernel_spec.proofs.steps.OthersKeepTheRest as in-kept
use Rattle.kernel_spec.proofs.steps.OutsideIsSeen as in-outside

pub returns-clause-isolated : goal.returns-clause-isolated
returns-clause-isolated c = in-boot.isolated

pub returns-clause-others_keep : goal.returns-clause-others_keep
returns-clause-others_keep c = in-kept.others_keep

pub returns-clause-outside_steps : goal.returns-clause-outside_steps
returns-clause-outside_steps c = in-outside.outside_steps
