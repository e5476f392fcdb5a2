use Rattle.kernel_spec.proofs.laws.wakes_suffice.Goals as goal
use Rattle.kernel_spec.proofs.waking.ByConditions as in-by-conditions
use Rattle.kernel_spec.proofs.waking.Wakes as in-wakes

pub returns-clause-ready_is_open : goal.returns-clause-ready_is_open
returns-clause-ready_is_open c = in-wakes.ready_is_open

pub returns-clause-conditions_suffice : goal.returns-clause-conditions_suffice
returns-clause-conditions_suffice c = in-by-conditions.conditions_suffice
