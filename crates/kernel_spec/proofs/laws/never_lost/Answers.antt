use Rattle.kernel_spec.proofs.laws.never_lost.Goals as goal
use Rattle.kernel_spec.proofs.rows.Again as in-again
use Rattle.kernel_spec.proofs.rows.Asleep as in-asleep
use Rattle.kernel_spec.proofs.waking.NoLost as in-no-lost

pub returns-clause-never_lost : goal.returns-clause-never_lost
returns-clause-never_lost c = in-no-lost.never_lost

pub returns-clause-no_lost_wake_up : goal.returns-clause-no_lost_wake_up
returns-clause-no_lost_wake_up c = in-no-lost.no_lost_wake_up

pub returns-clause-falls_asleep_by_itself : goal.returns-clause-falls_asleep_by_itself
returns-clause-falls_asleep_by_itself c = in-no-lost.falls_asleep_by_itself

pub returns-clause-ready_may_run : goal.returns-clause-ready_may_run
returns-clause-ready_may_run c = in-no-lost.ready_may_run

pub returns-clause-blocks_unready : goal.returns-clause-blocks_unready
returns-clause-blocks_unready c = in-asleep.blocks_unready

pub returns-clause-unready_waits : goal.returns-clause-unready_waits
returns-clause-unready_waits c = in-again.unready_waits
