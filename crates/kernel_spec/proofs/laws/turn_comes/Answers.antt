use Rattle.kernel_spec.proofs.laws.turn_comes.Goals as goal
use Rattle.kernel_spec.proofs.turns.Nearer as in-nearer
use Rattle.kernel_spec.proofs.waking.NoLost as in-no-lost
use Rattle.kernel_spec.proofs.turns.TurnComes as in-turn-comes

pub returns-clause-turn_comes : goal.returns-clause-turn_comes
returns-clause-turn_comes c = in-turn-comes.turn_comes

pub returns-clause-waits_at_most : goal.returns-clause-waits_at_most
returns-clause-waits_at_most c = in-turn-comes.waits_at_most

pub returns-clause-stays_runnable : goal.returns-clause-stays_runnable
returns-clause-stays_runnable c = in-no-lost.stays_runnable

pub returns-clause-comes_nearer : goal.returns-clause-comes_nearer
returns-clause-comes_nearer c = in-nearer.comes_nearer

pub returns-clause-is_near : goal.returns-clause-is_near
returns-clause-is_near c = in-nearer.is_near
