use Rattle.kernel_spec.proofs.laws.replays.Goals as goal
use Rattle.kernel_spec.proofs.runs.Replays as law

pub returns-clause-event_is_determined : goal.returns-clause-event_is_determined
returns-clause-event_is_determined c = law.event_is_determined

pub returns-clause-run_is_determined : goal.returns-clause-run_is_determined
returns-clause-run_is_determined c = law.run_is_determined

pub returns-clause-replay_is_the_same : goal.returns-clause-replay_is_the_same
returns-clause-replay_is_the_same c = law.replay_is_the_same

pub returns-clause-first_is_orderly : goal.returns-clause-first_is_orderly
returns-clause-first_is_orderly c = law.first_is_orderly

pub returns-clause-stays_orderly : goal.returns-clause-stays_orderly
returns-clause-stays_orderly c = law.stays_orderly
