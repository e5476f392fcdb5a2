use Rattle.xv_claims.proofs.laws.outcomes_of.Goals as goal
use Rattle.xv_claims.proofs.Told as in-told

pub returns-clause-tells_outcomes : goal.returns-clause-tells_outcomes
returns-clause-tells_outcomes c = in-told.tells_outcomes

pub returns-clause-outcomes_are_determined : goal.returns-clause-outcomes_are_determined
returns-clause-outcomes_are_determined c = in-told.outcomes_are_determined

pub returns-clause-outcomes_go_on : goal.returns-clause-outcomes_go_on
returns-clause-outcomes_go_on c = in-told.outcomes_go_on
