use Rattle.xv_session.proofs.LastSteps.{last-step-is-one}
use Rattle.xv_session.proofs.laws.the_last_step_is_one.Goals as goal

pub returns : goal.returns
returns c = last-step-is-one
