use Rattle.std.proofs.Common.{subst}
use Rattle.xv_session.specs.LastStep.{IsLastStep}
use Rattle.xv_session.specs.Recorded.{Recorded}
use Rattle.xv_session.proofs.session.Session.last_step.Goals as goal

pub returns : goal.returns
returns c = subst (λ (s : Recorded). IsLastStep s c.self.inside.followed.last) c.self.view_is c.self.invariant.1
