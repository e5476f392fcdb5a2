use Rattle.std.proofs.Common.{subst}
use Rattle.xv_session.specs.Recorded.{Recorded, IsRecorded}
use Rattle.xv_session.proofs.session.Session.machine.Goals as goal

pub returns-clause-recorded : goal.returns-clause-recorded
returns-clause-recorded c = subst (λ (s : Recorded). IsRecorded s) c.self.view_is c.self.invariant.0
