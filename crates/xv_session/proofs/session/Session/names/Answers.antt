use Rattle.std.proofs.Common.{List, sym, subst}
use Rattle.xv_session.specs.Inside.{recorded}
use Rattle.xv_session.specs.Names.{AreLive}
use Rattle.xv_session.specs.Recorded.{Recorded}
use Rattle.xv_session.specs.declared.names.Named.{Named}
use Rattle.xv_session.proofs.NamesLive.{recorded-live}
use Rattle.xv_session.proofs.session.Session.names.Goals as goal

pub returns-clause-live : goal.returns-clause-live
returns-clause-live c =
    let r = recorded c.self.inside in
    subst (λ (s : Recorded). AreLive s.machine.world.state c.as_slice.result.now) c.self.view_is
    (subst (λ (ns : List Named). AreLive r.machine.world.state ns) (sym c.as_slice.ensures) (recorded-live r c.self.invariant.0))
