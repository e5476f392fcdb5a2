use Rattle.std.proofs.Common.{ℕ, Option, sym, subst}
use Rattle.std.specs.Prelude.{IfSome, IsSome}
use Rattle.kernel_spec.specs.views.State.{live}
use Rattle.xv_session.specs.Inside.{recorded}
use Rattle.xv_session.specs.Recorded.{Recorded}
use Rattle.xv_session.proofs.NamesLive.{place-live, recorded-live}
use Rattle.xv_session.proofs.session.Session.program_of.Goals as goal

pub returns-clause-live : goal.returns-clause-live
returns-clause-live c =
    let r = recorded c.self.inside in
    subst (λ (s : Recorded). IfSome c.place.result (λ _. IsSome (live s.machine.world.state c.args.pid))) c.self.view_is
    (subst (λ (o : Option ℕ). IfSome o (λ _. IsSome (live r.machine.world.state c.args.pid))) (sym c.place.ensures)
    (place-live r.machine.world.state c.args.pid r.names (recorded-live r c.self.invariant.0)))
