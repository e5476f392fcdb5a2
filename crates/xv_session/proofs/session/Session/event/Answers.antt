use Rattle.std.proofs.Common.{◌≡◌, Some, None, subst}
use Rattle.std.specs.Prelude.{slice_get}
use Rattle.xv_machine.specs.Events.{event_of}
use Rattle.xv_session.specs.Recorded.{Recorded}
use Rattle.xv_session.proofs.Spans.{first-equal, none-there}
use Rattle.xv_session.proofs.session.Session.event.Goals as goal

pub returns-in-Some : goal.returns-in-Some
returns-in-Some c =
    subst (λ (r : Recorded). Some (event_of c.in-Some.event) ≡ slice_get r.events c.args.place) c.self.view_is
    (first-equal c.self.inside.history.events c.args.place (event_of c.in-Some.event) c.in-Some.field-0-1 c.in-Some.ensures.equal.0 c.in-Some.ensures.equal.1)

pub returns-in-None : goal.returns-in-None
returns-in-None c = subst (λ (r : Recorded). None ≡ slice_get r.events c.args.place) c.self.view_is (none-there c.self.inside.history.events c.args.place c.in-None.ensures.equal)
