use Rattle.std.proofs.Common.{◌≡◌, sym, subst, take}
use Rattle.xv_session.specs.Answers.{stands}
use Rattle.xv_session.specs.Inside.{recorded}
use Rattle.xv_session.specs.LastStep.{HasLast}
use Rattle.xv_session.specs.Recorded.{Recorded, IsLed, IsRecorded}
use Rattle.xv_session.proofs.GoesOn.{recorded-back, last-back, stands-back}
use Rattle.xv_session.proofs.session.Session.back_to_within.Goals as goal

pub returns-in_err-followed-clause-recorded : goal.returns-in_err-followed-clause-recorded
returns-in_err-followed-clause-recorded g c = subst (λ (s : Recorded). IsRecorded s) c.self.view_is c.self.invariant.0

pub invariant_of-self : goal.invariant_of-self
invariant_of-self g c =
    let s = recorded c.self.inside in
    let n = c.in_ok-followed.followed in
    let led = subst (λ (r : Recorded). IsLed r.frames r.trace r.programs (take c.args.place r.events) n.running) (sym c.self.view_is) c.in_ok-followed.ensures.led in (
      recorded-back s c.args.place c.cut.new.self.events n led c.cut.ensures,
      last-back s c.args.place c.cut.new.self.events n led c.cut.ensures
          (subst (λ (r : Recorded). HasLast r.frames r.trace r.programs (take c.args.place r.events) n.running.machine n.last) (sym c.self.view_is) c.in_ok-followed.ensures.last),
    )

pub returns-clause-back : goal.returns-clause-back
returns-clause-back g c =
    let n = c.in_ok-followed.followed in
    let s = recorded c.self.inside in
    subst (λ (r : Recorded). record {
      frames = s.frames;
      trace = s.trace;
      programs = n.running.machine.world.state.programs;
      events = c.cut.new.self.events;
      machine = n.running.machine;
      names = n.running.names;
    } ≡ stands r (take c.args.place r.events) n.running.machine n.running.names) c.self.view_is
    (stands-back s c.args.place c.cut.new.self.events n
    (subst (λ (r : Recorded). IsLed r.frames r.trace r.programs (take c.args.place r.events) n.running) (sym c.self.view_is) c.in_ok-followed.ensures.led) c.cut.ensures)

pub returns-clause-recorded : goal.returns-clause-recorded
returns-clause-recorded g c =
    let n = c.in_ok-followed.followed in
    recorded-back (recorded c.self.inside) c.args.place c.cut.new.self.events n
    (subst (λ (r : Recorded). IsLed r.frames r.trace r.programs (take c.args.place r.events) n.running) (sym c.self.view_is) c.in_ok-followed.ensures.led) c.cut.ensures
