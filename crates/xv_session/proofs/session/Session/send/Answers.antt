use Rattle.std.proofs.Common.{◌≡◌, ◌++◌, ◌∷◌, [], ◌∙◌, ap, subst}
use Rattle.xv_machine.specs.Events.{event_of, outcome_of}
use Rattle.xv_session.specs.Answers.{Sent}
use Rattle.xv_session.specs.Recorded.{Recorded}
use Rattle.xv_session.specs.Spans.{Kept}
use Rattle.xv_session.proofs.GoesOn.{sessions-on, stands-on}
use Rattle.xv_session.proofs.NamesLive.{led-is-sound}
use Rattle.xv_session.proofs.session.Session.send.Goals as goal

pub event-outcome-requires : goal.event-outcome-requires
event-outcome-requires c =
    let s = c.self.inside in
    record { sound = led-is-sound s.config.frames s.config.trace s.followed.running.machine.world.state.programs s.history.events s.followed.running c.self.invariant.0 }

pub invariant_of-self-2 : goal.invariant_of-self-2
invariant_of-self-2 c =
    let s = c.self.inside in
    let sent = event_of c.args.event ∷ [] in
    let all : c.add.new.self.events ≡ s.history.events ++ sent = ap (λ (k : Kept). k.events) c.add.ensures
    ∙ (λ i. c.in_ok-make_room.ensures.events i ++ (c.in_ok-make_room.ensures.next i ∷ [])) in
    sessions-on s.config.frames s.config.trace s.history.events sent c.add.new.self.events s.followed c.event-outcome.new.self c.self.invariant.0 c.self.invariant.1
    c.event-outcome.ensures.follows all

pub returns-clause-sent : goal.returns-clause-sent
returns-clause-sent c =
    let s = c.self.inside in
    let sent = event_of c.args.event ∷ [] in
    let r = c.event-outcome.new.self in
    let all : c.add.new.self.events ≡ s.history.events ++ sent = ap (λ (k : Kept). k.events) c.add.ensures
    ∙ (λ i. c.in_ok-make_room.ensures.events i ++ (c.in_ok-make_room.ensures.next i ∷ [])) in
    subst (λ (old : Recorded). Sent old (event_of c.args.event) (outcome_of c.event-outcome.result)
    (record {
      frames = s.config.frames;
      trace = s.config.trace;
      programs = r.running.machine.world.state.programs;
      events = c.add.new.self.events;
      machine = r.running.machine;
      names = r.running.names;
    })) c.self.view_is (
      c.event-outcome.ensures.advances,
      stands-on s.config.frames s.config.trace s.history.events sent c.add.new.self.events s.followed r c.self.invariant.0 c.self.invariant.1 c.event-outcome.ensures.follows all,
    )
