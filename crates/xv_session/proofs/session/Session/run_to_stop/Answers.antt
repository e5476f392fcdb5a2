use Rattle.std.proofs.Common.{◌≡◌, ◌++◌, ◌∙◌, ap, subst, replicate}
use Rattle.std.specs.Prelude.{option_map}
use Rattle.kernel_spec.specs.runs.Run.{Run}
use Rattle.xv_machine.specs.Events.{outcome_of}
use Rattle.xv_session.specs.Answers.{Stopped}
use Rattle.xv_session.specs.Recorded.{Recorded}
use Rattle.xv_session.specs.Spans.{Kept}
use Rattle.xv_session.proofs.GoesOn.{sessions-on, stands-on}
use Rattle.xv_session.proofs.NamesLive.{led-is-sound}
use Rattle.xv_session.proofs.session.Session.run_to_stop.Goals as goal

pub run_to_stop-found-requires : goal.run_to_stop-found-requires
run_to_stop-found-requires c =
    let s = c.self.inside in
    record { sound = led-is-sound s.config.frames s.config.trace s.followed.running.machine.world.state.programs s.history.events s.followed.running c.self.invariant.0 }

pub invariant_of-self-2 : goal.invariant_of-self-2
invariant_of-self-2 c =
    let s = c.self.inside in
    let found = c.run_to_stop-found.result in
    let sent = replicate found.sent Run in
    let all : c.add.new.self.events ≡ s.history.events ++ sent = ap (λ (k : Kept). k.events) c.add.ensures
    ∙ (λ i. c.in_ok-make_room.ensures.events i ++ replicate found.sent (c.in_ok-make_room.ensures.next i)) in
    sessions-on s.config.frames s.config.trace s.history.events sent c.add.new.self.events s.followed c.run_to_stop-found.new.self c.self.invariant.0 c.self.invariant.1
    c.run_to_stop-found.ensures.follows all

pub returns-clause-stopped : goal.returns-clause-stopped
returns-clause-stopped c =
    let s = c.self.inside in
    let found = c.run_to_stop-found.result in
    let sent = replicate found.sent Run in
    let r = c.run_to_stop-found.new.self in
    let all : c.add.new.self.events ≡ s.history.events ++ sent = ap (λ (k : Kept). k.events) c.add.ensures
    ∙ (λ i. c.in_ok-make_room.ensures.events i ++ replicate found.sent (c.in_ok-make_room.ensures.next i)) in
    subst (λ (old : Recorded). Stopped c.args.addresses.now c.args.bytes.now c.args.most found.sent found.met (option_map outcome_of found.last) old
    (record {
      frames = s.config.frames;
      trace = s.config.trace;
      programs = r.running.machine.world.state.programs;
      events = c.add.new.self.events;
      machine = r.running.machine;
      names = r.running.names;
    })) c.self.view_is (
      c.run_to_stop-found.ensures.stopped,
      stands-on s.config.frames s.config.trace s.history.events sent c.add.new.self.events s.followed r c.self.invariant.0 c.self.invariant.1 c.run_to_stop-found.ensures.follows all,
    )
