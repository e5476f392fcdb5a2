use Rattle.std.proofs.Common.{◌≡◌, ◌++◌, ◌∙◌, ap, subst, replicate, None}
use Rattle.kernel_spec.specs.runs.Run.{Run}
use Rattle.xv_session.specs.Answers.{RunsSent}
use Rattle.xv_session.specs.Recorded.{Recorded}
use Rattle.xv_session.specs.Spans.{Kept}
use Rattle.xv_session.proofs.GoesOn.{sessions-on, stands-on}
use Rattle.xv_session.proofs.NamesLive.{led-is-sound}
use Rattle.xv_session.proofs.session.Session.instructions.Goals as goal

pub instructions-made-requires : goal.instructions-made-requires
instructions-made-requires c =
    let s = c.self.inside in
    record { sound = led-is-sound s.config.frames s.config.trace s.followed.running.machine.world.state.programs s.history.events s.followed.running c.self.invariant.0 }

pub invariant_of-self-2 : goal.invariant_of-self-2
invariant_of-self-2 c =
    let s = c.self.inside in
    let sent = replicate c.instructions-made.result Run in
    let all : c.add.new.self.events ≡ s.history.events ++ sent = ap (λ (k : Kept). k.events) c.add.ensures
    ∙ (λ i. c.in_ok-make_room.ensures.events i ++ replicate c.instructions-made.result (c.in_ok-make_room.ensures.next i)) in
    sessions-on s.config.frames s.config.trace s.history.events sent c.add.new.self.events s.followed c.instructions-made.new.self c.self.invariant.0 c.self.invariant.1
    c.instructions-made.ensures.follows all

pub returns-clause-sent : goal.returns-clause-sent
returns-clause-sent c =
    let s = c.self.inside in
    let made = c.instructions-made.result in
    let sent = replicate made Run in
    let r = c.instructions-made.new.self in
    let all : c.add.new.self.events ≡ s.history.events ++ sent = ap (λ (k : Kept). k.events) c.add.ensures
    ∙ (λ i. c.in_ok-make_room.ensures.events i ++ replicate made (c.in_ok-make_room.ensures.next i)) in
    subst (λ (old : Recorded). RunsSent made made None old
    (record {
      frames = s.config.frames;
      trace = s.config.trace;
      programs = r.running.machine.world.state.programs;
      events = c.add.new.self.events;
      machine = r.running.machine;
      names = r.running.names;
    })) c.self.view_is (
      c.instructions-made.ensures.made,
      stands-on s.config.frames s.config.trace s.history.events sent c.add.new.self.events s.followed r c.self.invariant.0 c.self.invariant.1 c.instructions-made.ensures.follows all,
    )
