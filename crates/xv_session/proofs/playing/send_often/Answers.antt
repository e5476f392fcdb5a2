use Rattle.std.proofs.Common.{arith}
use Rattle.xv_machine.specs.Events.{event_of}
use Rattle.xv_session.proofs.LastSteps.{follows-sound, more-followed}
use Rattle.xv_session.proofs.playing.send_often.Goals as goal

pub sends-preserved : goal.sends-preserved
sends-preserved g c = (
  omega (arith, c.sends.invariant.0),
  more-followed c.args.count c.sends.left 1 (event_of c.args.event) c.args.followed.now c.sends.followed c.event.new.self c.sends.invariant.0 (omega (arith, c.sends-test.true)) c.sends.invariant.1
      c.event.ensures.follows,
)

pub event-requires : goal.event-requires
event-requires g c = record { sound = follows-sound _ c.args.followed.now c.sends.followed c.requires c.sends.invariant.1 }

pub returns-clause-sound : goal.returns-clause-sound
returns-clause-sound g c = follows-sound _ c.args.followed.now c.sends.followed c.requires c.sends.invariant.1
