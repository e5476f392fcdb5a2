use Rattle.std.proofs.Common.{arith}
use Rattle.xv_machine.specs.Events.{event_of}
use Rattle.xv_debug.proofs.Backwards.{fewer-equal}
use Rattle.xv_debug.proofs.motion.backwards.equal_from.Goals as goal

pub returns-clause-those : goal.returns-clause-those
returns-clause-those c =
    fewer-equal c.min-2.result c.in-Some.equal c.args.place (event_of c.in-Some.event) c.args.session.now.events (omega (arith, c.min.ensures, c.min-2.ensures)) c.in-Some.ensures.equal.1
