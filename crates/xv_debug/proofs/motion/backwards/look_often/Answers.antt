use Rattle.std.proofs.Common.{refl}
use Rattle.xv_machine.specs.Events.{event_of}
use Rattle.xv_debug.proofs.Backwards.{looked-more}
use Rattle.xv_debug.proofs.motion.backwards.look_often.Goals as goal

pub loop-done-init : goal.loop-done-init
loop-done-init c = (refl, refl)

pub loop-done-preserved : goal.loop-done-preserved
loop-done-preserved c =
    looked-more c.args.aim.now (event_of c.args.event) c.loop-done.done c.args.place c.args.found c.loop-done.last c.later-last.result c.look-hit.result c.args.machine.now
    c.loop-done.machine c.look-hit.new.machine c.loop-done.invariant c.look-hit.ensures c.later-last.ensures
