use Rattle.std.proofs.Common.{replicate}
use Rattle.xv_machine.specs.Events.{event_of}
use Rattle.xv_debug.specs.motion.Backwards.{Looked}
use Rattle.xv_debug.proofs.motion.backwards.look_often.Given as goal

abbrev pub invariant-loop-done : goal.invariant-loop-done
invariant-loop-done l = Looked l.aim (replicate l.done (event_of l.event)) l.place l.fn.found l.fn.machine l.machine l.last
