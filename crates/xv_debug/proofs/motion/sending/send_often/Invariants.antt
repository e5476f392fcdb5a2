use Rattle.std.proofs.Common.{replicate, option_map}
use Rattle.xv_machine.specs.Events.{event_of, outcome_of}
use Rattle.xv_debug.specs.motion.Sent.{Sends}
use Rattle.xv_debug.proofs.motion.sending.send_often.Given as goal

abbrev pub invariant-loop-sent : goal.invariant-loop-sent
invariant-loop-sent g l = Sends (replicate l.sent (event_of l.event)) (option_map outcome_of l.last) l.fn.session l.session l.fn.output l.output
