use Rattle.std.proofs.Common.{replicate}
use Rattle.xv_machine.specs.Events.{event_of}
use Rattle.xv_debug.specs.motion.Rounds.{PlaysTelling}
use Rattle.xv_debug.proofs.motion.rounds.play_part.Given as goal

abbrev pub invariant-loop-sent : goal.invariant-loop-sent
invariant-loop-sent l = PlaysTelling (replicate l.sent (event_of l.event)) l.faulted l.fn.session l.session l.fn.output l.output
