use Rattle.std.proofs.Common.{take}
use Rattle.xv_machine.specs.RoundParts.{events_of_parts}
use Rattle.xv_debug.specs.motion.Rounds.{PlaysTelling}
use Rattle.xv_debug.proofs.motion.rounds.play_parts.Given as goal

abbrev pub invariant-loop-part : goal.invariant-loop-part
invariant-loop-part l = PlaysTelling (events_of_parts (take l.part-index l.parts)) l.faulted l.fn.session l.session l.fn.output l.output
