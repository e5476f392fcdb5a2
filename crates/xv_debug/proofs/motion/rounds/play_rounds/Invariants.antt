use Rattle.xv_debug.specs.motion.Rounds.{rounds_of}
use Rattle.xv_debug.specs.motion.Sent.{Plays}
use Rattle.xv_debug.proofs.motion.rounds.play_rounds.Given as goal

abbrev pub invariant-loop-count : goal.invariant-loop-count
invariant-loop-count g l = Plays (rounds_of l.quantum l.count) l.fn.session l.session l.fn.output l.output
