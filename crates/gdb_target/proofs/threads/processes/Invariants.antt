use Rattle.gdb_target.specs.Seen.{AreLiveBelow}
use Rattle.gdb_target.proofs.threads.processes.Given as goal

abbrev pub invariant-loop-slot : goal.invariant-loop-slot
invariant-loop-slot l = AreLiveBelow l.machine.world l.slot l.list.items
