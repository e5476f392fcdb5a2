use Rattle.std.proofs.Common.{◌≤◌}
use Rattle.arrayvec.specs.ArrayVec.{array_vec_len}
use Rattle.xv_debug.specs.PipeText.{AreHolders}
use Rattle.xv_debug.proofs.pipes.holders.Given as goal

abbrev pub invariant-loop-slot : goal.invariant-loop-slot
invariant-loop-slot l = record {
  are : AreHolders l.machine.world l.pipe l.end l.slot l.pids.items;
  few : array_vec_len l.pids ≤ l.slot;
}
