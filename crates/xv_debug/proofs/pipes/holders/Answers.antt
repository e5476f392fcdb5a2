use Rattle.std.proofs.Common.{rules}
use Rattle.xv_debug.proofs.HeldEnds.{no-holders, holders-more}
use Rattle.xv_debug.proofs.pipes.holders.Goals as goal

pub loop-slot-init : goal.loop-slot-init
loop-slot-init c = record {
  are = no-holders c.args.machine.now.world c.args.pipe c.args.end _ c.new-pids.ensures;
  few = search rules;
}

pub loop-slot-preserved : goal.loop-slot-preserved
loop-slot-preserved c = record {
  are = holders-more c.args.machine.now.world c.args.pipe c.args.end c.loop-slot.slot _ _ c.loop-slot.invariant.are c.add_holder.ensures.adds;
  few = c.add_holder.ensures.fewer;
}
