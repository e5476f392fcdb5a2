use Rattle.kcall_core.proofs.Prelude.{sym}
use Rattle.kcall_core.proofs.table.Stops.{now-slot}
use Rattle.kcall_core.proofs.table.InCall.{mark-told}
use Rattle.kcall_core.proofs.kernel.Kernel.marked.Goals as goal

pub returns : goal.returns
returns c hart = mark-told c.args.self.now c.running_slot-slot.result c.marked.result (sym (now-slot c.running_slot-slot.result c.requires.sound.1 c.running_slot-slot.ensures.is)) c.marked.ensures
