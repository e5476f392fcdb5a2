use Rattle.kcall_core.proofs.table.FrameUses.{page-told, no-page-told}
use Rattle.kcall_core.proofs.table.Observed.{live-has}
use Rattle.kcall_core.proofs.kernel.Kernel.page_frame.Goals as goal

pub page_frame-requires-clause-there : goal.page_frame-requires-clause-there
page_frame-requires-clause-there c = live-has c.args.self.now c.requires.0 c.requires.1 c.args.pid c.in_ok-slot.slot c.in_ok-slot.ensures.found

pub returns : goal.returns
returns c = rw c.page_frame.ensures (page-told c.args.self.now c.requires.0 c.requires.1 c.args.pid c.in_ok-slot.slot c.args.vpn c.in_ok-slot.ensures.found)

pub returns-in_err-slot : goal.returns-in_err-slot
returns-in_err-slot c = rw c.from_residual.ensures (no-page-told c.args.self.now c.requires.0 c.requires.1 c.args.pid c.args.vpn (c.in_err-slot.ensures.none c.requires.0))
