use Rattle.xv_page.proofs.Uses.{use-told}
use Rattle.xv_page.proofs.reading.use_of.Goals as goal

pub returns : goal.returns
returns c = (c.frame_use.result, use-told c.args.machine.now c.args.frame c.frame_use.result c.frame_use.ensures.told c.frame_use.ensures.none, c.use_told.ensures)
