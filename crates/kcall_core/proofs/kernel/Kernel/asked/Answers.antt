use Rattle.kcall_core.proofs.table.Stops.{now-has}
use Rattle.kcall_core.proofs.kernel.Kernel.asked.Goals as goal

pub fetch_text-requires-clause-there : goal.fetch_text-requires-clause-there
fetch_text-requires-clause-there c = now-has c.args.slot c.requires.whole.1.sound c.requires.slot
