use Rattle.kcall_core.proofs.memory.Stepping.{one-in-a-row}
use Rattle.kcall_core.proofs.memories.Memories.step_again.Goals as goal

pub returns : goal.returns
returns c slot runs = one-in-a-row c.args.self.now c.steps.new.self slot c.steps.result.made c.steps.result.stop c.args.hart.now c.steps.new.hart (c.steps.ensures slot runs)
