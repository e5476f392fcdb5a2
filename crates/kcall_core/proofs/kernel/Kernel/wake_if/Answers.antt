use Rattle.kcall_core.proofs.Prelude.{◌&&◌, ◌∙◌, same_channel, wakes_if}
use Rattle.kcall_core.proofs.table.Woken.{each-none, each-woken}
use Rattle.kcall_core.proofs.kernel.Kernel.wake_if.Goals as goal

pub returns-then-not-is_due-clause-table : goal.returns-then-not-is_due-clause-table
returns-then-not-is_due-clause-table c =
    each-none (wakes_if c.args.is_due c.args.channel) c.args.self.now.table (λ d. (λ i. c.if-not-is_due.true i && same_channel d c.args.channel))

pub returns-clause-table : goal.returns-clause-table
returns-clause-table c =
    c.wake.ensures.table
    ∙ each-woken (wakes_if c.args.is_due c.args.channel) c.args.channel c.args.self.now.table (λ d. (λ i. c.if-not-is_due.false i && same_channel d c.args.channel))
