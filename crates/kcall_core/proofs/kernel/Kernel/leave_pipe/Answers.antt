use Rattle.kcall_core.proofs.Prelude.{◌∙◌, sym}
use Rattle.kcall_core.proofs.memory.PipeEdges.{left-nobody, left-wakes}
use Rattle.kcall_core.proofs.kernel.Kernel.leave_pipe.Goals as goal

pub returns-then-not-leave-clause-table : goal.returns-then-not-leave-clause-table
returns-then-not-leave-clause-table c = left-nobody c.args.end c.requires.there c.requires.some c.leave.ensures.pipe (sym c.leave.ensures.last ∙ c.if-not-leave.true) c.args.self.now.table

pub returns-clause-table : goal.returns-clause-table
returns-clause-table c = left-wakes c.args.end c.requires.there c.requires.some c.leave.ensures.pipe (sym c.leave.ensures.last ∙ c.if-not-leave.false)
    c.across.result c.across.ensures c.args.self.now.table _ c.wake.ensures
