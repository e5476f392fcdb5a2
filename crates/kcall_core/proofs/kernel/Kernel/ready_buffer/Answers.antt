use Rattle.kcall_core.proofs.Prelude.{◌∙◌, arith, sym}
use Rattle.kcall_core.proofs.table.Stops.{now-has}
use Rattle.kcall_core.proofs.making.Touching as making
use Rattle.kcall_core.proofs.kernel.Kernel.ready_buffer.Goals as goal

pub may_write-requires-clause-there : goal.may_write-requires-clause-there
may_write-requires-clause-there c = now-has c.args.slot c.requires.whole.1.sound c.requires.slot

pub returns-then-free-spare-clause-unready : goal.returns-then-free-spare-clause-unready
returns-then-free-spare-clause-unready c e h whole =
    making.unready-free whole c.requires.slot c.args.address c.args.len c.args.spare (sym c.may_write.ensures ∙ c.if-may_write.true) (omega (arith, c.free.ensures, c.if-free-spare.true))

pub returns-then-may_write-clause-ready : goal.returns-then-may_write-clause-ready
returns-then-may_write-clause-ready c e h whole =
    making.ready-at whole c.requires.slot c.args.address c.args.len c.args.spare (sym c.may_write.ensures ∙ c.if-may_write.true) (omega (arith, c.free.ensures, c.if-free-spare.false))
