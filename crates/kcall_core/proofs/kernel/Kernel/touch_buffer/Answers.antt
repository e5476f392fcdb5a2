use Rattle.kcall_core.proofs.Prelude.{◌∙◌, sym}
use Rattle.kcall_core.proofs.table.Stops.{now-has}
use Rattle.kcall_core.proofs.making.Touching as making
use Rattle.kcall_core.proofs.kernel.Kernel.touch_buffer.Goals as goal

pub may_write_touching-requires-clause-there : goal.may_write_touching-requires-clause-there
may_write_touching-requires-clause-there c = now-has c.args.slot c.requires.whole.1.sound c.requires.slot

pub touch-requires-clause-there : goal.touch-requires-clause-there
touch-requires-clause-there c = now-has c.args.slot c.requires.whole.1.sound c.requires.slot

pub returns-then-not-may_write_touching-clause-unready : goal.returns-then-not-may_write_touching-clause-unready
returns-then-not-may_write_touching-clause-unready c e h whole =
    making.unready-may whole c.requires.slot c.args.address c.args.len c.args.spare (sym c.may_write_touching.ensures ∙ c.if-not-may_write_touching.true)

pub returns-clause-ready : goal.returns-clause-ready
returns-clause-ready c e h whole =
    making.ready-came whole c.requires.slot c.args.address c.args.len c.args.spare
    (sym c.may_write_touching.ensures ∙ c.if-not-may_write_touching.false) (c.touch.ensures.touched e) c.touch.ensures.runs (c.touch.ensures.fits e)

pub returns-clause-unready : goal.returns-clause-unready
returns-clause-unready c e h whole = making.unready-dear whole c.requires.slot c.args.address c.args.len c.args.spare (c.touch.ensures.refused e).0
