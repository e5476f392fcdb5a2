use Rattle.kcall_core.proofs.Prelude.{ap, arith, is_some}
use Rattle.kcall_core.proofs.table.FrameUses.{memory-place, one-more}
use Rattle.kcall_core.proofs.table.States.{slot-inside}
use Rattle.kcall_core.proofs.kernel.Kernel.owner.Goals as goal

pub pid-requires-clause-held : goal.pid-requires-clause-held
pid-requires-clause-held c =
    let used = c.in-Some.ensures.some in
    ap is_some (memory-place c.args.self.now c.requires.0 c.requires.1 c.loop-slot.slot used.0 used.1).1

pub loop-slot-preserved : goal.loop-slot-preserved
loop-slot-preserved c = one-more c.args.self.now.memories c.args.frame c.loop-slot.slot c.loop-slot.invariant c.in_default.ensures.none

pub returns-clause-none : goal.returns-clause-none
returns-clause-none c = λ pid role o. c.loop-slot.invariant o.0 (omega (arith, c.loop-slot-test.false, slot-inside c.args.self.now c.requires.0 c.requires.1 o.0 o.1 o.2)) role o.4
