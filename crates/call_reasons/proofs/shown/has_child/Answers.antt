use Rattle.std.proofs.Common.{sym, arith}
use Rattle.call_reasons.proofs.Children.{no_child}
use Rattle.call_reasons.proofs.shown.has_child.Goals as goal

pub returns : goal.returns
returns c = sym (no_child c.args.machine.now.world c.args.pid c.current-running.ensures.sound.slots
    (λ slot below. c.loop-slot.invariant slot (omega (arith, below, c.loop-slot-test.false))))
