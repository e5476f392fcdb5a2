use Rattle.kcall_core.proofs.Prelude.{ap, Kernel, refl}
use Rattle.kcall_core.proofs.making.TickMakes.{has-ticked, same-awake, tick-whole, tick-happens, tick-due}
use Rattle.kcall_core.proofs.kernel.Kernel.tick_on.Goals as goal

pub returns-clause-whole : goal.returns-clause-whole
returns-clause-whole c =
    let k = c.args.self.now in
    let h = c.args.hart.now in
    let x = has-ticked k k c.wake.new.self h h _ c.requires.whole.sound refl refl refl refl c.wake.ensures.table c.wake.ensures.rest (c.wake.ensures.sound h) (c.wake.ensures.state h) in
    tick-whole c.requires.whole x (same-awake c.requires.whole x (ap (λ (y : Kernel). y.current) c.wake.ensures.rest))

pub returns-clause-happens : goal.returns-clause-happens
returns-clause-happens c =
    let k = c.args.self.now in
    let h = c.args.hart.now in
    tick-happens c.requires.whole
    (has-ticked k k c.wake.new.self h h _ c.requires.whole.sound refl refl refl refl c.wake.ensures.table c.wake.ensures.rest (c.wake.ensures.sound h) (c.wake.ensures.state h))

pub returns-clause-wakes : goal.returns-clause-wakes
returns-clause-wakes c =
    let k = c.args.self.now in
    let h = c.args.hart.now in
    tick-due c.requires.whole
    (has-ticked k k c.wake.new.self h h _ c.requires.whole.sound refl refl refl refl c.wake.ensures.table c.wake.ensures.rest (c.wake.ensures.sound h) (c.wake.ensures.state h))
