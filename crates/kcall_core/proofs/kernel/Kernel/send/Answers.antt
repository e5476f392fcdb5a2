use Rattle.kcall_core.proofs.making.ConsoleMakes.{has-sent, send-whole, send-happens, send-wakes-due, console-nobody}
use Rattle.kcall_core.proofs.kernel.Kernel.send.Goals as goal

pub returns-clause-whole : goal.returns-clause-whole
returns-clause-whole c = λ hart whole.
    send-whole (has-sent c.args.self.now c.wake_if.new.self c.is_some.result c.send-byte.result c.send-byte.new.self c.send-byte.ensures.after
    c.send-byte.ensures.limits c.send-byte.ensures.byte c.is_some.ensures c.wake_if.ensures.table c.wake_if.ensures.rest)
    c.send-byte.result whole

pub returns-clause-happens : goal.returns-clause-happens
returns-clause-happens c = λ hart halted whole.
    send-happens
    (has-sent c.args.self.now c.wake_if.new.self c.is_some.result c.send-byte.result c.send-byte.new.self c.send-byte.ensures.after
    c.send-byte.ensures.limits c.send-byte.ensures.byte c.is_some.ensures c.wake_if.ensures.table c.wake_if.ensures.rest)
    c.send-byte.result whole c.send-byte.ensures.byte halted

pub returns-clause-wakes : goal.returns-clause-wakes
returns-clause-wakes c = λ hart halted whole.
    send-wakes-due
    (has-sent c.args.self.now c.wake_if.new.self c.is_some.result c.send-byte.result c.send-byte.new.self c.send-byte.ensures.after
    c.send-byte.ensures.limits c.send-byte.ensures.byte c.is_some.ensures c.wake_if.ensures.table c.wake_if.ensures.rest)
    c.send-byte.result whole halted

pub returns-clause-nobody : goal.returns-clause-nobody
returns-clause-nobody c = λ nobody.
    console-nobody
    (has-sent c.args.self.now c.wake_if.new.self c.is_some.result c.send-byte.result c.send-byte.new.self c.send-byte.ensures.after
    c.send-byte.ensures.limits c.send-byte.ensures.byte c.is_some.ensures c.wake_if.ensures.table c.wake_if.ensures.rest) nobody
