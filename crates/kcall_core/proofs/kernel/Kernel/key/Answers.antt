use Rattle.kcall_core.proofs.making.ConsoleMakes.{has-key, key-whole, key-happens, key-wakes-due, console-nobody}
use Rattle.kcall_core.proofs.kernel.Kernel.key.Goals as goal

pub returns-clause-whole : goal.returns-clause-whole
returns-clause-whole c = λ hart whole.
    key-whole c.args.byte
    (has-key c.args.self.now c.wake_if.new.self c.args.byte c.committed-is_due.result c.key-echo.new.self c.key-echo.ensures.after
    c.key-echo.ensures.limits c.committed-is_due.ensures.value c.wake_if.ensures.table c.wake_if.ensures.rest)
    c.key-echo.result.items whole

pub returns-clause-happens : goal.returns-clause-happens
returns-clause-happens c = λ hart whole.
    key-happens c.args.byte
    (has-key c.args.self.now c.wake_if.new.self c.args.byte c.committed-is_due.result c.key-echo.new.self c.key-echo.ensures.after
    c.key-echo.ensures.limits c.committed-is_due.ensures.value c.wake_if.ensures.table c.wake_if.ensures.rest)
    c.key-echo.result.items whole c.key-echo.ensures.echo

pub returns-clause-wakes : goal.returns-clause-wakes
returns-clause-wakes c = λ hart whole.
    key-wakes-due c.args.byte
    (has-key c.args.self.now c.wake_if.new.self c.args.byte c.committed-is_due.result c.key-echo.new.self c.key-echo.ensures.after
    c.key-echo.ensures.limits c.committed-is_due.ensures.value c.wake_if.ensures.table c.wake_if.ensures.rest)
    c.key-echo.result.items whole

pub returns-clause-nobody : goal.returns-clause-nobody
returns-clause-nobody c = λ nobody.
    console-nobody
    (has-key c.args.self.now c.wake_if.new.self c.args.byte c.committed-is_due.result c.key-echo.new.self c.key-echo.ensures.after
    c.key-echo.ensures.limits c.committed-is_due.ensures.value c.wake_if.ensures.table c.wake_if.ensures.rest) nobody
