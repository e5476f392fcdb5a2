use Rattle.xv_machine.proofs.Unwatched.{busy-unwatched}
use Rattle.xv_machine.proofs.step.instructions_unwatched.Goals as goal

pub returns-then-is_busy : goal.returns-then-is_busy
returns-then-is_busy c = busy-unwatched c.args.watch.now.addresses.now c.args.watch.now.bytes.now c.args.kernel.now c.args.hart.now c.args.most c.requires.whole
    (c.is_busy.ensures.busy c.args.hart.now c.if-is_busy.true)

pub steps_unwatched-requires-clause-between_calls : goal.steps_unwatched-requires-clause-between_calls
steps_unwatched-requires-clause-between_calls c = c.is_busy.ensures.free c.args.hart.now c.if-is_busy.false
