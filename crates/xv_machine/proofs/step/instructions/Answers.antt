use Rattle.xv_machine.proofs.Instructed.{busy-instructed, row-instructed}
use Rattle.xv_machine.proofs.step.instructions.Goals as goal

pub returns-then-is_busy : goal.returns-then-is_busy
returns-then-is_busy c = busy-instructed c.args.kernel.now c.args.hart.now c.args.most c.requires.whole c.requires.running c.requires.first (c.is_busy.ensures.busy c.args.hart.now c.if-is_busy.true)

pub steps-requires-clause-between_calls : goal.steps-requires-clause-between_calls
steps-requires-clause-between_calls c = c.is_busy.ensures.free c.args.hart.now c.if-is_busy.false

pub returns : goal.returns
returns c = row-instructed c.args.kernel.now c.steps.new.self c.args.hart.now c.steps.new.hart c.args.most c.steps.result.made c.steps.result.stop
    c.steps.ensures c.requires.whole c.requires.running c.requires.first
