use Rattle.xv_machine.proofs.step.step.Goals as goal

pub go_on-requires-clause-busy : goal.go_on-requires-clause-busy
go_on-requires-clause-busy c = c.is_busy.ensures.busy c.args.hart.now c.if-is_busy.true

pub instruction-requires-clause-between_calls : goal.instruction-requires-clause-between_calls
instruction-requires-clause-between_calls c = c.is_busy.ensures.free c.args.hart.now c.if-is_busy.false
