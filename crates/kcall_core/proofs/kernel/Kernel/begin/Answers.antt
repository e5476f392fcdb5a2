use Rattle.kcall_core.proofs.Prelude.{Some}
use Rattle.kcall_core.proofs.table.InCall.{progress-set}
use Rattle.kcall_core.proofs.making.CallAnswers.{asked-begun, has-begun, begun-whole}
use Rattle.kcall_core.proofs.kernel.Kernel.begin.Goals as goal

pub returns-clause-whole : goal.returns-clause-whole
returns-clause-whole c =
    begun-whole c.requires.whole c.requires.running
    (has-begun c.args.self.now c.args.hart.now c.asked_call-call.result _ c.pass_call.new.hart c.requires.whole.sound c.requires.running
    (progress-set c.args.self.now c.running_slot-slot.result (Some c.asked_call-call.result) c.set_progress.new.self c.running_slot-slot.ensures.is
    c.set_progress.ensures) c.pass_call.ensures (asked-begun c.args.self.now c.args.hart.now c.asked_call-call.result c.asked_call-call.ensures))

pub returns-clause-call : goal.returns-clause-call
returns-clause-call c = asked-begun c.args.self.now c.args.hart.now c.asked_call-call.result c.asked_call-call.ensures

pub returns-clause-live : goal.returns-clause-live
returns-clause-live c =
    (has-begun c.args.self.now c.args.hart.now c.asked_call-call.result _ c.pass_call.new.hart c.requires.whole.sound c.requires.running
    (progress-set c.args.self.now c.running_slot-slot.result (Some c.asked_call-call.result) c.set_progress.new.self c.running_slot-slot.ensures.is
    c.set_progress.ensures) c.pass_call.ensures (asked-begun c.args.self.now c.args.hart.now c.asked_call-call.result c.asked_call-call.ensures)).live

pub returns-clause-state : goal.returns-clause-state
returns-clause-state c =
    (has-begun c.args.self.now c.args.hart.now c.asked_call-call.result _ c.pass_call.new.hart c.requires.whole.sound c.requires.running
    (progress-set c.args.self.now c.running_slot-slot.result (Some c.asked_call-call.result) c.set_progress.new.self c.running_slot-slot.ensures.is
    c.set_progress.ensures) c.pass_call.ensures (asked-begun c.args.self.now c.args.hart.now c.asked_call-call.result c.asked_call-call.ensures)).state
