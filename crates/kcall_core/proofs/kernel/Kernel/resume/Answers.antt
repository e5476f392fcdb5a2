use Rattle.kcall_core.proofs.Prelude.{◌∙◌, ◌≡◌, live_now, Some, sym}
use Rattle.kcall_core.proofs.table.Stops.{now-slot}
use Rattle.kcall_core.proofs.table.InCall.{call-told}
use Rattle.kcall_core.proofs.making.CallAnswers.{resumed-made, resumed-answer}
use Rattle.kcall_core.proofs.kernel.Kernel.resume.Goals as goal

pub returns-clause-made : goal.returns-clause-made
returns-clause-made c =
    let k = c.args.self.now in
    let busy : (live_now k c.args.hart.now).call ≡ Some c.in-Some.call =
    sym (call-told k c.running_slot-slot.result c.progress.result
    (sym (now-slot c.running_slot-slot.result c.requires.whole.sound c.running_slot-slot.ensures.is)) c.progress.ensures) ∙ c.in-Some.is in
    resumed-made k c.args.hart.now c.requires.unmarked busy c.perform.ensures.made

pub returns-clause-answer : goal.returns-clause-answer
returns-clause-answer c =
    let k = c.args.self.now in
    let busy : (live_now k c.args.hart.now).call ≡ Some c.in-Some.call =
    sym (call-told k c.running_slot-slot.result c.progress.result
    (sym (now-slot c.running_slot-slot.result c.requires.whole.sound c.running_slot-slot.ensures.is)) c.progress.ensures) ∙ c.in-Some.is in
    resumed-answer k c.args.hart.now c.requires.unmarked busy c.perform.result c.perform.ensures.answer
