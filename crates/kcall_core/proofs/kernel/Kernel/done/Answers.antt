use Rattle.kcall_core.proofs.Prelude.{◌≡◌, None, rules, with_a0, word}
use Rattle.kcall_core.proofs.table.InCall.{is-in-call, progress-set}
use Rattle.kcall_core.proofs.kernel.Kernel.done.Goals as goal

pub returns-clause-sound : goal.returns-clause-sound
returns-clause-sound c =
    let told : c.put_answer.new.hart ≡ record c.args.hart.now { regs = with_a0 c.args.hart.now.regs (word c.args.value) } = search rules in
    (is-in-call c.args.self.now c.args.hart.now None (with_a0 c.args.hart.now.regs (word c.args.value)) _ c.put_answer.new.hart c.requires.sound c.requires.running
    (progress-set c.args.self.now c.running_slot-slot.result None c.set_progress.new.self c.running_slot-slot.ensures.is c.set_progress.ensures) told).sound

pub returns-clause-state : goal.returns-clause-state
returns-clause-state c =
    let told : c.put_answer.new.hart ≡ record c.args.hart.now { regs = with_a0 c.args.hart.now.regs (word c.args.value) } = search rules in
    (is-in-call c.args.self.now c.args.hart.now None (with_a0 c.args.hart.now.regs (word c.args.value)) _ c.put_answer.new.hart c.requires.sound c.requires.running
    (progress-set c.args.self.now c.running_slot-slot.result None c.set_progress.new.self c.running_slot-slot.ensures.is c.set_progress.ensures) told).state
