use Rattle.kcall_core.proofs.Prelude.{◌∙◌, refl, slot_now, sym}
use Rattle.kcall_core.proofs.table.States.{running}
use Rattle.kcall_core.proofs.making.TouchedSteps.{other-fault, untouched-fault, touched-next, touched-stop, touched-free, touched-makes}
use Rattle.kcall_core.proofs.kernel.Kernel.step_touching.Goals as goal

pub returns-then-not-is_data_page_fault-clause-stop : goal.returns-then-not-is_data_page_fault-clause-stop
returns-then-not-is_data_page_fault-clause-stop c =
    other-fault c.args.self.now c.args.hart.now c.args.cause c.requires.faulted c.args.hart.now.fault_address refl (sym c.is_data_page_fault.ensures ∙ c.if-not-is_data_page_fault.true)

pub returns-then-not-touch_page-clause-stop : goal.returns-then-not-touch_page-clause-stop
returns-then-not-touch_page-clause-stop c =
    untouched-fault c.args.self.now c.args.hart.now c.args.cause c.requires.faulted c.fault_address.result c.fault_address.ensures
    (sym c.is_data_page_fault.ensures ∙ c.if-not-is_data_page_fault.false)
    (c.touch_page.ensures.refused c.if-not-touch_page.true c.args.hart.now c.requires.whole)

pub step_again-requires-clause-running : goal.step_again-requires-clause-running
step_again-requires-clause-running c =
    let touched = c.touch_page.ensures.touched c.if-not-touch_page.false c.args.hart.now c.requires.whole in
    let r = running c.touch_page.new.self c.args.hart.now touched.whole.sound touched.running in
    (slot_now c.touch_page.new.self, r.is.runs)

pub returns-clause-stop : goal.returns-clause-stop
returns-clause-stop c =
    let touched = c.touch_page.ensures.touched c.if-not-touch_page.false c.args.hart.now c.requires.whole in
    let r = running c.touch_page.new.self c.args.hart.now touched.whole.sound touched.running in
    touched-stop c.args.self.now c.args.hart.now c.args.cause c.requires.faulted c.fault_address.result c.fault_address.ensures (sym c.is_data_page_fault.ensures ∙ c.if-not-is_data_page_fault.false)
    c.touch_page.new.self touched (c.touch_page.ensures.absent c.if-not-touch_page.false c.args.hart.now c.requires.whole)
    c.step_again.new.self c.step_again.new.hart c.step_again.result (c.step_again.ensures (slot_now c.touch_page.new.self) r.is.runs)

pub returns-clause-done : goal.returns-clause-done
returns-clause-done c next =
    let touched = c.touch_page.ensures.touched c.if-not-touch_page.false c.args.hart.now c.requires.whole in
    let r = running c.touch_page.new.self c.args.hart.now touched.whole.sound touched.running in
    touched-makes c.args.self.now c.args.hart.now c.args.cause c.requires.faulted c.fault_address.result c.fault_address.ensures (sym c.is_data_page_fault.ensures ∙ c.if-not-is_data_page_fault.false)
    c.touch_page.new.self touched (c.touch_page.ensures.absent c.if-not-touch_page.false c.args.hart.now c.requires.whole)
    c.step_again.new.self c.step_again.new.hart c.step_again.result (c.step_again.ensures (slot_now c.touch_page.new.self) r.is.runs) c.requires.between_calls

pub returns-clause-running : goal.returns-clause-running
returns-clause-running c next = (c.touch_page.ensures.touched c.if-not-touch_page.false c.args.hart.now c.requires.whole).running

pub returns-clause-between_calls : goal.returns-clause-between_calls
returns-clause-between_calls c next =
    let touched = c.touch_page.ensures.touched c.if-not-touch_page.false c.args.hart.now c.requires.whole in
    let r = running c.touch_page.new.self c.args.hart.now touched.whole.sound touched.running in
    touched-free c.args.self.now c.args.hart.now c.args.cause c.requires.faulted c.fault_address.result c.fault_address.ensures (sym c.is_data_page_fault.ensures ∙ c.if-not-is_data_page_fault.false)
    c.touch_page.new.self touched (c.touch_page.ensures.absent c.if-not-touch_page.false c.args.hart.now c.requires.whole)
    c.step_again.new.self c.step_again.new.hart c.step_again.result (c.step_again.ensures (slot_now c.touch_page.new.self) r.is.runs) c.requires.between_calls

pub returns-clause-stays : goal.returns-clause-stays
returns-clause-stays c other =
    let touched = c.touch_page.ensures.touched c.if-not-touch_page.false c.args.hart.now c.requires.whole in
    let r = running c.touch_page.new.self c.args.hart.now touched.whole.sound touched.running in
    absurd (other (touched-next c.args.self.now c.args.hart.now c.args.cause c.requires.faulted c.fault_address.result c.fault_address.ensures
    (sym c.is_data_page_fault.ensures ∙ c.if-not-is_data_page_fault.false)
    c.touch_page.new.self touched (c.touch_page.ensures.absent c.if-not-touch_page.false c.args.hart.now c.requires.whole)
    c.step_again.new.self c.step_again.new.hart c.step_again.result (c.step_again.ensures (slot_now c.touch_page.new.self) r.is.runs)))
