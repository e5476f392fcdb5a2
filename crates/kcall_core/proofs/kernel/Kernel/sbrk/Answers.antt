use Rattle.kcall_core.proofs.Prelude.{◌∙◌, answer_of, ap, Own, sym, to_z-of_z, w32, w64}
use Rattle.kcall_core.proofs.making.Imaged.{image-same, image-makes}
use Rattle.kcall_core.proofs.processes.SbrkRow.{row-size, row-answer, row-outside, row-too-dear, row-resized}
use Rattle.kcall_core.proofs.kernel.Kernel.sbrk.Goals as goal

pub returns-in_default-clause-made : goal.returns-in_default-clause-made
returns-in_default-clause-made c =
    let k = c.args.self.now in
    let h = c.args.hart.now in
    let has = image-same k h c.requires.whole.sound c.requires.running in
    let is = row-size k h c.requires.whole.sound c.running_slot-slot.result c.running_slot-slot.ensures.is c.args.call.now c.size-old.result
    c.size-old.ensures.value _ (to_z-of_z w32 c.c_int.result (record { sfits = c.c_int.type_inv }) ∙ c.c_int.ensures) c.resized.result _
    c.resized.ensures.value c.in_default.is in
    image-makes k h c.requires.whole c.requires.running has c.done.new.self c.done.new.hart _ c.done.ensures.sound c.done.ensures.kernel
    c.done.ensures.state c.args.call.now _ (row-outside k h c.args.call.now has is)

pub returns-in_default-clause-answer : goal.returns-in_default-clause-answer
returns-in_default-clause-answer c =
    let k = c.args.self.now in
    let h = c.args.hart.now in
    let has = image-same k h c.requires.whole.sound c.requires.running in
    let is = row-size k h c.requires.whole.sound c.running_slot-slot.result c.running_slot-slot.ensures.is c.args.call.now c.size-old.result
    c.size-old.ensures.value _ (to_z-of_z w32 c.c_int.result (record { sfits = c.c_int.type_inv }) ∙ c.c_int.ensures) c.resized.result _
    c.resized.ensures.value c.in_default.is in
    ap (λ (o : Own). o.answer) (row-outside k h c.args.call.now has is) ∙ sym (ap (answer_of c.args.call.now.number) c.done.ensures.end)

pub returns-then-not-resize-clause-made : goal.returns-then-not-resize-clause-made
returns-then-not-resize-clause-made c =
    let k = c.args.self.now in
    let h = c.args.hart.now in
    let refused = c.resize.ensures.refused c.if-not-resize.true in
    let is = row-size k h c.requires.whole.sound c.running_slot-slot.result c.running_slot-slot.ensures.is c.args.call.now c.size-old.result
    c.size-old.ensures.value _ (to_z-of_z w32 c.c_int.result (record { sfits = c.c_int.type_inv }) ∙ c.c_int.ensures) c.resized.result _
    c.resized.ensures.value c.in-Some.is in
    image-makes k h c.requires.whole c.requires.running refused.2 c.done-then-not-resize.new.self c.done-then-not-resize.new.hart _
    c.done-then-not-resize.ensures.sound c.done-then-not-resize.ensures.kernel c.done-then-not-resize.ensures.state c.args.call.now _
    (row-too-dear k h c.args.call.now c.in-Some.size is c.in-Some.ensures.limit refused.0 refused.1 refused.2)

pub returns-then-not-resize-clause-answer : goal.returns-then-not-resize-clause-answer
returns-then-not-resize-clause-answer c =
    let k = c.args.self.now in
    let h = c.args.hart.now in
    let refused = c.resize.ensures.refused c.if-not-resize.true in
    let is = row-size k h c.requires.whole.sound c.running_slot-slot.result c.running_slot-slot.ensures.is c.args.call.now c.size-old.result
    c.size-old.ensures.value _ (to_z-of_z w32 c.c_int.result (record { sfits = c.c_int.type_inv }) ∙ c.c_int.ensures) c.resized.result _
    c.resized.ensures.value c.in-Some.is in
    ap (λ (o : Own). o.answer) (row-too-dear k h c.args.call.now c.in-Some.size is c.in-Some.ensures.limit refused.0 refused.1 refused.2)
    ∙ sym (ap (answer_of c.args.call.now.number) c.done-then-not-resize.ensures.end)

pub returns-clause-made : goal.returns-clause-made
returns-clause-made c =
    let k = c.args.self.now in
    let h = c.args.hart.now in
    let has = c.resize.ensures.resized c.if-not-resize.false in
    let is = row-size k h c.requires.whole.sound c.running_slot-slot.result c.running_slot-slot.ensures.is c.args.call.now c.size-old.result
    c.size-old.ensures.value _ (to_z-of_z w32 c.c_int.result (record { sfits = c.c_int.type_inv }) ∙ c.c_int.ensures) c.resized.result _
    c.resized.ensures.value c.in-Some.is in
    let told = row-answer k h c.requires.whole.sound c.running_slot-slot.result c.running_slot-slot.ensures.is c.size-old.result
    c.size-old.ensures.value c.size-old.ensures.range _
    (to_z-of_z w64 c.cast_signed.result (record { sfits = c.cast_signed.type_inv }) ∙ c.cast_signed.ensures) in
    image-makes k h c.requires.whole c.requires.running has c.done-2.new.self c.done-2.new.hart _ c.done-2.ensures.sound c.done-2.ensures.kernel
    c.done-2.ensures.state c.args.call.now _ (row-resized k h c.args.call.now c.in-Some.size is c.in-Some.ensures.limit _ told has)

pub returns-clause-answer : goal.returns-clause-answer
returns-clause-answer c =
    let k = c.args.self.now in
    let h = c.args.hart.now in
    let has = c.resize.ensures.resized c.if-not-resize.false in
    let is = row-size k h c.requires.whole.sound c.running_slot-slot.result c.running_slot-slot.ensures.is c.args.call.now c.size-old.result
    c.size-old.ensures.value _ (to_z-of_z w32 c.c_int.result (record { sfits = c.c_int.type_inv }) ∙ c.c_int.ensures) c.resized.result _
    c.resized.ensures.value c.in-Some.is in
    let told = row-answer k h c.requires.whole.sound c.running_slot-slot.result c.running_slot-slot.ensures.is c.size-old.result
    c.size-old.ensures.value c.size-old.ensures.range _
    (to_z-of_z w64 c.cast_signed.result (record { sfits = c.cast_signed.type_inv }) ∙ c.cast_signed.ensures) in
    ap (λ (o : Own). o.answer) (row-resized k h c.args.call.now c.in-Some.size is c.in-Some.ensures.limit _ told has) ∙ sym (ap (answer_of c.args.call.now.number) c.done-2.ensures.end)
