use Rattle.kcall_core.proofs.Prelude.{◌∙◌, answer_of, ap, Makes, Own, subst, sym, to_z-of_z, w32, w64}
use Rattle.kcall_core.proofs.making.Imaged.{image-lazily, image-makes}
use Rattle.kcall_core.proofs.processes.SbrkRow.{row-answer}
use Rattle.kcall_core.proofs.processes.LazyRow.{lazy-size, row-lazily-refused, row-lazily}
use Rattle.kcall_core.proofs.kernel.Kernel.sbrklazy.Goals as goal

pub done-requires-clause-sound : goal.done-requires-clause-sound
done-requires-clause-sound c =
    (image-lazily c.args.self.now c.args.hart.now c.requires.whole.sound c.requires.running c.running_slot-slot.result c.grow_lazily.new.self
    c.in-Some.size c.running_slot-slot.ensures.is c.grow_lazily.ensures.grown c.grow_lazily.ensures.runs).sound

pub returns-in_default-clause-made : goal.returns-in_default-clause-made
returns-in_default-clause-made c =
    let k = c.args.self.now in
    let h = c.args.hart.now in
    let is = lazy-size k h c.requires.whole.sound c.running_slot-slot.result c.running_slot-slot.ensures.is c.args.call.now c.size-old.result
    c.size-old.ensures.value _ (to_z-of_z w32 c.c_int.result (record { sfits = c.c_int.type_inv }) ∙ c.c_int.ensures) c.resized_lazily.result _
    c.resized_lazily.ensures.value c.in_default.is in
    subst (λ o. Makes k h o c.refuse.new.self c.refuse.new.hart) (sym (row-lazily-refused k h c.args.call.now is)) (c.refuse.ensures.made c.args.call.now)

pub returns-in_default-clause-answer : goal.returns-in_default-clause-answer
returns-in_default-clause-answer c =
    let k = c.args.self.now in
    let h = c.args.hart.now in
    let is = lazy-size k h c.requires.whole.sound c.running_slot-slot.result c.running_slot-slot.ensures.is c.args.call.now c.size-old.result
    c.size-old.ensures.value _ (to_z-of_z w32 c.c_int.result (record { sfits = c.c_int.type_inv }) ∙ c.c_int.ensures) c.resized_lazily.result _
    c.resized_lazily.ensures.value c.in_default.is in
    ap (λ (o : Own). o.answer) (row-lazily-refused k h c.args.call.now is) ∙ ap (answer_of c.args.call.now.number) (sym c.refuse.ensures.end)

pub returns-clause-made : goal.returns-clause-made
returns-clause-made c =
    let k = c.args.self.now in
    let h = c.args.hart.now in
    let has = image-lazily k h c.requires.whole.sound c.requires.running c.running_slot-slot.result c.grow_lazily.new.self c.in-Some.size
    c.running_slot-slot.ensures.is c.grow_lazily.ensures.grown c.grow_lazily.ensures.runs in
    let is = lazy-size k h c.requires.whole.sound c.running_slot-slot.result c.running_slot-slot.ensures.is c.args.call.now c.size-old.result
    c.size-old.ensures.value _ (to_z-of_z w32 c.c_int.result (record { sfits = c.c_int.type_inv }) ∙ c.c_int.ensures) c.resized_lazily.result _
    c.resized_lazily.ensures.value c.in-Some.is in
    let told = row-answer k h c.requires.whole.sound c.running_slot-slot.result c.running_slot-slot.ensures.is c.size-old.result
    c.size-old.ensures.value c.size-old.ensures.range _
    (to_z-of_z w64 c.cast_signed.result (record { sfits = c.cast_signed.type_inv }) ∙ c.cast_signed.ensures) in
    image-makes k h c.requires.whole c.requires.running has c.done.new.self c.done.new.hart _ c.done.ensures.sound c.done.ensures.kernel
    c.done.ensures.state c.args.call.now _ (row-lazily k h c.args.call.now c.in-Some.size is _ told has)

pub returns-clause-answer : goal.returns-clause-answer
returns-clause-answer c =
    let k = c.args.self.now in
    let h = c.args.hart.now in
    let has = image-lazily k h c.requires.whole.sound c.requires.running c.running_slot-slot.result c.grow_lazily.new.self c.in-Some.size
    c.running_slot-slot.ensures.is c.grow_lazily.ensures.grown c.grow_lazily.ensures.runs in
    let is = lazy-size k h c.requires.whole.sound c.running_slot-slot.result c.running_slot-slot.ensures.is c.args.call.now c.size-old.result
    c.size-old.ensures.value _ (to_z-of_z w32 c.c_int.result (record { sfits = c.c_int.type_inv }) ∙ c.c_int.ensures) c.resized_lazily.result _
    c.resized_lazily.ensures.value c.in-Some.is in
    let told = row-answer k h c.requires.whole.sound c.running_slot-slot.result c.running_slot-slot.ensures.is c.size-old.result
    c.size-old.ensures.value c.size-old.ensures.range _
    (to_z-of_z w64 c.cast_signed.result (record { sfits = c.cast_signed.type_inv }) ∙ c.cast_signed.ensures) in
    ap (λ (o : Own). o.answer) (row-lazily k h c.args.call.now c.in-Some.size is _ told has) ∙ sym (ap (answer_of c.args.call.now.number) c.done.ensures.end)
