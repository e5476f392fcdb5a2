use Rattle.kcall_core.proofs.Prelude.{◌∙◌, answer_of, ap, c_int, Called, is_none, Makes, minus_one, named_by, Own, pos, position, refl, subst, sym, to_z-of_z, view_now, w32, w64}
use Rattle.kcall_core.proofs.processes.Exits.{whole-closing}
use Rattle.kcall_core.proofs.making.CallAnswers.{IsDone, done-at-once}
use Rattle.kcall_core.proofs.files.OneClosed.{used-open}
use Rattle.kcall_core.proofs.files.UsedDescriptor.{in-use-named, unused-shown}
use Rattle.kcall_core.proofs.files.Lowest.{lowest-shown, lowest-free}
use Rattle.kcall_core.proofs.files.DupMakes.{dup-refused, dup-full, shared-sound, dup-answer, dup-makes}
use Rattle.kcall_core.proofs.processes.Handing.{closing-may}
use Rattle.kcall_core.proofs.kernel.Kernel.dup.Goals as goal

pub returns-in_default-clause-made : goal.returns-in_default-clause-made
returns-in_default-clause-made c =
    let k = c.args.self.now in
    let h = c.args.hart.now in
    let asked = to_z-of_z w32 c.c_int.result (record { sfits = c.c_int.type_inv }) ∙ c.c_int.ensures in
    let row = dup-refused c.args.call.now (view_now k h)
    (unused-shown c.requires.whole c.requires.running c.running_slot-slot.ensures.is (c_int c.args.call.now.a0)
    (λ d below e. c.in_default.ensures.unused d below (asked ∙ e))) in
    subst (λ (o : Own). Makes k h o c.done.new.self c.done.new.hart) (sym row)
    (done-at-once c.args.call.now minus_one refl c.requires.whole c.requires.running (record { sound = c.done.ensures.sound; kernel = c.done.ensures.kernel; state = c.done.ensures.state }))

pub returns-in_default-clause-answer : goal.returns-in_default-clause-answer
returns-in_default-clause-answer c =
    let k = c.args.self.now in
    let h = c.args.hart.now in
    let asked = to_z-of_z w32 c.c_int.result (record { sfits = c.c_int.type_inv }) ∙ c.c_int.ensures in
    let row = dup-refused c.args.call.now (view_now k h)
    (unused-shown c.requires.whole c.requires.running c.running_slot-slot.ensures.is (c_int c.args.call.now.a0)
    (λ d below e. c.in_default.ensures.unused d below (asked ∙ e))) in
    ap (λ (o : Own). o.answer) row ∙ ap (answer_of c.args.call.now.number) (sym c.done.ensures.end)

pub share-requires-clause-may : goal.share-requires-clause-may
share-requires-clause-may c =
    let closing = whole-closing c.requires.whole c.requires.running in
    closing-may c.args.self.now c.args.hart.now _ closing
    (used-open closing c.running_slot-slot.ensures.is c.in-Some.ensures.used.1 (ap (λ ds. named_by ds c.in-Some.fd) (sym c.descriptors.ensures) ∙ sym c.get.ensures ∙ c.in-Some-get.is))

pub returns-in_default-lowest-clause-made : goal.returns-in_default-lowest-clause-made
returns-in_default-lowest-clause-made c =
    let k = c.args.self.now in
    let h = c.args.hart.now in
    let slot = c.running_slot-slot.result in
    let inside = c.running_slot-slot.ensures.within in
    let fd = c.in-Some.ensures.used in
    let asked = to_z-of_z w32 c.c_int.result (record { sfits = c.c_int.type_inv }) ∙ c.c_int.ensures in
    let names = ap (λ ds. named_by ds c.in-Some.fd) (sym c.descriptors.ensures) ∙ sym c.get.ensures ∙ c.in-Some-get.is in
    let source = in-use-named c.requires.whole c.requires.running c.running_slot-slot.ensures.is fd.1 names in
    let told = ap (position is_none) (sym c.descriptors-2.ensures) ∙ sym c.lowest.ensures ∙ c.in_default-lowest.is in
    let row = dup-full k h c.args.call.now _ _ source.0 fd.1 source.1 (sym asked ∙ fd.0) (lowest-shown c.requires.whole c.requires.running c.running_slot-slot.ensures.is inside ∙ told) in
    subst (λ (o : Own). Makes k h o c.done-in_default-lowest.new.self c.done-in_default-lowest.new.hart) (sym row)
    (done-at-once c.args.call.now minus_one refl c.requires.whole c.requires.running
    (record {
      sound = c.done-in_default-lowest.ensures.sound;
      kernel = c.done-in_default-lowest.ensures.kernel;
      state = c.done-in_default-lowest.ensures.state;
    }))

pub returns-in_default-lowest-clause-answer : goal.returns-in_default-lowest-clause-answer
returns-in_default-lowest-clause-answer c =
    let k = c.args.self.now in
    let h = c.args.hart.now in
    let slot = c.running_slot-slot.result in
    let inside = c.running_slot-slot.ensures.within in
    let fd = c.in-Some.ensures.used in
    let asked = to_z-of_z w32 c.c_int.result (record { sfits = c.c_int.type_inv }) ∙ c.c_int.ensures in
    let names = ap (λ ds. named_by ds c.in-Some.fd) (sym c.descriptors.ensures) ∙ sym c.get.ensures ∙ c.in-Some-get.is in
    let source = in-use-named c.requires.whole c.requires.running c.running_slot-slot.ensures.is fd.1 names in
    let told = ap (position is_none) (sym c.descriptors-2.ensures) ∙ sym c.lowest.ensures ∙ c.in_default-lowest.is in
    let row = dup-full k h c.args.call.now _ _ source.0 fd.1 source.1 (sym asked ∙ fd.0) (lowest-shown c.requires.whole c.requires.running c.running_slot-slot.ensures.is inside ∙ told) in
    ap (λ (o : Own). o.answer) row ∙ ap (answer_of c.args.call.now.number) (sym c.done-in_default-lowest.ensures.end)

pub share-requires-clause-free : goal.share-requires-clause-free
share-requires-clause-free c =
    let k = c.args.self.now in
    let slot = c.running_slot-slot.result in
    let inside = c.running_slot-slot.ensures.within in
    (lowest-free c.requires.whole inside (ap (position is_none) (sym c.descriptors-2.ensures) ∙ sym c.lowest.ensures ∙ c.in-Some-lowest.is)).1

pub share-requires-clause-open : goal.share-requires-clause-open
share-requires-clause-open c =
    used-open (whole-closing c.requires.whole c.requires.running) c.running_slot-slot.ensures.is c.in-Some.ensures.used.1
    (ap (λ ds. named_by ds c.in-Some.fd) (sym c.descriptors.ensures) ∙ sym c.get.ensures ∙ c.in-Some-get.is)

pub done-requires-2-clause-sound : goal.done-requires-2-clause-sound
done-requires-2-clause-sound c =
    let k = c.args.self.now in
    let h = c.args.hart.now in
    let slot = c.running_slot-slot.result in
    let inside = c.running_slot-slot.ensures.within in
    let fd = c.in-Some.ensures.used in
    let asked = to_z-of_z w32 c.c_int.result (record { sfits = c.c_int.type_inv }) ∙ c.c_int.ensures in
    let names = ap (λ ds. named_by ds c.in-Some.fd) (sym c.descriptors.ensures) ∙ sym c.get.ensures ∙ c.in-Some-get.is in
    let source = in-use-named c.requires.whole c.requires.running c.running_slot-slot.ensures.is fd.1 names in
    let told = ap (position is_none) (sym c.descriptors-2.ensures) ∙ sym c.lowest.ensures ∙ c.in-Some-lowest.is in
    let free = lowest-free c.requires.whole inside told in
    shared-sound k h c.args.call.now slot _ _ _ source.0 c.requires.whole c.requires.running c.running_slot-slot.ensures.is fd.1 source.1 free.0
    free.1 c.share.new.self c.share.ensures.table c.share.ensures.files (c.share.ensures.memories source.0 source.1.kind) c.share.ensures.rest

pub returns-clause-made : goal.returns-clause-made
returns-clause-made c =
    let k = c.args.self.now in
    let h = c.args.hart.now in
    let slot = c.running_slot-slot.result in
    let inside = c.running_slot-slot.ensures.within in
    let fd = c.in-Some.ensures.used in
    let asked = to_z-of_z w32 c.c_int.result (record { sfits = c.c_int.type_inv }) ∙ c.c_int.ensures in
    let names = ap (λ ds. named_by ds c.in-Some.fd) (sym c.descriptors.ensures) ∙ sym c.get.ensures ∙ c.in-Some-get.is in
    let source = in-use-named c.requires.whole c.requires.running c.running_slot-slot.ensures.is fd.1 names in
    let told = ap (position is_none) (sym c.descriptors-2.ensures) ∙ sym c.lowest.ensures ∙ c.in-Some-lowest.is in
    let free = lowest-free c.requires.whole inside told in
    let value = to_z-of_z w64 c.from.result (record { sfits = c.from.type_inv }) ∙ c.from.ensures ∙ ap pos c.number.ensures.value in
    dup-makes k h c.args.call.now slot _ _ _ source.0 c.requires.whole c.requires.running c.running_slot-slot.ensures.is fd.1 source.1 free.0 free.1
    c.share.new.self c.share.ensures.table c.share.ensures.files (c.share.ensures.memories source.0 source.1.kind) c.share.ensures.rest
    (sym asked ∙ fd.0) (lowest-shown c.requires.whole c.requires.running c.running_slot-slot.ensures.is inside ∙ told) c.done-2.new.self c.done-2.new.hart
    (subst (λ z. IsDone c.share.new.self h z c.done-2.new.self c.done-2.new.hart) value (record { sound = c.done-2.ensures.sound; kernel = c.done-2.ensures.kernel; state = c.done-2.ensures.state }))

pub returns-clause-answer : goal.returns-clause-answer
returns-clause-answer c =
    let k = c.args.self.now in
    let h = c.args.hart.now in
    let slot = c.running_slot-slot.result in
    let inside = c.running_slot-slot.ensures.within in
    let fd = c.in-Some.ensures.used in
    let asked = to_z-of_z w32 c.c_int.result (record { sfits = c.c_int.type_inv }) ∙ c.c_int.ensures in
    let names = ap (λ ds. named_by ds c.in-Some.fd) (sym c.descriptors.ensures) ∙ sym c.get.ensures ∙ c.in-Some-get.is in
    let source = in-use-named c.requires.whole c.requires.running c.running_slot-slot.ensures.is fd.1 names in
    let told = ap (position is_none) (sym c.descriptors-2.ensures) ∙ sym c.lowest.ensures ∙ c.in-Some-lowest.is in
    let free = lowest-free c.requires.whole inside told in
    let value = to_z-of_z w64 c.from.result (record { sfits = c.from.type_inv }) ∙ c.from.ensures ∙ ap pos c.number.ensures.value in
    dup-answer k h c.args.call.now slot _ _ _ source.0 c.requires.whole c.requires.running c.running_slot-slot.ensures.is fd.1 source.1 free.0 free.1
    c.share.new.self c.share.ensures.table c.share.ensures.files (c.share.ensures.memories source.0 source.1.kind) c.share.ensures.rest
    (sym asked ∙ fd.0) (lowest-shown c.requires.whole c.requires.running c.running_slot-slot.ensures.is inside ∙ told)
    ∙ ap (Called c.args.call.now.number) (sym value) ∙ ap (answer_of c.args.call.now.number) (sym c.done-2.ensures.end)
