use Rattle.kcall_core.proofs.Prelude.{◌∙◌, answer_of, ap, asked, Called, each_of, file_asked, held_at, is_none, Makes, Own, pos, position, state_of, subst, sym, to_z-of_z, view_now, view_of, w64}
use Rattle.kcall_core.proofs.table.Stops.{now-slot}
use Rattle.kcall_core.proofs.making.CallAnswers.{IsDone}
use Rattle.kcall_core.proofs.files.Lowest.{lowest-shown, lowest-free}
use Rattle.kcall_core.proofs.files.OpenRoom.{room-for-one}
use Rattle.kcall_core.proofs.files.Opened.{lowest-place-free, opened-sound, opened-makes}
use Rattle.kcall_core.proofs.files.OpenRows.{asked-no-pipe, open-nothing, open-full, open-opens}
use Rattle.kcall_core.proofs.kernel.Kernel.open_file.Goals as goal

pub returns-in_default-clause-made : goal.returns-in_default-clause-made
unfolding view_of state_of
returns-in_default-clause-made c =
    let k = c.args.self.now in
    let h = c.args.hart.now in
    let slot = c.running_slot-slot.result in
    let at = now-slot slot c.requires.whole.sound c.running_slot-slot.ensures.is in
    let asks = ap (λ n. asked (view_now k h).programs (held_at (each_of k.memories) n).image c.args.call.now) (sym at) ∙ sym c.asked.ensures ∙ c.in_default.is in
    subst (λ (o : Own). Makes k h o c.refuse.new.self c.refuse.new.hart) (sym (open-nothing c.args.call.now (view_now k h) asks)) (c.refuse.ensures.made c.args.call.now)

pub returns-in_default-clause-answer : goal.returns-in_default-clause-answer
unfolding view_of state_of
returns-in_default-clause-answer c =
    let k = c.args.self.now in
    let h = c.args.hart.now in
    let slot = c.running_slot-slot.result in
    let at = now-slot slot c.requires.whole.sound c.running_slot-slot.ensures.is in
    let asks = ap (λ n. asked (view_now k h).programs (held_at (each_of k.memories) n).image c.args.call.now) (sym at) ∙ sym c.asked.ensures ∙ c.in_default.is in
    ap (λ (o : Own). o.answer) (open-nothing c.args.call.now (view_now k h) asks) ∙ ap (answer_of c.args.call.now.number) (sym c.refuse.ensures.end)

pub descriptors-requires : goal.descriptors-requires
descriptors-requires c =
    let k = c.args.self.now in
    let h = c.args.hart.now in
    let slot = c.running_slot-slot.result in
    let inside = c.running_slot-slot.ensures.within in
    inside

pub returns-in_default-lowest-clause-made : goal.returns-in_default-lowest-clause-made
unfolding view_of state_of
returns-in_default-lowest-clause-made c =
    let k = c.args.self.now in
    let h = c.args.hart.now in
    let slot = c.running_slot-slot.result in
    let at = now-slot slot c.requires.whole.sound c.running_slot-slot.ensures.is in
    let asks = ap (λ n. asked (view_now k h).programs (held_at (each_of k.memories) n).image c.args.call.now) (sym at) ∙ sym c.asked.ensures ∙ c.in-Some.is in
    let inside = c.running_slot-slot.ensures.within in
    let told = ap (position is_none) (sym c.descriptors.ensures) ∙ sym c.lowest.ensures ∙ c.in_default-lowest.is in
    let least = lowest-shown c.requires.whole c.requires.running c.running_slot-slot.ensures.is inside ∙ told in
    subst (λ (o : Own). Makes k h o c.refuse-in_default-lowest.new.self c.refuse-in_default-lowest.new.hart)
    (sym (open-full c.args.call.now (view_now k h) c.in-Some.asked asks least)) (c.refuse-in_default-lowest.ensures.made c.args.call.now)

pub returns-in_default-lowest-clause-answer : goal.returns-in_default-lowest-clause-answer
unfolding view_of state_of
returns-in_default-lowest-clause-answer c =
    let k = c.args.self.now in
    let h = c.args.hart.now in
    let slot = c.running_slot-slot.result in
    let at = now-slot slot c.requires.whole.sound c.running_slot-slot.ensures.is in
    let asks = ap (λ n. asked (view_now k h).programs (held_at (each_of k.memories) n).image c.args.call.now) (sym at) ∙ sym c.asked.ensures ∙ c.in-Some.is in
    let inside = c.running_slot-slot.ensures.within in
    let told = ap (position is_none) (sym c.descriptors.ensures) ∙ sym c.lowest.ensures ∙ c.in_default-lowest.is in
    let least = lowest-shown c.requires.whole c.requires.running c.running_slot-slot.ensures.is inside ∙ told in
    ap (λ (o : Own). o.answer) (open-full c.args.call.now (view_now k h) c.in-Some.asked asks least) ∙ ap (answer_of c.args.call.now.number) (sym c.refuse-in_default-lowest.ensures.end)

pub open_at-requires-clause-within : goal.open_at-requires-clause-within
open_at-requires-clause-within c =
    let k = c.args.self.now in
    let h = c.args.hart.now in
    let slot = c.running_slot-slot.result in
    let inside = c.running_slot-slot.ensures.within in
    inside

pub open_at-requires-clause-free : goal.open_at-requires-clause-free
open_at-requires-clause-free c =
    let k = c.args.self.now in
    let h = c.args.hart.now in
    let slot = c.running_slot-slot.result in
    let inside = c.running_slot-slot.ensures.within in
    let told = ap (position is_none) (sym c.descriptors.ensures) ∙ sym c.lowest.ensures ∙ c.in-Some-lowest.is in
    let free = lowest-free c.requires.whole inside told in
    free.1

pub open_at-requires-clause-room : goal.open_at-requires-clause-room
open_at-requires-clause-room c =
    let k = c.args.self.now in
    let h = c.args.hart.now in
    let slot = c.running_slot-slot.result in
    let inside = c.running_slot-slot.ensures.within in
    let told = ap (position is_none) (sym c.descriptors.ensures) ∙ sym c.lowest.ensures ∙ c.in-Some-lowest.is in
    let free = lowest-free c.requires.whole inside told in
    room-for-one k.files k.table slot c.in-Some-lowest.fd c.requires.whole.files c.requires.whole.counted inside free.0 free.1

pub done-requires-clause-sound : goal.done-requires-clause-sound
done-requires-clause-sound c =
    let k = c.args.self.now in
    let h = c.args.hart.now in
    let slot = c.running_slot-slot.result in
    let inside = c.running_slot-slot.ensures.within in
    let told = ap (position is_none) (sym c.descriptors.ensures) ∙ sym c.lowest.ensures ∙ c.in-Some-lowest.is in
    let free = lowest-free c.requires.whole inside told in
    let empty = lowest-place-free k.files c.open_at.result c.open_at.ensures.place in
    opened-sound k h slot c.in-Some-lowest.fd c.open_at.result (file_asked c.in-Some.asked) c.requires.whole c.requires.running
    c.running_slot-slot.ensures.is free.0 free.1 empty.0 empty.1 (asked-no-pipe c.in-Some.asked) c.open_at.new.self c.open_at.ensures.table
    c.open_at.ensures.files c.open_at.ensures.rest

pub returns-clause-made : goal.returns-clause-made
unfolding view_of state_of
returns-clause-made c =
    let k = c.args.self.now in
    let h = c.args.hart.now in
    let slot = c.running_slot-slot.result in
    let at = now-slot slot c.requires.whole.sound c.running_slot-slot.ensures.is in
    let asks = ap (λ n. asked (view_now k h).programs (held_at (each_of k.memories) n).image c.args.call.now) (sym at) ∙ sym c.asked.ensures ∙ c.in-Some.is in
    let inside = c.running_slot-slot.ensures.within in
    let told = ap (position is_none) (sym c.descriptors.ensures) ∙ sym c.lowest.ensures ∙ c.in-Some-lowest.is in
    let free = lowest-free c.requires.whole inside told in
    let empty = lowest-place-free k.files c.open_at.result c.open_at.ensures.place in
    let value = to_z-of_z w64 c.from.result (record { sfits = c.from.type_inv }) ∙ c.from.ensures ∙ ap pos c.number.ensures.value in
    let least = lowest-shown c.requires.whole c.requires.running c.running_slot-slot.ensures.is inside ∙ told in
    let row = open-opens c.args.call.now (view_now k h) c.in-Some.asked asks (state_of k h) c.in-Some-lowest.fd least in
    opened-makes k h slot c.in-Some-lowest.fd c.open_at.result (file_asked c.in-Some.asked) c.requires.whole c.requires.running
    c.running_slot-slot.ensures.is free.0 free.1 empty.0 empty.1 (asked-no-pipe c.in-Some.asked) c.open_at.new.self c.open_at.ensures.table
    c.open_at.ensures.files c.open_at.ensures.rest
    c.args.call.now _ row c.done.new.self c.done.new.hart
    (subst (λ z. IsDone c.open_at.new.self h z c.done.new.self c.done.new.hart) value (record { sound = c.done.ensures.sound; kernel = c.done.ensures.kernel; state = c.done.ensures.state }))

pub returns-clause-answer : goal.returns-clause-answer
unfolding view_of state_of
returns-clause-answer c =
    let k = c.args.self.now in
    let h = c.args.hart.now in
    let slot = c.running_slot-slot.result in
    let at = now-slot slot c.requires.whole.sound c.running_slot-slot.ensures.is in
    let asks = ap (λ n. asked (view_now k h).programs (held_at (each_of k.memories) n).image c.args.call.now) (sym at) ∙ sym c.asked.ensures ∙ c.in-Some.is in
    let inside = c.running_slot-slot.ensures.within in
    let told = ap (position is_none) (sym c.descriptors.ensures) ∙ sym c.lowest.ensures ∙ c.in-Some-lowest.is in
    let free = lowest-free c.requires.whole inside told in
    let value = to_z-of_z w64 c.from.result (record { sfits = c.from.type_inv }) ∙ c.from.ensures ∙ ap pos c.number.ensures.value in
    let least = lowest-shown c.requires.whole c.requires.running c.running_slot-slot.ensures.is inside ∙ told in
    let row = open-opens c.args.call.now (view_now k h) c.in-Some.asked asks (state_of k h) c.in-Some-lowest.fd least in
    ap (λ (o : Own). o.answer) row ∙ ap (Called c.args.call.now.number) (sym value) ∙ ap (answer_of c.args.call.now.number) (sym c.done.ensures.end)
