use Rattle.kcall_core.proofs.Prelude.{ℕ, ◌∙◌, ◌≡◌, answer_of, ap, changed_at, IsSound, killed, Makes, minus_one, none_from_is_some, Option, Own, pos, refl, slot_of, Slots, subst, sym, the_value}
use Rattle.kcall_core.proofs.Prelude.{to_z-of_z, view_now, w32, with_mark}
use Rattle.kcall_core.proofs.turns.Chosen.{noted}
use Rattle.kcall_core.proofs.making.CallAnswers.{IsDone, done-at-once}
use Rattle.kcall_core.proofs.processes.KillMakes.{none-row, pid-row, unknown-row, marked-sound, kill-makes, killed-answer}
use Rattle.kcall_core.proofs.kernel.Kernel.kill.Goals as goal

pub returns-in_default-clause-made : goal.returns-in_default-clause-made
returns-in_default-clause-made c =
    let k = c.args.self.now in
    let h = c.args.hart.now in
    let asked = to_z-of_z w32 c.c_int.result (record { sfits = c.c_int.type_inv }) ∙ c.c_int.ensures in
    let row = none-row c.args.call.now (view_now k h) _ asked (sym c.asked_pid.ensures ∙ c.in_default.is) in
    subst (λ (o : Own). Makes k h o c.done.new.self c.done.new.hart) (sym row)
    (done-at-once c.args.call.now minus_one refl c.requires.whole c.requires.running (record { sound = c.done.ensures.sound; kernel = c.done.ensures.kernel; state = c.done.ensures.state }))

pub returns-in_default-clause-answer : goal.returns-in_default-clause-answer
returns-in_default-clause-answer c =
    let k = c.args.self.now in
    let h = c.args.hart.now in
    let asked = to_z-of_z w32 c.c_int.result (record { sfits = c.c_int.type_inv }) ∙ c.c_int.ensures in
    let row = none-row c.args.call.now (view_now k h) _ asked (sym c.asked_pid.ensures ∙ c.in_default.is) in
    ap (λ (o : Own). o.answer) row ∙ ap (answer_of c.args.call.now.number) (sym c.done.ensures.end)

pub done-requires-then-not-mark-clause-sound : goal.done-requires-then-not-mark-clause-sound
done-requires-then-not-mark-clause-sound c =
    let k = c.args.self.now in
    let h = c.args.hart.now in
    let none = none_from_is_some (slot_of k.table c.in-Some.pid) (sym c.mark.ensures.found ∙ c.if-not-mark.true) in
    subst (λ (t : Slots). IsSound (noted k t) h) (sym (c.mark.ensures.after ∙ ap (λ (o : Option ℕ). with_mark o k.table) none)) c.requires.whole.sound

pub returns-then-not-mark-clause-made : goal.returns-then-not-mark-clause-made
returns-then-not-mark-clause-made c =
    let k = c.args.self.now in
    let h = c.args.hart.now in
    let asked = to_z-of_z w32 c.c_int.result (record { sfits = c.c_int.type_inv }) ∙ c.c_int.ensures in
    let none = none_from_is_some (slot_of k.table c.in-Some.pid) (sym c.mark.ensures.found ∙ c.if-not-mark.true) in
    let same : c.mark.new.self ≡ k.table = c.mark.ensures.after ∙ ap (λ (o : Option ℕ). with_mark o k.table) none in
    let row = pid-row c.args.call.now (view_now k h) _ asked c.in-Some.pid (sym c.asked_pid.ensures ∙ c.in-Some.is) ∙ unknown-row k h c.args.call.now c.in-Some.pid c.requires.whole.sound.table none in
    subst (λ (o : Own). Makes k h o c.done-then-not-mark.new.self c.done-then-not-mark.new.hart) (sym row)
    (done-at-once c.args.call.now minus_one refl c.requires.whole c.requires.running
    (subst (λ (t : Slots). IsDone (noted k t) h minus_one c.done-then-not-mark.new.self c.done-then-not-mark.new.hart) same
    (record { sound = c.done-then-not-mark.ensures.sound; kernel = c.done-then-not-mark.ensures.kernel; state = c.done-then-not-mark.ensures.state })))

pub returns-then-not-mark-clause-answer : goal.returns-then-not-mark-clause-answer
returns-then-not-mark-clause-answer c =
    let k = c.args.self.now in
    let h = c.args.hart.now in
    let asked = to_z-of_z w32 c.c_int.result (record { sfits = c.c_int.type_inv }) ∙ c.c_int.ensures in
    let none = none_from_is_some (slot_of k.table c.in-Some.pid) (sym c.mark.ensures.found ∙ c.if-not-mark.true) in
    let row = pid-row c.args.call.now (view_now k h) _ asked c.in-Some.pid (sym c.asked_pid.ensures ∙ c.in-Some.is) ∙ unknown-row k h c.args.call.now c.in-Some.pid c.requires.whole.sound.table none in
    ap (λ (o : Own). o.answer) row ∙ ap (answer_of c.args.call.now.number) (sym c.done-then-not-mark.ensures.end)

pub done-requires-2-clause-sound : goal.done-requires-2-clause-sound
done-requires-2-clause-sound c =
    let k = c.args.self.now in
    let h = c.args.hart.now in
    let slot = the_value (slot_of k.table c.in-Some.pid) (sym c.mark.ensures.found ∙ c.if-not-mark.false) in
    subst (λ (t : Slots). IsSound (noted k t) h) (sym (c.mark.ensures.after ∙ ap (λ (o : Option ℕ). with_mark o k.table) slot.1)) (marked-sound c.in-Some.pid slot.0 c.requires.whole.sound slot.1)

pub returns-clause-made : goal.returns-clause-made
returns-clause-made c =
    let k = c.args.self.now in
    let h = c.args.hart.now in
    let asked = to_z-of_z w32 c.c_int.result (record { sfits = c.c_int.type_inv }) ∙ c.c_int.ensures in
    let slot = the_value (slot_of k.table c.in-Some.pid) (sym c.mark.ensures.found ∙ c.if-not-mark.false) in
    let row = pid-row c.args.call.now (view_now k h) _ asked c.in-Some.pid (sym c.asked_pid.ensures ∙ c.in-Some.is) in
    let same : c.mark.new.self ≡ changed_at slot.0 killed k.table = c.mark.ensures.after ∙ ap (λ (o : Option ℕ). with_mark o k.table) slot.1 in
    subst (λ (o : Own). Makes k h o c.done-2.new.self c.done-2.new.hart) (sym row)
    (kill-makes c.in-Some.pid slot.0 c.requires.whole c.requires.running slot.1 c.args.call.now c.done-2.new.self c.done-2.new.hart
    (subst (λ (t : Slots). IsDone (noted k t) h (pos 0) c.done-2.new.self c.done-2.new.hart) same
    (record { sound = c.done-2.ensures.sound; kernel = c.done-2.ensures.kernel; state = c.done-2.ensures.state })))

pub returns-clause-answer : goal.returns-clause-answer
returns-clause-answer c =
    let k = c.args.self.now in
    let h = c.args.hart.now in
    let asked = to_z-of_z w32 c.c_int.result (record { sfits = c.c_int.type_inv }) ∙ c.c_int.ensures in
    let slot = the_value (slot_of k.table c.in-Some.pid) (sym c.mark.ensures.found ∙ c.if-not-mark.false) in
    let row = pid-row c.args.call.now (view_now k h) _ asked c.in-Some.pid (sym c.asked_pid.ensures ∙ c.in-Some.is) in
    ap (λ (o : Own). o.answer) row ∙ killed-answer c.in-Some.pid slot.0 c.requires.whole c.requires.running slot.1 c.args.call.now ∙ ap (answer_of c.args.call.now.number) (sym c.done-2.ensures.end)
