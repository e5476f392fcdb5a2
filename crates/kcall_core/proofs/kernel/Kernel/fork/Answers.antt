use Rattle.kcall_core.proofs.Prelude.{◌∙◌, ◌≡◌, answer_of, ap, arith, Called, descriptors_at, named_by, NOFILE, Own, pos, slot_now, state_of, subst, sym, to_z-of_z, w64}
use Rattle.kcall_core.proofs.processes.HandedDown.{IsHanded}
use Rattle.kcall_core.proofs.table.Stops.{now-slot}
use Rattle.kcall_core.proofs.making.Imaged.{image-makes}
use Rattle.kcall_core.proofs.processes.FreeSlot.{slot-for}
use Rattle.kcall_core.proofs.processes.ForkMakes.{fork-makes, fork-answer}
use Rattle.kcall_core.proofs.processes.Handing.{handed-none, handed-on, next-may}
use Rattle.kcall_core.proofs.processes.Handed.{barren-has, barren-row, done-has, handed-born}
use Rattle.kcall_core.proofs.kernel.Kernel.fork.Goals as goal

pub done-requires-clause-sound : goal.done-requires-clause-sound
done-requires-clause-sound c = (barren-has c.requires.whole c.requires.running c.bear.new.self c.in_default.ensures.refused).sound

pub returns-in_default-clause-made : goal.returns-in_default-clause-made
returns-in_default-clause-made c call =
    let b = c.in_default.ensures.refused in
    image-makes c.args.self.now c.args.hart.now c.requires.whole c.requires.running (barren-has c.requires.whole c.requires.running c.bear.new.self b)
    c.done.new.self c.done.new.hart _ c.done.ensures.sound c.done.ensures.kernel c.done.ensures.state call _
    (barren-row c.requires.whole c.requires.running c.bear.new.self b call)

pub returns-in_default-clause-answer : goal.returns-in_default-clause-answer
returns-in_default-clause-answer c call =
    ap (λ (o : Own). o.answer) (barren-row c.requires.whole c.requires.running c.bear.new.self c.in_default.ensures.refused call) ∙ sym (ap (answer_of call.number) c.done.ensures.end)

pub loop-number-init : goal.loop-number-init
loop-number-init c =
    let b = c.in-Some.ensures.born in
    let new = slot-for c.args.self.now c.args.hart.now c.requires.whole.sound c.in-Some.child.slot b.free in
    handed-none c.requires.whole c.requires.running c.in-Some.child.slot new c.in-Some.child.pid c.bear.new.self b

pub hand_down-requires-clause-may : goal.hand_down-requires-clause-may
hand_down-requires-clause-may c file used =
    let b = c.in-Some.ensures.born in
    let new = slot-for c.args.self.now c.args.hart.now c.requires.whole.sound c.in-Some.child.slot b.free in
    let fd : c.new.result ≡ c.loop-number.number = omega (arith, c.new.ensures, c.loop-number-test.true) in
    let from : c.running_slot-slot.result ≡ slot_now c.args.self.now = now-slot c.running_slot-slot.result c.requires.whole.sound c.running_slot-slot.ensures.is in
    next-may c.requires.whole c.requires.running c.in-Some.child.slot new c.loop-number.number _ c.loop-number.invariant (omega (arith, c.loop-number-test.true)) file
    (sym (λ t. named_by (descriptors_at c.loop-number.self.table (from t)) (fd t)) ∙ used)

pub loop-number-preserved : goal.loop-number-preserved
loop-number-preserved c =
    let b = c.in-Some.ensures.born in
    let new = slot-for c.args.self.now c.args.hart.now c.requires.whole.sound c.in-Some.child.slot b.free in
    handed-on c.requires.whole c.requires.running c.in-Some.child.slot new c.loop-number.number c.new.result c.running_slot-slot.result _
    c.hand_down.new.self c.loop-number.invariant (omega (arith, c.loop-number-test.true))
    (omega (arith, c.new.ensures, c.loop-number-test.true))
    (now-slot c.running_slot-slot.result c.requires.whole.sound c.running_slot-slot.ensures.is) c.hand_down.ensures.kept c.hand_down.ensures.shared

pub save_child-requires-clause-there : goal.save_child-requires-clause-there
save_child-requires-clause-there c =
    let b = c.in-Some.ensures.born in
    let new = slot-for c.args.self.now c.args.hart.now c.requires.whole.sound c.in-Some.child.slot b.free in
    let all : c.loop-number.number ≡ NOFILE = omega (arith, c.loop-number-test.false, c.loop-number.auto.number-end) in
    let x = subst (λ n. IsHanded c.args.self.now c.args.hart.now c.in-Some.child.slot n c.loop-number.self) all c.loop-number.invariant in
    let value = to_z-of_z w64 c.from.result (record { sfits = c.from.type_inv }) ∙ c.from.ensures ∙ ap pos (c.number.ensures.value ∙ b.named) in
    done-has c.requires.whole c.requires.running c.in-Some.child.slot new _ x _ value c.done-end.new.self c.done-end.new.hart
    (record { sound = c.done-end.ensures.sound; kernel = c.done-end.ensures.kernel; state = c.done-end.ensures.state }) c.done-end.ensures.hart

pub returns-clause-made : goal.returns-clause-made
returns-clause-made c call =
    let b = c.in-Some.ensures.born in
    let new = slot-for c.args.self.now c.args.hart.now c.requires.whole.sound c.in-Some.child.slot b.free in
    let all : c.loop-number.number ≡ NOFILE = omega (arith, c.loop-number-test.false, c.loop-number.auto.number-end) in
    let x = subst (λ n. IsHanded c.args.self.now c.args.hart.now c.in-Some.child.slot n c.loop-number.self) all c.loop-number.invariant in
    let value = to_z-of_z w64 c.from.result (record { sfits = c.from.type_inv }) ∙ c.from.ensures ∙ ap pos (c.number.ensures.value ∙ b.named) in
    fork-makes c.requires.whole c.requires.running (handed-born c.requires.whole c.requires.running c.in-Some.child.slot new _ x _ value c.done-end.new.self c.done-end.new.hart
    (record { sound = c.done-end.ensures.sound; kernel = c.done-end.ensures.kernel; state = c.done-end.ensures.state }) c.done-end.ensures.hart
    c.save_child.new.self c.save_child.ensures.saved c.save_child.ensures.rest) call

pub returns-clause-answer : goal.returns-clause-answer
unfolding state_of
returns-clause-answer c call =
    let b = c.in-Some.ensures.born in
    let new = slot-for c.args.self.now c.args.hart.now c.requires.whole.sound c.in-Some.child.slot b.free in
    let all : c.loop-number.number ≡ NOFILE = omega (arith, c.loop-number-test.false, c.loop-number.auto.number-end) in
    let x = subst (λ n. IsHanded c.args.self.now c.args.hart.now c.in-Some.child.slot n c.loop-number.self) all c.loop-number.invariant in
    let value = to_z-of_z w64 c.from.result (record { sfits = c.from.type_inv }) ∙ c.from.ensures ∙ ap pos (c.number.ensures.value ∙ b.named) in
    fork-answer c.requires.whole c.requires.running (handed-born c.requires.whole c.requires.running c.in-Some.child.slot new _ x _ value c.done-end.new.self c.done-end.new.hart
    (record { sound = c.done-end.ensures.sound; kernel = c.done-end.ensures.kernel; state = c.done-end.ensures.state }) c.done-end.ensures.hart
    c.save_child.new.self c.save_child.ensures.saved c.save_child.ensures.rest) call
    ∙ ap (Called call.number) (sym value) ∙ ap (answer_of call.number) (sym c.done-end.ensures.end)
