use Rattle.kcall_core.proofs.Prelude.{◌∙◌, answer_of, ap, each_of, held_at, Makes, ne_eqb, Own, pos, readable, refl, subst, sym}
use Rattle.kcall_core.proofs.table.Stops.{now-slot}
use Rattle.kcall_core.proofs.making.CallAnswers.{done-at-once}
use Rattle.kcall_core.proofs.files.MovingRows.{write-nothing, write-absent}
use Rattle.kcall_core.proofs.kernel.Kernel.write.Goals as goal

pub returns-in_default-clause-made : goal.returns-in_default-clause-made
returns-in_default-clause-made c =
    subst (λ (o : Own). Makes c.args.self.now c.args.hart.now o c.refuse.new.self c.refuse.new.hart)
    (sym (c.in_default.ensures.refused c.args.hart.now c.requires.whole)) (c.refuse.ensures.made c.args.call.now)

pub returns-in_default-clause-answer : goal.returns-in_default-clause-answer
returns-in_default-clause-answer c =
    ap (λ (o : Own). o.answer) (c.in_default.ensures.refused c.args.hart.now c.requires.whole) ∙ ap (answer_of c.args.call.now.number) (sym c.refuse.ensures.end)

pub returns-then-asked-eq0-clause-made : goal.returns-then-asked-eq0-clause-made
returns-then-asked-eq0-clause-made c =
    let k = c.args.self.now in
    let h = c.args.hart.now in
    let a = c.in-Some.ensures.asked h c.requires.whole in
    let row = write-nothing c.args.call.now c.requires.whole c.requires.running a.below a.number a.source c.in-Some.ensures.allowed (a.count ∙ ap pos c.if-asked-eq0.true) in
    subst (λ (o : Own). Makes k h o c.done.new.self c.done.new.hart) (sym row)
    (done-at-once c.args.call.now (pos 0) refl c.requires.whole c.requires.running
    (record { sound = c.done.ensures.sound; kernel = c.done.ensures.kernel; state = c.done.ensures.state }))

pub returns-then-asked-eq0-clause-answer : goal.returns-then-asked-eq0-clause-answer
returns-then-asked-eq0-clause-answer c =
    let k = c.args.self.now in
    let h = c.args.hart.now in
    let a = c.in-Some.ensures.asked h c.requires.whole in
    let row = write-nothing c.args.call.now c.requires.whole c.requires.running a.below a.number a.source c.in-Some.ensures.allowed (a.count ∙ ap pos c.if-asked-eq0.true) in
    ap (λ (o : Own). o.answer) row ∙ ap (answer_of c.args.call.now.number) (sym c.done.ensures.end)

pub returns-then-not-source_is_there-clause-made : goal.returns-then-not-source_is_there-clause-made
returns-then-not-source_is_there-clause-made c =
    let k = c.args.self.now in
    let h = c.args.hart.now in
    let a = c.in-Some.ensures.asked h c.requires.whole in
    let slot = now-slot c.running_slot-slot.result c.requires.whole.sound c.running_slot-slot.ensures.is in
    let at = ap (λ n. readable (held_at (each_of k.memories) n).image c.args.call.now.a1 c.in-Some.asked.count) (sym slot) ∙ sym c.source_is_there.ensures in
    let row = write-absent c.args.call.now c.requires.whole c.requires.running a.below a.number a.source c.in-Some.ensures.allowed
    c.in-Some.asked.count a.count (ne_eqb c.in-Some.asked.count 0 c.if-asked-eq0.false) (at ∙ c.if-not-source_is_there.true) in
    subst (λ (o : Own). Makes k h o c.refuse-then-not-source_is_there.new.self c.refuse-then-not-source_is_there.new.hart) (sym row) (c.refuse-then-not-source_is_there.ensures.made c.args.call.now)

pub returns-then-not-source_is_there-clause-answer : goal.returns-then-not-source_is_there-clause-answer
returns-then-not-source_is_there-clause-answer c =
    let k = c.args.self.now in
    let h = c.args.hart.now in
    let a = c.in-Some.ensures.asked h c.requires.whole in
    let slot = now-slot c.running_slot-slot.result c.requires.whole.sound c.running_slot-slot.ensures.is in
    let at = ap (λ n. readable (held_at (each_of k.memories) n).image c.args.call.now.a1 c.in-Some.asked.count) (sym slot) ∙ sym c.source_is_there.ensures in
    let row = write-absent c.args.call.now c.requires.whole c.requires.running a.below a.number a.source c.in-Some.ensures.allowed
    c.in-Some.asked.count a.count (ne_eqb c.in-Some.asked.count 0 c.if-asked-eq0.false) (at ∙ c.if-not-source_is_there.true) in
    ap (λ (o : Own). o.answer) row ∙ ap (answer_of c.args.call.now.number) (sym c.refuse-then-not-source_is_there.ensures.end)

pub write_to-requires-clause-file : goal.write_to-requires-clause-file
write_to-requires-clause-file c =
    let k = c.args.self.now in
    let h = c.args.hart.now in
    let a = c.in-Some.ensures.asked h c.requires.whole in
    let slot = now-slot c.running_slot-slot.result c.requires.whole.sound c.running_slot-slot.ensures.is in
    let at = ap (λ n. readable (held_at (each_of k.memories) n).image c.args.call.now.a1 c.in-Some.asked.count) (sym slot) ∙ sym c.source_is_there.ensures in
    record {
      fd = a.fd;
      below = a.below;
      number = a.number;
      named_file = a.source.used;
      opened = a.source.opened;
      buffer = (a.count, ne_eqb c.in-Some.asked.count 0 c.if-asked-eq0.false, at ∙ c.if-not-source_is_there.false);
    }

pub returns-clause-made : goal.returns-clause-made
returns-clause-made c = c.write_to.ensures.made

pub returns-clause-answer : goal.returns-clause-answer
returns-clause-answer c = c.write_to.ensures.answer
