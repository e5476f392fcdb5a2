use Rattle.kcall_core.proofs.Prelude.{map, named_file, refl, subst}
use Rattle.kcall_core.proofs.table.Stops.{now-slot}
use Rattle.kcall_core.proofs.processes.ExecSteps.{Replaced, Unreplaced, exec-prepared, exec-count, exec-made, exec-answer, refused-prepared, refused-made, refused-answer}
use Rattle.kcall_core.proofs.kernel.Kernel.exec.Goals as goal

pub done-requires-clause-sound : goal.done-requires-clause-sound
done-requires-clause-sound c =
    let slot = now-slot c.running_slot-slot.result c.requires.whole.sound c.running_slot-slot.ensures.is in
    let first = subst
    (λ p. Unreplaced c.args.self.now.memories c.replace_as_asked.new.memories (map named_file p) c.running_slot-slot.result c.args.call.now.a0
    c.args.call.now.a1 c.args.hart.now c.replace_as_asked.new.hart) c.deref.ensures.value c.in_default.ensures.refused in
    let not = subst
    (λ n. Unreplaced c.args.self.now.memories c.replace_as_asked.new.memories (map named_file c.args.self.now.programs.items) n c.args.call.now.a0
    c.args.call.now.a1 c.args.hart.now c.replace_as_asked.new.hart) slot first in
    (refused-prepared c.args.self.now c.args.hart.now c.replace_as_asked.new.hart c.replace_as_asked.new.memories c.args.call.now c.requires.whole c.requires.running not).sound

pub returns-in_default-clause-made : goal.returns-in_default-clause-made
returns-in_default-clause-made c =
    let slot = now-slot c.running_slot-slot.result c.requires.whole.sound c.running_slot-slot.ensures.is in
    let first = subst
    (λ p. Unreplaced c.args.self.now.memories c.replace_as_asked.new.memories (map named_file p) c.running_slot-slot.result c.args.call.now.a0
    c.args.call.now.a1 c.args.hart.now c.replace_as_asked.new.hart) c.deref.ensures.value c.in_default.ensures.refused in
    let not = subst
    (λ n. Unreplaced c.args.self.now.memories c.replace_as_asked.new.memories (map named_file c.args.self.now.programs.items) n c.args.call.now.a0
    c.args.call.now.a1 c.args.hart.now c.replace_as_asked.new.hart) slot first in
    refused-made c.args.self.now c.args.hart.now c.replace_as_asked.new.hart c.replace_as_asked.new.memories c.args.call.now c.requires.whole
    c.requires.running not c.done.new.self c.done.new.hart _ refl
    (record { sound = c.done.ensures.sound; kernel = c.done.ensures.kernel; state = c.done.ensures.state })

pub returns-in_default-clause-answer : goal.returns-in_default-clause-answer
returns-in_default-clause-answer c =
    let slot = now-slot c.running_slot-slot.result c.requires.whole.sound c.running_slot-slot.ensures.is in
    let first = subst
    (λ p. Unreplaced c.args.self.now.memories c.replace_as_asked.new.memories (map named_file p) c.running_slot-slot.result c.args.call.now.a0
    c.args.call.now.a1 c.args.hart.now c.replace_as_asked.new.hart) c.deref.ensures.value c.in_default.ensures.refused in
    let not = subst
    (λ n. Unreplaced c.args.self.now.memories c.replace_as_asked.new.memories (map named_file c.args.self.now.programs.items) n c.args.call.now.a0
    c.args.call.now.a1 c.args.hart.now c.replace_as_asked.new.hart) slot first in
    refused-answer c.args.self.now c.args.hart.now c.replace_as_asked.new.hart c.replace_as_asked.new.memories c.args.call.now c.requires.whole
    c.requires.running not c.done.result _ refl c.done.ensures.end

pub done-requires-2-clause-sound : goal.done-requires-2-clause-sound
done-requires-2-clause-sound c =
    let slot = now-slot c.running_slot-slot.result c.requires.whole.sound c.running_slot-slot.ensures.is in
    let start = c.in-Some.start in
    let first = subst
    (λ p. Replaced c.args.self.now.memories c.replace_as_asked.new.memories (map named_file p) c.running_slot-slot.result c.args.call.now.a0
    c.args.call.now.a1 start c.replace_as_asked.new.hart) c.deref.ensures.value c.in-Some.ensures.started in
    let to = subst
    (λ n. Replaced c.args.self.now.memories c.replace_as_asked.new.memories (map named_file c.args.self.now.programs.items) n c.args.call.now.a0
    c.args.call.now.a1 start c.replace_as_asked.new.hart) slot first in
    (exec-prepared c.args.self.now c.args.hart.now c.replace_as_asked.new.hart c.replace_as_asked.new.memories c.args.call.now c.requires.whole
    c.requires.running start c.start_program.new.hart to c.replace_as_asked.ensures.regs c.start_program.ensures).sound

pub returns-clause-made : goal.returns-clause-made
returns-clause-made c =
    let slot = now-slot c.running_slot-slot.result c.requires.whole.sound c.running_slot-slot.ensures.is in
    let start = c.in-Some.start in
    let first = subst
    (λ p. Replaced c.args.self.now.memories c.replace_as_asked.new.memories (map named_file p) c.running_slot-slot.result c.args.call.now.a0
    c.args.call.now.a1 start c.replace_as_asked.new.hart) c.deref.ensures.value c.in-Some.ensures.started in
    let to = subst
    (λ n. Replaced c.args.self.now.memories c.replace_as_asked.new.memories (map named_file c.args.self.now.programs.items) n c.args.call.now.a0
    c.args.call.now.a1 start c.replace_as_asked.new.hart) slot first in
    let count = exec-count c.args.self.now c.args.hart.now c.replace_as_asked.new.hart c.replace_as_asked.new.memories c.args.call.now
    c.requires.whole c.requires.running start c.start_program.new.hart to c.replace_as_asked.ensures.regs c.start_program.ensures c.cast_signed.result
    c.cast_signed.ensures in
    exec-made c.args.self.now c.args.hart.now c.replace_as_asked.new.hart c.replace_as_asked.new.memories c.args.call.now c.requires.whole
    c.requires.running start c.start_program.new.hart to c.replace_as_asked.ensures.regs c.start_program.ensures c.done-2.new.self c.done-2.new.hart _
    count (record { sound = c.done-2.ensures.sound; kernel = c.done-2.ensures.kernel; state = c.done-2.ensures.state })

pub returns-clause-answer : goal.returns-clause-answer
returns-clause-answer c =
    let slot = now-slot c.running_slot-slot.result c.requires.whole.sound c.running_slot-slot.ensures.is in
    let start = c.in-Some.start in
    let first = subst
    (λ p. Replaced c.args.self.now.memories c.replace_as_asked.new.memories (map named_file p) c.running_slot-slot.result c.args.call.now.a0
    c.args.call.now.a1 start c.replace_as_asked.new.hart) c.deref.ensures.value c.in-Some.ensures.started in
    let to = subst
    (λ n. Replaced c.args.self.now.memories c.replace_as_asked.new.memories (map named_file c.args.self.now.programs.items) n c.args.call.now.a0
    c.args.call.now.a1 start c.replace_as_asked.new.hart) slot first in
    let count = exec-count c.args.self.now c.args.hart.now c.replace_as_asked.new.hart c.replace_as_asked.new.memories c.args.call.now
    c.requires.whole c.requires.running start c.start_program.new.hart to c.replace_as_asked.ensures.regs c.start_program.ensures c.cast_signed.result
    c.cast_signed.ensures in
    exec-answer c.args.self.now c.args.hart.now c.replace_as_asked.new.hart c.replace_as_asked.new.memories c.args.call.now c.requires.whole
    c.requires.running start c.start_program.new.hart to c.replace_as_asked.ensures.regs c.start_program.ensures c.done-2.result _
    count c.done-2.ensures.end
