use Rattle.kcall_core.proofs.Prelude.{◌+◌, ◌∙◌, answer_of, ap, arith, Call, Called, count_on, fit, Makes, nat_eq, Own, pipe_named, pipes_of, Reading, refl, subst, sym, to_z_pos, w64}
use Rattle.kcall_core.proofs.table.Stops.{now-slot}
use Rattle.kcall_core.proofs.making.Midway.{IsAsleep}
use Rattle.kcall_core.proofs.files.PipeWrites.{pipe-there, pipe-is, is-refused, rest-there, write-sound, ends-answer, write-done, waits-answer, write-waits}
use Rattle.proc_table.specs.declared.channel.Channel.TheVariants as on
use Rattle.kcall_core.proofs.kernel.Kernel.write_pipe.Goals as goal

pub is_closed-requires-clause-there : goal.is_closed-requires-clause-there
is_closed-requires-clause-there c = pipe-there c.requires.whole c.requires.running c.requires.writes

pub returns-then-is_closed-clause-made : goal.returns-then-is_closed-clause-made
returns-then-is_closed-clause-made c =
    let broken = sym (c.is_closed.ensures ∙ ap (λ y. nat_eq (count_on Reading y) 0) (pipe-is c.requires.whole c.requires.running c.requires.writes)) ∙ c.if-is_closed.true in
    subst (λ o. Makes c.args.self.now c.args.hart.now o c.refuse.new.self c.refuse.new.hart)
    (sym (is-refused c.requires.whole c.requires.running c.requires.writes broken)) (c.refuse.ensures.made c.args.call.now)

pub returns-then-is_closed-clause-answer : goal.returns-then-is_closed-clause-answer
returns-then-is_closed-clause-answer c =
    let broken = sym (c.is_closed.ensures ∙ ap (λ y. nat_eq (count_on Reading y) 0) (pipe-is c.requires.whole c.requires.running c.requires.writes)) ∙ c.if-is_closed.true in
    ap (λ (o : Own). o.answer) (is-refused c.requires.whole c.requires.running c.requires.writes broken) ∙ ap (answer_of c.args.call.now.number) (sym c.refuse.ensures.end)

pub push_from-count-requires-clause-pipe : goal.push_from-count-requires-clause-pipe
push_from-count-requires-clause-pipe c = pipe-there c.requires.whole c.requires.running c.requires.writes

pub push_from-count-requires-clause-readable : goal.push_from-count-requires-clause-readable
push_from-count-requires-clause-readable c =
    rest-there c.requires.whole c.requires.running c.requires.writes c.args.slot (now-slot c.args.slot c.requires.whole.sound c.requires.slot)
    c.next_address.result c.next_address.ensures c.left_of-left.result c.left_of-left.ensures

pub done-requires-clause-sound : goal.done-requires-clause-sound
done-requires-clause-sound c =
    let alive = sym (c.is_closed.ensures ∙ ap (λ y. nat_eq (count_on Reading y) 0) (pipe-is c.requires.whole c.requires.running c.requires.writes)) ∙ c.if-is_closed.false in
    let told = c.push_from-count.ensures.count ∙ ap (fit (pipe_named (pipes_of c.args.self.now.memories) c.args.frame)) c.left_of-left.ensures in
    c.wake_if.ensures.sound c.args.hart.now
    (write-sound c.requires.whole c.requires.running c.requires.writes alive c.args.slot (now-slot c.args.slot c.requires.whole.sound c.requires.slot)
    c.next_address.result c.next_address.ensures c.push_from-count.result told c.push_from-count.new.self c.push_from-count.ensures.moved)

pub returns-then-moved-n-clause-made : goal.returns-then-moved-n-clause-made
returns-then-moved-n-clause-made c =
    let alive = sym (c.is_closed.ensures ∙ ap (λ y. nat_eq (count_on Reading y) 0) (pipe-is c.requires.whole c.requires.running c.requires.writes)) ∙ c.if-is_closed.false in
    let told = c.push_from-count.ensures.count ∙ ap (fit (pipe_named (pipes_of c.args.self.now.memories) c.args.frame)) c.left_of-left.ensures in
    write-done c.requires.whole c.requires.running c.requires.writes alive c.args.slot (now-slot c.args.slot c.requires.whole.sound c.requires.slot)
    c.next_address.result c.next_address.ensures c.push_from-count.result told c.push_from-count.new.self c.push_from-count.ensures.moved
    c.wake_if.new.self c.wake_if.ensures.table c.wake_if.ensures.rest (c.args.call.now.moved + c.push_from-count.result) refl c.if-moved-n.true
    c.done.new.self c.done.new.hart _ (to_z_pos w64 c.args.n (omega (arith, c.requires.size)))
    (record { sound = c.done.ensures.sound; kernel = c.done.ensures.kernel; state = c.done.ensures.state })

pub returns-then-moved-n-clause-answer : goal.returns-then-moved-n-clause-answer
returns-then-moved-n-clause-answer c =
    let alive = sym (c.is_closed.ensures ∙ ap (λ y. nat_eq (count_on Reading y) 0) (pipe-is c.requires.whole c.requires.running c.requires.writes)) ∙ c.if-is_closed.false in
    let told = c.push_from-count.ensures.count ∙ ap (fit (pipe_named (pipes_of c.args.self.now.memories) c.args.frame)) c.left_of-left.ensures in
    ends-answer c.requires.whole c.requires.running c.requires.writes alive c.args.slot (now-slot c.args.slot c.requires.whole.sound c.requires.slot)
    c.next_address.result c.next_address.ensures c.push_from-count.result told c.push_from-count.new.self c.push_from-count.ensures.moved
    c.wake_if.new.self c.wake_if.ensures.table c.wake_if.ensures.rest (c.args.call.now.moved + c.push_from-count.result) refl c.if-moved-n.true
    ∙ ap (Called c.args.call.now.number) (sym (to_z_pos w64 c.args.n (omega (arith, c.requires.size))))
    ∙ ap (answer_of c.args.call.now.number) (sym c.done.ensures.end)

pub block-requires-clause-sound : goal.block-requires-clause-sound
block-requires-clause-sound c =
    let alive = sym (c.is_closed.ensures ∙ ap (λ y. nat_eq (count_on Reading y) 0) (pipe-is c.requires.whole c.requires.running c.requires.writes)) ∙ c.if-is_closed.false in
    let told = c.push_from-count.ensures.count ∙ ap (fit (pipe_named (pipes_of c.args.self.now.memories) c.args.frame)) c.left_of-left.ensures in
    c.wake_if.ensures.sound c.args.hart.now
    (write-sound c.requires.whole c.requires.running c.requires.writes alive c.args.slot (now-slot c.args.slot c.requires.whole.sound c.requires.slot)
    c.next_address.result c.next_address.ensures c.push_from-count.result told c.push_from-count.new.self c.push_from-count.ensures.moved)

pub returns-clause-made : goal.returns-clause-made
returns-clause-made c =
    let alive = sym (c.is_closed.ensures ∙ ap (λ y. nat_eq (count_on Reading y) 0) (pipe-is c.requires.whole c.requires.running c.requires.writes)) ∙ c.if-is_closed.false in
    let told = c.push_from-count.ensures.count ∙ ap (fit (pipe_named (pipes_of c.args.self.now.memories) c.args.frame)) c.left_of-left.ensures in
    write-waits c.requires.whole c.requires.running c.requires.writes alive c.args.slot (now-slot c.args.slot c.requires.whole.sound c.requires.slot)
    c.next_address.result c.next_address.ensures c.push_from-count.result told c.push_from-count.new.self c.push_from-count.ensures.moved
    c.wake_if.new.self c.wake_if.ensures.table c.wake_if.ensures.rest (c.args.call.now.moved + c.push_from-count.result) refl c.if-moved-n.false
    c.block.new.self c.block.new.hart c.requires.row c.requires.unmarked c.requires.in_call
    (subst (λ (d : Call). IsAsleep c.wake_if.new.self c.args.hart.now d (on.Room c.args.frame) c.block.new.self c.block.new.hart) c.with_moved.ensures
    (record {
      sound = c.block.ensures.sound;
      table = c.block.ensures.table;
      stopped = c.block.ensures.stopped;
      files = c.block.ensures.files;
      frames = c.block.ensures.frames;
      state = c.block.ensures.state;
    }))

pub returns-clause-answer : goal.returns-clause-answer
returns-clause-answer c =
    let alive = sym (c.is_closed.ensures ∙ ap (λ y. nat_eq (count_on Reading y) 0) (pipe-is c.requires.whole c.requires.running c.requires.writes)) ∙ c.if-is_closed.false in
    let told = c.push_from-count.ensures.count ∙ ap (fit (pipe_named (pipes_of c.args.self.now.memories) c.args.frame)) c.left_of-left.ensures in
    waits-answer c.requires.whole c.requires.running c.requires.writes alive c.args.slot (now-slot c.args.slot c.requires.whole.sound c.requires.slot)
    c.next_address.result c.next_address.ensures c.push_from-count.result told c.push_from-count.new.self c.push_from-count.ensures.moved
    c.wake_if.new.self c.wake_if.ensures.table c.wake_if.ensures.rest (c.args.call.now.moved + c.push_from-count.result) refl c.if-moved-n.false
    ∙ ap (answer_of c.args.call.now.number) (sym c.block.ensures.end)
