use Rattle.kcall_core.proofs.Prelude.{◌∙◌, answer_of, ap, arith, Call, Called, refl, subst, sym, to_z_pos, w64}
use Rattle.kcall_core.proofs.table.Stops.{now-slot}
use Rattle.kcall_core.proofs.making.Midway.{IsAsleep}
use Rattle.kcall_core.proofs.files.TerminalWrites.{rest-there, ends-answer, send-done, waits-answer, send-waits}
use Rattle.proc_table.specs.declared.channel.Channel.TheVariants as on
use Rattle.kcall_core.proofs.kernel.Kernel.write_terminal.Goals as goal

pub send_from-count-requires-clause-readable : goal.send_from-count-requires-clause-readable
send_from-count-requires-clause-readable c =
    rest-there c.requires.whole c.requires.running c.requires.writes c.args.slot (now-slot c.args.slot c.requires.whole.sound c.requires.slot)
    c.next_address.result c.next_address.ensures c.left_of-left.result c.left_of-left.ensures

pub returns-then-moved-n-clause-made : goal.returns-then-moved-n-clause-made
returns-then-moved-n-clause-made c =
    send-done c.requires.whole c.requires.running c.requires.writes c.args.slot (now-slot c.args.slot c.requires.whole.sound c.requires.slot)
    c.next_address.result c.next_address.ensures c.left_of-left.result c.left_of-left.ensures
    c.send_from-count.result c.send_from-count.ensures.count c.send_from-count.new.self c.send_from-count.ensures.rest c.send_from-count.ensures.limits c.if-moved-n.true
    c.done.new.self c.done.new.hart _ (to_z_pos w64 c.args.n (omega (arith, c.requires.size)))
    (record { sound = c.done.ensures.sound; kernel = c.done.ensures.kernel; state = c.done.ensures.state })

pub returns-then-moved-n-clause-answer : goal.returns-then-moved-n-clause-answer
returns-then-moved-n-clause-answer c =
    ends-answer c.requires.whole c.requires.running c.requires.writes c.args.slot (now-slot c.args.slot c.requires.whole.sound c.requires.slot)
    c.next_address.result c.next_address.ensures c.left_of-left.result c.left_of-left.ensures
    c.send_from-count.result c.send_from-count.ensures.count c.send_from-count.new.self c.send_from-count.ensures.rest c.send_from-count.ensures.limits c.if-moved-n.true
    ∙ ap (Called c.args.call.now.number) (sym (to_z_pos w64 c.args.n (omega (arith, c.requires.size))))
    ∙ ap (answer_of c.args.call.now.number) (sym c.done.ensures.end)

pub returns-clause-made : goal.returns-clause-made
returns-clause-made c =
    send-waits c.requires.whole c.requires.running c.requires.writes c.args.slot (now-slot c.args.slot c.requires.whole.sound c.requires.slot)
    c.next_address.result c.next_address.ensures c.left_of-left.result c.left_of-left.ensures
    c.send_from-count.result c.send_from-count.ensures.count c.send_from-count.new.self c.send_from-count.ensures.rest c.send_from-count.ensures.limits c.if-moved-n.false
    c.block.new.self c.block.new.hart _ refl c.requires.row c.requires.unmarked c.requires.in_call
    (subst (λ (d : Call). IsAsleep c.send_from-count.new.self c.args.hart.now d on.Sending c.block.new.self c.block.new.hart) c.with_moved.ensures
    (record {
      sound = c.block.ensures.sound;
      table = c.block.ensures.table;
      stopped = c.block.ensures.stopped;
      files = c.block.ensures.files;
      frames = c.block.ensures.frames;
      state = c.block.ensures.state;
    }))

pub returns-clause-answer : goal.returns-clause-answer
returns-clause-answer c =
    waits-answer c.requires.whole c.requires.running c.requires.writes c.args.slot (now-slot c.args.slot c.requires.whole.sound c.requires.slot)
    c.next_address.result c.next_address.ensures c.left_of-left.result c.left_of-left.ensures
    c.send_from-count.result c.send_from-count.ensures.count c.send_from-count.new.self c.send_from-count.ensures.rest c.send_from-count.ensures.limits c.if-moved-n.false
    ∙ ap (answer_of c.args.call.now.number) (sym c.block.ensures.end)
