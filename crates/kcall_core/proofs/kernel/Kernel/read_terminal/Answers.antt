use Rattle.kcall_core.proofs.Prelude.{◌∙◌, answer_of, ap, Call, Called, refl, subst, sym, to_z-of_z, w64}
use Rattle.kcall_core.proofs.table.Stops.{now-slot}
use Rattle.kcall_core.proofs.making.Midway.{IsAsleep}
use Rattle.kcall_core.proofs.files.TerminalReads.{rest-there, keys-few, line-sound, ends-answer, line-done, waits-answer, line-waits}
use Rattle.proc_table.specs.declared.channel.Channel.TheVariants as on
use Rattle.kcall_core.proofs.kernel.Kernel.read_terminal.Goals as goal

pub take_line-pull-requires-clause-writable : goal.take_line-pull-requires-clause-writable
take_line-pull-requires-clause-writable c =
    rest-there c.requires.whole c.requires.running c.requires.reads c.args.slot (now-slot c.args.slot c.requires.whole.sound c.requires.slot)
    c.next_address.result c.next_address.ensures c.left_of-left.result c.left_of-left.ensures

pub take_line-pull-requires-clause-keys : goal.take_line-pull-requires-clause-keys
take_line-pull-requires-clause-keys c = keys-few c.requires.whole c.requires.running c.requires.reads

pub done-requires-clause-sound : goal.done-requires-clause-sound
done-requires-clause-sound c =
    line-sound c.requires.whole c.requires.running c.requires.reads c.take_line-pull.new.self.memories c.args.slot
    (now-slot c.args.slot c.requires.whole.sound c.requires.slot) c.next_address.result c.next_address.ensures
    c.left_of-left.result c.left_of-left.ensures
    c.take_line-pull.ensures.written c.take_line-pull.ensures.free c.take_line-pull.ensures.runs c.take_line-pull.new.self c.take_line-pull.ensures.rest c.take_line-pull.ensures.limits

pub returns-then-pull-clause-made : goal.returns-then-pull-clause-made
returns-then-pull-clause-made c =
    line-done c.requires.whole c.requires.running c.requires.reads c.take_line-pull.new.self.memories c.args.slot
    (now-slot c.args.slot c.requires.whole.sound c.requires.slot) c.next_address.result c.next_address.ensures
    c.left_of-left.result c.left_of-left.ensures
    c.take_line-pull.ensures.written c.take_line-pull.ensures.free c.take_line-pull.ensures.runs c.take_line-pull.new.self c.take_line-pull.ensures.rest c.take_line-pull.ensures.limits
    c.take_line-pull.result.taken c.take_line-pull.ensures.count c.take_line-pull.result.ended c.take_line-pull.ensures.ended c.if-pull.true
    c.done.new.self c.done.new.hart _ (to_z-of_z w64 c.from.result (record { sfits = c.from.type_inv }) ∙ c.from.ensures)
    (record { sound = c.done.ensures.sound; kernel = c.done.ensures.kernel; state = c.done.ensures.state })

pub returns-then-pull-clause-answer : goal.returns-then-pull-clause-answer
returns-then-pull-clause-answer c =
    ends-answer c.requires.whole c.requires.running c.requires.reads c.take_line-pull.new.self.memories c.args.slot
    (now-slot c.args.slot c.requires.whole.sound c.requires.slot) c.next_address.result c.next_address.ensures
    c.left_of-left.result c.left_of-left.ensures
    c.take_line-pull.ensures.written c.take_line-pull.ensures.free c.take_line-pull.ensures.runs c.take_line-pull.new.self c.take_line-pull.ensures.rest c.take_line-pull.ensures.limits
    c.take_line-pull.result.taken c.take_line-pull.ensures.count c.take_line-pull.result.ended c.take_line-pull.ensures.ended c.if-pull.true
    ∙ ap (Called c.args.call.now.number) (sym (to_z-of_z w64 c.from.result (record { sfits = c.from.type_inv }) ∙ c.from.ensures))
    ∙ ap (answer_of c.args.call.now.number) (sym c.done.ensures.end)

pub block-requires-clause-sound : goal.block-requires-clause-sound
block-requires-clause-sound c =
    line-sound c.requires.whole c.requires.running c.requires.reads c.take_line-pull.new.self.memories c.args.slot
    (now-slot c.args.slot c.requires.whole.sound c.requires.slot) c.next_address.result c.next_address.ensures
    c.left_of-left.result c.left_of-left.ensures
    c.take_line-pull.ensures.written c.take_line-pull.ensures.free c.take_line-pull.ensures.runs c.take_line-pull.new.self c.take_line-pull.ensures.rest c.take_line-pull.ensures.limits

pub returns-clause-made : goal.returns-clause-made
returns-clause-made c =
    line-waits c.requires.whole c.requires.running c.requires.reads c.take_line-pull.new.self.memories c.args.slot
    (now-slot c.args.slot c.requires.whole.sound c.requires.slot) c.next_address.result c.next_address.ensures
    c.left_of-left.result c.left_of-left.ensures
    c.take_line-pull.ensures.written c.take_line-pull.ensures.free c.take_line-pull.ensures.runs c.take_line-pull.new.self c.take_line-pull.ensures.rest c.take_line-pull.ensures.limits
    c.take_line-pull.result.taken c.take_line-pull.ensures.count c.take_line-pull.result.ended c.take_line-pull.ensures.ended c.if-pull.false
    c.block.new.self c.block.new.hart _ refl c.requires.row c.requires.unmarked c.requires.in_call
    (subst (λ (d : Call). IsAsleep c.take_line-pull.new.self c.args.hart.now d on.Keys c.block.new.self c.block.new.hart) c.with_moved.ensures
    (record {
      sound = c.block.ensures.sound;
      table = c.block.ensures.table;
      stopped = c.block.ensures.stopped;
      files = c.block.ensures.files;
      frames = c.block.ensures.frames;
      state = c.block.ensures.state;
    }))

pub returns-clause-answer : goal.returns-clause-answer
returns-clause-answer c =
    waits-answer c.requires.whole c.requires.running c.requires.reads c.take_line-pull.new.self.memories c.args.slot
    (now-slot c.args.slot c.requires.whole.sound c.requires.slot) c.next_address.result c.next_address.ensures
    c.left_of-left.result c.left_of-left.ensures
    c.take_line-pull.ensures.written c.take_line-pull.ensures.free c.take_line-pull.ensures.runs c.take_line-pull.new.self c.take_line-pull.ensures.rest c.take_line-pull.ensures.limits
    c.take_line-pull.result.taken c.take_line-pull.ensures.count c.take_line-pull.result.ended c.take_line-pull.ensures.ended c.if-pull.false
    ∙ ap (answer_of c.args.call.now.number) (sym c.block.ensures.end)
