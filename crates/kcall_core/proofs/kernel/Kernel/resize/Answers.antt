use Rattle.kcall_core.proofs.Prelude.{◌∙◌, arith, sym}
use Rattle.kcall_core.proofs.making.Imaged.{image-shrunk, image-grown, image-too-dear, where-ok, where-err}
use Rattle.kcall_core.proofs.kernel.Kernel.resize.Goals as goal

pub returns-then-size-clause-resized : goal.returns-then-size-clause-resized
returns-then-size-clause-resized c e =
    image-shrunk c.args.self.now c.args.hart.now c.requires.sound c.requires.running c.running_slot-slot.result c.shrink.new.self c.shrink.new.hart
    c.args.size c.running_slot-slot.ensures.is (omega (arith, c.size.ensures.value, c.if-size.true)) c.shrink.ensures.shrunk
    c.shrink.ensures.runs c.shrink.ensures.regs

pub returns-clause-resized : goal.returns-clause-resized
returns-clause-resized c e =
    image-grown c.args.self.now c.args.hart.now c.requires.sound c.requires.running c.running_slot-slot.result c.grow.new.self c.args.size
    c.data.result c.running_slot-slot.ensures.is c.data.ensures (omega (arith, c.size.ensures.value, c.if-size.false))
    (where-ok c.grow.result c.grow.ensures.grown (sym c.is_ok.ensures.value ∙ e)) c.grow.ensures.runs

pub returns-clause-refused : goal.returns-clause-refused
returns-clause-refused c e =
    let refused = where-err c.grow.result c.grow.ensures.refused (sym c.is_ok.ensures.value ∙ e) in
    image-too-dear c.args.self.now c.args.hart.now c.requires.sound c.requires.running c.running_slot-slot.result c.grow.new.self c.args.size
    c.data.result c.running_slot-slot.ensures.is c.data.ensures (omega (arith, c.size.ensures.value, c.if-size.false)) refused.0 refused.1

pub shrink-requires-clause-running : goal.shrink-requires-clause-running
shrink-requires-clause-running c = (c.requires.sound.current c.running_slot-slot.result c.running_slot-slot.ensures.is).runs
