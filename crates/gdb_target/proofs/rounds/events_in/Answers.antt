use Rattle.std.proofs.Common.{◌∙◌, arith}
use Rattle.xv_machine.specs.declared.event.Event.TheVariants.{Run}
use Rattle.xv_machine.specs.declared.parts.RoundPart.{RoundPart}
use Rattle.gdb_target.proofs.Turning.{parts-length, parts-fit, parts-whole}
use Rattle.gdb_target.proofs.rounds.events_in.Goals as goal

pub overflow_add-count : goal.overflow_add-count
overflow_add-count c =
    let none : RoundPart = record { event = Run; count = 0 } in
    let fit = parts-fit c.args.parts.now c.loop-part.part-index none c.loop-part-test.true in
    omega (arith, fit, c.loop-part.invariant, c.from-count.ensures, c.requires)

pub loop-part-preserved : goal.loop-part-preserved
loop-part-preserved c =
    let none : RoundPart = record { event = Run; count = 0 } in
    let more = parts-length c.args.parts.now c.loop-part.part-index none c.loop-part-test.true in
    omega (arith, more, c.loop-part.invariant, c.from-count.ensures)

pub returns : goal.returns
returns c = c.loop-part.invariant ∙ parts-whole c.args.parts.now c.loop-part.part-index (omega arith)
