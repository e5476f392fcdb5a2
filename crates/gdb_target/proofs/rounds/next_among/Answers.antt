use Rattle.std.proofs.Common.{arith}
use Rattle.xv_machine.specs.declared.event.Event.TheVariants.{Run}
use Rattle.xv_machine.specs.declared.parts.RoundPart.{RoundPart}
use Rattle.gdb_target.proofs.Turning.{parts-length, parts-fit, parts-whole, among-part}
use Rattle.gdb_target.proofs.rounds.next_among.Goals as goal

pub returns-then-left-count-clause-equal : goal.returns-then-left-count-clause-equal
returns-then-left-count-clause-equal c = λ k h.
    let none : RoundPart = record { event = Run; count = 0 } in
    among-part c.args.parts.now c.loop-part.part-index none c.loop-part-test.true c.loop-part.left c.args.within k c.loop-part.invariant (omega (arith, h, c.from-count.ensures))

pub returns-then-left-count-clause-inside : goal.returns-then-left-count-clause-inside
returns-then-left-count-clause-inside c =
    let none : RoundPart = record { event = Run; count = 0 } in
    let fit = parts-fit c.args.parts.now c.loop-part.part-index none c.loop-part-test.true in
    omega (arith, fit, c.loop-part.invariant, c.from-count.ensures)

pub loop-part-preserved : goal.loop-part-preserved
loop-part-preserved c =
    let none : RoundPart = record { event = Run; count = 0 } in
    let more = parts-length c.args.parts.now c.loop-part.part-index none c.loop-part-test.true in
    omega (arith, more, c.loop-part.invariant, c.from-count.ensures)

pub unreachable-requires : goal.unreachable-requires
unreachable-requires c =
    let all = parts-whole c.args.parts.now c.loop-part.part-index (omega arith) in
    omega (arith, all, c.loop-part.invariant, c.requires)
