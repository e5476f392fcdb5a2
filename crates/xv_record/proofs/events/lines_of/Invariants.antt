use Rattle.xv_record.specs.Text.{AreLines}
use Rattle.xv_record.proofs.events.lines_of.Given as goal

abbrev pub invariant-loop-part : goal.invariant-loop-part
invariant-loop-part l = AreLines l.lines.items
