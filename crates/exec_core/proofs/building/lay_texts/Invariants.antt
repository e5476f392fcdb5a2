use Rattle.exec_core.proofs.Steps.{Laying}
use Rattle.exec_core.proofs.building.lay_texts.Given as goal

abbrev pub invariant-loop-length : goal.invariant-loop-length
invariant-loop-length l = Laying l.fn.ram l.ram l.space l.page l.lengths l.bytes l.length-index l.from l.place
