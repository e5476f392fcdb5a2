use Rattle.exec_core.proofs.Steps.{Pointing}
use Rattle.exec_core.proofs.building.lay_pointers.Given as goal

abbrev pub invariant-loop-length : goal.invariant-loop-length
invariant-loop-length l = Pointing l.fn.ram l.ram l.space l.page l.sp l.lengths l.length-index l.at l.place
