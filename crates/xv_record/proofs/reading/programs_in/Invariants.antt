use Rattle.std.proofs.Common.{map}
use Rattle.xv_record.specs.Told.{AreProgramsTold, told_program}
use Rattle.xv_record.proofs.reading.programs_in.Given as goal

abbrev pub invariant-loop-line : goal.invariant-loop-line
invariant-loop-line l = AreProgramsTold (map told_program l.programs.items)
