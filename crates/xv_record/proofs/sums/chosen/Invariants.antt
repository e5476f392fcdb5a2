use Rattle.std.proofs.Common.{◌≡◌, map, take}
use Rattle.xv_record.specs.Chosen.{AreThere}
use Rattle.xv_record.specs.Told.{program_told, told_program}
use Rattle.xv_record.proofs.sums.chosen.Given as goal

abbrev pub invariant-loop-sum : goal.invariant-loop-sum
invariant-loop-sum l = record {
  same : map program_told l.list.items ≡ map told_program (take l.sum-index l.wanted);
  there : AreThere l.programs (take l.sum-index l.wanted);
}
