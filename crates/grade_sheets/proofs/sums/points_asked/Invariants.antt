use Rattle.grade_sheets.proofs.Prelude.{◌≡◌, asked_for, min, sum_by, take}
use Rattle.grade_sheets.proofs.Marking.{most}
use Rattle.grade_sheets.proofs.sums.points_asked.Given as goal

abbrev pub invariant-loop-one : goal.invariant-loop-one
invariant-loop-one l = l.sum ≡ min (sum_by asked_for (take l.one-index l.asked)) most
