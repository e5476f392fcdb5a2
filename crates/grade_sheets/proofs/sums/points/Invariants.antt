use Rattle.grade_sheets.proofs.Prelude.{◌≡◌, given_for, min, sum_by, take}
use Rattle.grade_sheets.proofs.Marking.{most}
use Rattle.grade_sheets.proofs.sums.points.Given as goal

abbrev pub invariant-loop-mark : goal.invariant-loop-mark
invariant-loop-mark l = l.sum ≡ min (sum_by given_for (take l.mark-index l.marks)) most
