use Rattle.grade_sheets.proofs.Prelude.{◌≡◌, min, points_of_runs, take}
use Rattle.grade_sheets.proofs.Marking.{most}
use Rattle.grade_sheets.proofs.grade.points_of_runs.Given as goal

abbrev pub invariant-loop-run : goal.invariant-loop-run
invariant-loop-run l = l.all ≡ min (points_of_runs (take l.run-index l.runs)) most
