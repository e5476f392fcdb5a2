use Rattle.grade_sheets.proofs.Prelude.{◌≡◌, drop, first_standing}
use Rattle.grade_sheets.proofs.grade.first_standing.Given as goal

abbrev pub invariant-loop-run : goal.invariant-loop-run
invariant-loop-run l = first_standing (drop l.run-index l.runs) ≡ first_standing l.runs
