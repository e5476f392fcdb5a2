use Rattle.grade_sheets.proofs.Prelude.{◌≡◌, drop, first_refusal}
use Rattle.grade_sheets.proofs.grade.first_refusal.Given as goal

abbrev pub invariant-loop-run : goal.invariant-loop-run
invariant-loop-run l = first_refusal (drop l.run-index l.runs) ≡ first_refusal l.runs
