use Rattle.xv_report.specs.Lines.{IsNearestBelow}
use Rattle.xv_report.proofs.lines.nearest.Given as goal

abbrev pub invariant-loop-place : goal.invariant-loop-place
invariant-loop-place l = IsNearestBelow l.place l.rows l.program l.address l.nearest
