use Rattle.std.proofs.Common.{IfSome}
use Rattle.xv_report.specs.Places.{IsFurther}
use Rattle.xv_report.proofs.sources.ProgramSource.line_after.Given as goal

abbrev pub invariant-loop-row : goal.invariant-loop-row
invariant-loop-row l = IfSome l.found (λ f. IsFurther l.line f)
