use Rattle.grade_sheets.proofs.Prelude.{AreAnswered, is_none, take}
use Rattle.grade_sheets.proofs.judging.first_complaint.Given as goal

abbrev pub invariant-loop-check : goal.invariant-loop-check
invariant-loop-check l = AreAnswered (take l.check-index l.checks) l.seen (is_none l.first)
