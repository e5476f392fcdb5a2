use Rattle.grade_sheets.proofs.Marking.{none_given}
use Rattle.grade_sheets.proofs.grade.ungraded.Goals as goal

pub returns-clause-points : goal.returns-clause-points
returns-clause-points c = none_given c.loop-one.marks.items c.loop-one.invariant.none
