use Rattle.grade_sheets.proofs.Prelude.{AreMarked, take}
use Rattle.grade_sheets.proofs.judging.marks.Given as goal

abbrev pub invariant-loop-one : goal.invariant-loop-one
invariant-loop-one l = AreMarked (take l.one-index l.asked) l.seen l.marks.items
