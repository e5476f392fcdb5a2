use Rattle.grade_sheets.proofs.Prelude.{◌≡◌, asked_for, false, has, list_any, map, points_for, take}
use Rattle.grade_sheets.proofs.grade.ungraded.Given as goal

abbrev pub invariant-loop-one : goal.invariant-loop-one
invariant-loop-one l = record { points : map points_for l.marks.items ≡ map asked_for (take l.one-index l.asked); none : list_any has l.marks.items ≡ false }
