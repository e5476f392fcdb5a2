-- Points: those of what a run has, and those of all that is asked.
use Rattle.std.specs.Prelude.{ℕ, List, sum_by, is_none, if◌then◌else◌}
use Rattle.grade_sheets.specs.declared.asked.Asked.{Asked}
use Rattle.grade_sheets.specs.declared.exercise.Run.{Run}
use Rattle.grade_sheets.specs.declared.grade.RunGrade.{RunGrade}
use Rattle.grade_sheets.specs.declared.judging.Mark.{Mark}

-- those of one mark: none if the run doesn't have it
abbrev pub given_for : Mark → ℕ
given_for mark = if is_none mark.why then mark.points else 0

-- those that it is for
abbrev pub points_for : Mark → ℕ
points_for mark = mark.points

abbrev pub asked_for : Asked → ℕ
asked_for one = one.points

-- those of a run, and of runs
abbrev pub points_of_run : RunGrade → ℕ
points_of_run run = sum_by given_for run.marks.items

abbrev pub points_of_runs : List RunGrade → ℕ
points_of_runs runs = sum_by points_of_run runs

abbrev pub points_of_asked : Run → ℕ
points_of_asked run = sum_by asked_for run.asked.items

abbrev pub points_of_exercise : List Run → ℕ
points_of_exercise runs = sum_by points_of_asked runs
