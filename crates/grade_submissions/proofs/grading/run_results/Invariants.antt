use Rattle.std.proofs.Common.{take, map}
use Rattle.grade_submissions.specs.Results.{AreResultsOf}
use Rattle.grade_submissions.proofs.grading.run_results.Given as goal

abbrev pub invariant-loop-run : goal.invariant-loop-run
invariant-loop-run g l =
    AreResultsOf (g.D.Disk.reads l.disk) (record { exercise = l.exercise_folder; handing = record { folder = l.folder; refused = map (λ line. line.now) l.refused } })
    (take l.run-index l.runs) l.grades.items
