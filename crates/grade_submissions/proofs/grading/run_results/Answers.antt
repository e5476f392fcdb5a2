use Rattle.std.proofs.Common.{◌+◌, ◌<◌, List, length, take, map, sym, subst, arith}
use Rattle.std.specs.Prelude.{String}
use Rattle.std.specs.declared.alloc.Global.{Global}
use Rattle.grade_sheets.specs.declared.grade.RunGrade.{RunGrade}
use Rattle.grade_submissions.specs.Files.{Handing, IsHandedIn}
use Rattle.grade_submissions.specs.Results.{Places, AreResultsOf}
use Rattle.grade_submissions.proofs.Collecting.{result_more}
use Rattle.grade_submissions.proofs.grading.run_results.Goals as goal

-- a result more
pub loop-run-preserved : goal.loop-run-preserved
loop-run-preserved g c =
    let reads = g.D.Disk.reads c.args.disk.now in
    let runs = c.args.runs.now in
    let place = c.loop-run.run-index in
    let handing : Handing = record { folder = c.args.folder.now; refused = map (λ line. line.now) c.args.refused.now } in
    let places : Places = record { exercise = c.args.exercise_folder.now; handing = handing } in
    let within : place < length runs = omega (arith, c.loop-run-test.true) in
    let handed : IsHandedIn reads handing c.run-item.result.files.items c.in_ok-handed_in.handed_in =
    subst (λ (files : List (String Global)). IsHandedIn reads handing files c.in_ok-handed_in.handed_in) c.as_slice.ensures.value c.in_ok-handed_in.ensures in
    subst (λ (rs : List RunGrade). AreResultsOf reads places (take (place + 1) runs) rs) (sym c.in_ok-push.ensures.items)
    (result_more reads places runs c.loop-run.grades.items place c.run-item.result c.in_ok-run_result.field-0 within c.run-item.is c.loop-run.invariant
    (record { handed_in = c.in_ok-handed_in.handed_in; is_that = handed; result = c.in_ok-run_result.ensures }))
