use Rattle.std.proofs.Common.{List, sym, subst}
use Rattle.std.proofs.lemmas.Result.{IfOk-weaker}
use Rattle.grade_sheets.specs.declared.asked.Asked.{Asked}
use Rattle.grade_sheets.specs.Standings.{IsUngraded}
use Rattle.grade_submissions.specs.declared.submission.HandedIn.{HandedIn}
use Rattle.grade_submissions.specs.Results.{IsRun, IsResultFor}
use Rattle.grade_submissions.proofs.grading.run_result.Goals as goal

-- it is run
pub returns-in-File : goal.returns-in-File
returns-in-File g c =
    let reads = g.D.Disk.reads c.args.disk.now in
    let run = c.args.run.now in
    let folder = c.args.exercise_folder.now in
    IfOk-weaker c.one_run.result (IsRun reads folder run c.in-File.submission) (IsResultFor reads folder run c.args.handed_in)
    (λ grade given. subst (λ (h : HandedIn). IsResultFor reads folder run h grade) (sym c.in-File.is) given) c.one_run.ensures

-- it isn't
pub returns-in_ok-ungraded-in-Refused : goal.returns-in_ok-ungraded-in-Refused
returns-in_ok-ungraded-in-Refused g c =
    let grade = c.in_ok-ungraded-in-Refused.field-0 in
    subst (λ (h : HandedIn). IsResultFor (g.D.Disk.reads c.args.disk.now) c.args.exercise_folder.now c.args.run.now h grade) (sym c.in-Refused.is)
    (record {
      ungraded = subst (λ (asked : List Asked). IsUngraded asked grade) c.as_slice.ensures.value c.in_ok-ungraded-in-Refused.ensures.refused;
      told = c.in_ok-ungraded-in-Refused.ensures.cause;
    })
