use Rattle.std.proofs.Common.{List, subst}
use Rattle.std.proofs.lemmas.Result.{IfOk-weaker}
use Rattle.std.specs.Prelude.{String}
use Rattle.std.specs.declared.alloc.Global.{Global}
use Rattle.grade_submissions.specs.Files.{AreFoundIn}
use Rattle.grade_submissions.specs.Results.{IsResultWith, IsRun}
use Rattle.grade_submissions.proofs.grading.one_run.Goals as goal

pub returns : goal.returns
returns g c =
    let reads = g.D.Disk.reads c.args.disk.now in
    let run = c.args.run.now in
    let folder = c.args.exercise_folder.now in
    let files = c.in_ok-files.files.items in
    IfOk-weaker c.played_run.result (IsResultWith run files c.args.submission.now) (IsRun reads folder run c.args.submission.now)
    (λ grade given. record {
      files = files;
      found = subst (λ (names : List (String Global)). AreFoundIn reads folder names files) c.as_slice.ensures.value c.in_ok-files.ensures;
      result = given;
    }) c.played_run.ensures
