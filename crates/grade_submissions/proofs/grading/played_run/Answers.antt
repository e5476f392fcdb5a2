use Rattle.std.proofs.Common.{◌≡◌, ◌∙◌, List, map, ap, rules}
use Rattle.std.proofs.lemmas.Result.{IfOk-weaker}
use Rattle.std.specs.Prelude.{string_bytes}
use Rattle.grade_sheets.specs.declared.exercise.Text.{Text}
use Rattle.grade_sheets.specs.Standings.{IsUngraded}
use Rattle.kernel_spec.specs.views.State.{named_file}
use Rattle.grade_submissions.specs.Files.{programs_of}
use Rattle.grade_submissions.specs.Results.{IsGradeOf, IsResultWith}
use Rattle.grade_submissions.proofs.Making.{made, unbooted}
use Rattle.grade_submissions.proofs.grading.played_run.Goals as goal

-- it was played
pub returns-in-Ok : goal.returns-in-Ok
returns-in-Ok g c =
    let run = c.args.run.now in
    let s = c.args.submission.now in
    let are : map named_file c.in_ok-programs.programs.items ≡ programs_of c.args.files.items run.texts.items s =
    c.in_ok-programs.ensures ∙ ap (λ (texts : List Text). programs_of c.args.files.items texts s) c.as_slice.ensures.value in
    let typed : c.as_bytes-keys.result.now ≡ string_bytes run.keys = search rules in
    IfOk-weaker c.made_run.result (IsGradeOf run s c.in-Ok.played) (IsResultWith run c.args.files.items s)
    (λ grade graded. made run c.args.files.items s (map named_file c.in_ok-programs.programs.items) c.plan_of.result c.as_bytes-keys.result.now _ are c.plan_of.ensures typed
    c.in_ok-played.ensures c.in-Ok.played grade c.in-Ok.is graded) c.made_run.ensures

-- it isn't booted
pub returns-in-Err : goal.returns-in-Err
returns-in-Err g c =
    let run = c.args.run.now in
    let s = c.args.submission.now in
    let are : map named_file c.in_ok-programs.programs.items ≡ programs_of c.args.files.items run.texts.items s =
    c.in_ok-programs.ensures ∙ ap (λ (texts : List Text). programs_of c.args.files.items texts s) c.as_slice.ensures.value in
    let typed : c.as_bytes-keys.result.now ≡ string_bytes run.keys = search rules in
    IfOk-weaker c.refused_run.result (IsUngraded run.asked.items) (IsResultWith run c.args.files.items s)
    (λ grade ungraded. unbooted run c.args.files.items s (map named_file c.in_ok-programs.programs.items) c.plan_of.result c.as_bytes-keys.result.now _ are c.plan_of.ensures typed
    c.in_ok-played.ensures c.in-Err.error grade c.in-Err.is ungraded) c.refused_run.ensures
