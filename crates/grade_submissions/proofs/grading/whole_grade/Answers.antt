use Rattle.std.proofs.Common.{◌≡◌, ◌∙◌, ℕ, List, map, subst, refl, ap}
use Rattle.std.specs.Str.Lines.{lines}
use Rattle.grade_sheets.specs.declared.exercise.Run.{Run}
use Rattle.grade_submissions.specs.Results.{places_in, AreResultsOf}
use Rattle.grade_submissions.proofs.Making.{whole}
use Rattle.grade_submissions.proofs.grading.whole_grade.Goals as goal

pub returns : goal.returns
returns g c =
    let reads = g.D.Disk.reads c.args.disk.now in
    let of = c.in_ok-of.ensures in
    let exercise = c.args.exercise_folder.now in
    let folder = c.args.folder.now in
    let results = c.in_ok-runs.runs.items in
    let read : map (λ line. line.now) c.as_slice-2.result.now ≡ lines c.args.refused.now =
    ap (λ list. map (λ line. line.now) list) c.as_slice-2.ensures.value ∙ c.in_ok-lines.ensures in
    let all = subst (λ (runs : List Run).
    AreResultsOf reads (record { exercise = exercise; handing = record { folder = folder; refused = map (λ line. line.now) c.as_slice-2.result.now } }) runs results)
    c.as_slice.ensures.value c.in_ok-runs.ensures in
    let here = subst (λ (said : List (List ℕ)).
    AreResultsOf reads (record { exercise = exercise; handing = record { folder = folder; refused = said } }) c.args.exercise.now.runs.items results) read all in
    whole reads (places_in exercise folder c.args.refused.now) c.args.exercise.now results c.in_ok-of.field-0 here (rw (of.runs) refl) of.points of.asked of.standing of.reason
