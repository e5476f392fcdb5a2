use Rattle.std.proofs.Common.{ℕ, List, subst}
use Rattle.grade_sheets.specs.declared.asked.Asked.{Asked}
use Rattle.grade_sheets.specs.Standings.{IsGraded}
use Rattle.grade_submissions.specs.Results.{IsSeenOf}
use Rattle.grade_submissions.proofs.grading.run_grade.Goals as goal

pub returns : goal.returns
returns c =
    let told = subst (λ (asked : List Asked). IsGraded asked c.seen_of-seen.result c.in_ok-grade.grade) c.as_slice.ensures.value c.in_ok-grade.ensures in
    let is = subst (λ (text : List ℕ). IsSeenOf c.args.played.now text c.seen_of-seen.result) c.as_str-2.ensures.value c.seen_of-seen.ensures in
    record { seen = c.seen_of-seen.result; is_seen = is; graded = record { marks = told.marks; standing = told.standing } }
