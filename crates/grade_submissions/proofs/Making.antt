-- Results of single runs, and of a submission.
use Rattle.std.proofs.Common.{◌≡◌, ◌∙◌, ℕ, ◌-◌, ◌^◌, List, Option, Result, Ok, Err, inl, inr, sym, ap, subst}
use Rattle.std.specs.Prelude.{min, IfSome, string_bytes}
use Rattle.std.specs.Io.KnownBytes.{Appends}
use Rattle.grade_sheets.specs.declared.exercise.Exercise.{Exercise}
use Rattle.grade_sheets.specs.declared.exercise.Run.{Run}
use Rattle.grade_sheets.specs.declared.grade.Grade.{Grade}
use Rattle.grade_sheets.specs.declared.grade.RunGrade.{RunGrade}
use Rattle.grade_sheets.specs.Points.{points_of_runs, points_of_exercise}
use Rattle.grade_sheets.specs.Records.{line_of}
use Rattle.grade_sheets.specs.Standings.{IsUngraded, first_standing, first_refusal}
use Rattle.kernel_spec.specs.views.State.{ProgramFile}
use Rattle.xk_base.specs.declared.errors.BootError.{BootError}
use Rattle.xk_base.specs.declared.program.Program.{Program}
use Rattle.grade_submissions.specs.declared.command_line.Settings.{Settings}
use Rattle.grade_submissions.specs.declared.exercise_file.ReadExercise.{ReadExercise}
use Rattle.grade_submissions.specs.declared.grading.TheConstants.{TRACE}
use Rattle.grade_submissions.specs.declared.playing.Plan.{Plan}
use Rattle.grade_submissions.specs.declared.playing.Played.{Played}
use Rattle.grade_submissions.specs.declared.submission.Submission.{Submission}
use Rattle.grade_submissions.specs.Disks.{Reads}
use Rattle.grade_submissions.specs.Files.{IsFolderOf, AreRefusedBy, IsNameOf, IsShownAs, programs_of}
use Rattle.grade_submissions.specs.Plays.{IsPlayed}
use Rattle.grade_submissions.specs.Results.{Places, places_in, plan_of, IsGradeOf, IsResultWith, AreResultsOf, IsWholeGrade, IsExerciseOf, IsLineShown}

-- what was played, by the run's plan and with its keys
module _ (run : Run) (files : List Program) (s : Submission) (programs : List ProgramFile) (plan : Plan) (keys : List ℕ)
    (result : Result Played BootError) (are : programs ≡ programs_of files run.texts.items s) (by-plan : plan ≡ plan_of run) (typed : keys ≡ string_bytes run.keys)
    (played : IsPlayed run.frames TRACE programs plan keys result) where
  so : IsPlayed run.frames TRACE (programs_of files run.texts.items s) (plan_of run) (string_bytes run.keys) result
  so = subst (λ (ps : List ProgramFile). IsPlayed run.frames TRACE ps (plan_of run) (string_bytes run.keys) result) are
      (subst (λ (p : Plan). IsPlayed run.frames TRACE programs p (string_bytes run.keys) result) by-plan
      (subst (λ (ks : List ℕ). IsPlayed run.frames TRACE programs plan ks result) typed played))

  pub made : (p : Played) (grade : RunGrade) → result ≡ Ok p → IsGradeOf run s p grade → IsResultWith run files s grade
  made p grade is graded = inl (record {
    played = p;
    made = subst (λ (r : Result Played BootError). IsPlayed run.frames TRACE (programs_of files run.texts.items s) (plan_of run) (string_bytes run.keys) r) is so;
    graded = graded;
  })

  pub unbooted : (error : BootError) (grade : RunGrade) → result ≡ Err error → IsUngraded run.asked.items grade → IsResultWith run files s grade
  unbooted error grade is ungraded = inr (record {
    error = error;
    refused = subst (λ (r : Result Played BootError). IsPlayed run.frames TRACE (programs_of files run.texts.items s) (plan_of run) (string_bytes run.keys) r) is so;
    ungraded = ungraded;
  })

-- a submission's grade, over the results of its runs
pub whole : (reads : Reads) (places : Places) (exercise : Exercise) (results : List RunGrade) (grade : Grade) → AreResultsOf reads places exercise.runs.items results → grade.runs.items ≡ results
    → grade.points ≡ min (points_of_runs results) (2 ^ 64 - 1) → grade.of ≡ min (points_of_exercise exercise.runs.items) (2 ^ 64 - 1)
    → grade.standing ≡ first_standing results → IfSome (first_refusal results) (λ cause. string_bytes grade.reason ≡ cause)
    → IsWholeGrade reads places exercise grade
whole reads places exercise results grade all is points asked standing reason =
    record {
      runs = subst (λ (rs : List RunGrade). AreResultsOf reads places exercise.runs.items rs) (sym is) all;
      points = points ∙ ap (λ (rs : List RunGrade). min (points_of_runs rs) (2 ^ 64 - 1)) (sym is);
      asked = asked;
      standing = standing ∙ ap first_standing (sym is);
      reason = subst (λ (rs : List RunGrade). IfSome (first_refusal rs) (λ cause. string_bytes grade.reason ≡ cause)) (sym is) reason;
    }

-- its line, once it is written
pub shown : (reads : Reads) (settings : Settings) (folder : List ℕ) (before after : Option (List ℕ)) (name : List ℕ) (read : ReadExercise) (exercise_folder refused : List ℕ) (grade : Grade)
    (told line : List ℕ)
    → IsNameOf reads settings.name folder name → IsExerciseOf reads (string_bytes settings.exercise) name read → IsFolderOf (string_bytes settings.exercise) exercise_folder
    → AreRefusedBy reads settings.refused refused → IsWholeGrade reads (places_in exercise_folder folder refused) read.exercise grade → IsShownAs name told
    → line ≡ line_of told grade → Appends before after line → IsLineShown reads settings folder before after
shown reads settings folder before after name read exercise_folder refused grade told line named is_read is_folder are_refused graded shown_as is written = record {
  name = name;
  read = read;
  exercise_folder = exercise_folder;
  refused = refused;
  grade = grade;
  shown = told;
  named = named;
  is_read = is_read;
  is_folder = is_folder;
  are_refused = are_refused;
  graded = graded;
  shown_as = shown_as;
  line = subst (λ (bytes : List ℕ). Appends before after bytes) is written;
}
