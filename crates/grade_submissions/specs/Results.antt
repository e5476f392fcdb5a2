-- What a submission gives, told of its runs on the machine.
use Rattle.std.specs.Prelude.{◌≡◌, ◌⊎◌, ℕ, List, [], ◌∷◌, ◌-◌, ◌^◌, min, max, Option, Err, IfSome, String, string_bytes}
use Rattle.std.specs.declared.alloc.Global.{Global}
use Rattle.std.specs.Int.{div_ceil}
use Rattle.std.specs.Io.KnownBytes.{Appends}
use Rattle.std.specs.Str.Lines.{lines}
use Rattle.grade_sheets.specs.declared.exercise.Exercise.{Exercise}
use Rattle.grade_sheets.specs.declared.exercise.Run.{Run}
use Rattle.grade_sheets.specs.declared.grade.Grade.{Grade}
use Rattle.grade_sheets.specs.declared.grade.RunGrade.{RunGrade}
use Rattle.grade_sheets.specs.declared.judging.Seen.{Seen}
use Rattle.grade_sheets.specs.Points.{points_of_runs, points_of_exercise}
use Rattle.grade_sheets.specs.Records.{line_of}
use Rattle.grade_sheets.specs.Standings.{IsGraded, IsUngraded, first_standing, first_refusal}
use Rattle.kernel_spec.specs.runs.First.{first}
use Rattle.xk_base.specs.declared.errors.BootError.{BootError}
use Rattle.xk_base.specs.declared.program.Program.{Program}
use Rattle.grade_submissions.specs.declared.command_line.Settings.{Settings}
use Rattle.grade_submissions.specs.declared.exercise_file.ReadExercise.{ReadExercise}
use Rattle.grade_submissions.specs.declared.grading.TheConstants.{TRACE}
use Rattle.grade_submissions.specs.declared.playing.Plan.{Plan}
use Rattle.grade_submissions.specs.declared.playing.Played.{Played}
use Rattle.grade_submissions.specs.declared.submission.HandedIn.{HandedIn}
use Rattle.grade_submissions.specs.declared.submission.HandedIn.TheVariants.{File, Refused}
use Rattle.grade_submissions.specs.declared.submission.Submission.{Submission}
use Rattle.grade_submissions.specs.Disks.{Reads}
use Rattle.grade_submissions.specs.Files.{AreFoundIn, IsFolderOf, Handing, IsHandedIn, AreRefusedBy, IsNameOf, IsShownAs, programs_of}
use Rattle.grade_submissions.specs.Plays.{IsRunOf, end_of}

-- how a run of the exercise is played: in rounds of its quantum, so many as hold its most Runs, with its budget
abbrev pub plan_of : Run → Plan
plan_of run = record { rounds = min (div_ceil run.most_runs (max run.quantum 1)) (2 ^ 32 - 1); quantum = run.quantum; budget = run.budget }

-- where files lie: the folder of the exercise's file, and what is handed in
pub record Places : Type 0 where
  pub exercise : List ℕ
  pub handing : Handing

-- if what is handed in lies in this folder, and this text says which of its files aren't to be run
abbrev pub places_in : (exercise folder refused : List ℕ) → Places
places_in exercise folder refused = record { exercise = exercise; handing = record { folder = folder; refused = lines refused } }

-- What is graded is what the machine did, the notes of its events, the bytes that it showed and how it ended, and the text that was handed in
pub record IsSeenOf (played : Played) (text : List ℕ) (seen : Seen) : Type 0 where
  pub notes : seen.notes.now ≡ played.kept.notes.items
  pub shown : seen.shown.now ≡ played.kept.shown.items
  pub ended : seen.end ≡ end_of played.session.machine.world.turns.halted played.kept
  pub handed_in : seen.handed_in.now ≡ text

-- the grade is what the rules say of a run of what was handed in
pub record IsGradeOf (run : Run) (submission : Submission) (played : Played) (grade : RunGrade) : Type 0 where
  pub seen : Seen
  pub is_seen : IsSeenOf played (string_bytes submission.text) seen
  pub graded : IsGraded run.asked.items seen grade

-- A machine with the run's frames was booted with these programs of the exercise, its texts and what was handed in, played the run's rounds with its keys, and was graded
pub record IsMade (run : Run) (files : List Program) (submission : Submission) (grade : RunGrade) : Type 0 where
  pub played : Played
  pub made : IsRunOf run.frames TRACE (programs_of files run.texts.items submission) (plan_of run) (string_bytes run.keys) played
  pub graded : IsGradeOf run submission played grade

-- No machine boots with these programs, and the run has no points
pub record IsUnbooted (run : Run) (files : List Program) (submission : Submission) (grade : RunGrade) : Type 0 where
  pub error : BootError
  pub refused : first run.frames TRACE (programs_of files run.texts.items submission) ≡ Err error
  pub ungraded : IsUngraded run.asked.items grade

abbrev pub IsResultWith : Run → List Program → Submission → RunGrade → Type 0
IsResultWith run files submission grade = IsMade run files submission grade ⊎ IsUnbooted run files submission grade

-- the same, with the programs of the exercise's files, which lie in this folder
pub record IsRun (reads : Reads) (exercise : List ℕ) (run : Run) (submission : Submission) (grade : RunGrade) : Type 0 where
  pub files : List Program
  pub found : AreFoundIn reads exercise run.with.items files
  pub result : IsResultWith run files submission grade

-- the run has no points, for this reason
pub record IsUnrun (run : Run) (why : String Global) (grade : RunGrade) : Type 0 where
  pub ungraded : IsUngraded run.asked.items grade
  pub told : grade.cause ≡ why

-- what a run gives, if this is handed in
abbrev pub IsResultFor : Reads → (exercise : List ℕ) → Run → HandedIn → RunGrade → Type 0
IsResultFor reads exercise run (File submission) grade = IsRun reads exercise run submission grade
IsResultFor reads exercise run (Refused why) grade = IsUnrun run why grade

-- what a run gives: it is made of what is handed in for it, and has no points exactly if that is refused, or if no machine boots
pub record IsResultOf (reads : Reads) (places : Places) (run : Run) (grade : RunGrade) : Type 0 where
  pub handed_in : HandedIn
  pub is_that : IsHandedIn reads places.handing run.files.items handed_in
  pub result : IsResultFor reads places.exercise run handed_in grade

-- a result for each run, in their order
abbrev pub AreResultsOf : Reads → Places → List Run → List RunGrade → Type 0
AreResultsOf reads places [] [] = Unit {0}
AreResultsOf reads places [] (grade ∷ grades) = ⊥
AreResultsOf reads places (run ∷ runs) [] = ⊥
AreResultsOf reads places (run ∷ runs) (grade ∷ grades) = IsResultOf reads places run grade × AreResultsOf reads places runs grades

-- What a submission gives: a result for each run of the exercise, the sum of their points, what the first run that isn't right comes to, and why, if that run has no points
pub record IsWholeGrade (reads : Reads) (places : Places) (exercise : Exercise) (grade : Grade) : Type 0 where
  pub runs : AreResultsOf reads places exercise.runs.items grade.runs.items
  pub points : grade.points ≡ min (points_of_runs grade.runs.items) (2 ^ 64 - 1)
  pub asked : grade.of ≡ min (points_of_exercise exercise.runs.items) (2 ^ 64 - 1)
  pub standing : grade.standing ≡ first_standing grade.runs.items
  pub reason : IfSome (first_refusal grade.runs.items) (λ cause. string_bytes grade.reason ≡ cause)

-- the exercise was read of the file of this path, as a student of this name has it
pub record IsExerciseOf (reads : Reads) (path name : List ℕ) (read : ReadExercise) : Type 0 where
  pub from : reads.bytes path (string_bytes read.text)
  pub student : read.student.items ≡ name

-- What is written is the line of the submission in this folder: it has the submission's name, and the grade of its runs by the exercise that the settings name
pub record IsLineShown (reads : Reads) (settings : Settings) (folder : List ℕ) (before after : Option (List ℕ)) : Type 0 where
  pub name : List ℕ
  pub read : ReadExercise
  pub exercise_folder : List ℕ
  pub refused : List ℕ
  pub grade : Grade
  pub shown : List ℕ
  pub named : IsNameOf reads settings.name folder name
  pub is_read : IsExerciseOf reads (string_bytes settings.exercise) name read
  pub is_folder : IsFolderOf (string_bytes settings.exercise) exercise_folder
  pub are_refused : AreRefusedBy reads settings.refused refused
  pub graded : IsWholeGrade reads (places_in exercise_folder folder refused) read.exercise grade
  pub shown_as : IsShownAs name shown
  pub line : Appends before after (line_of shown grade)
