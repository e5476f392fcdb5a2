-- What a command line may ask for.
use Rattle.std.specs.Prelude.{◌<◌, vec_len}
use Rattle.program_files.specs.Ranges.{IsFrameCount, IsRoundCount, IsQuantum, IsNoteCount}
use Rattle.run_work.specs.Work.{IsBudgetNumber}
use Rattle.reported_run.specs.declared.line.Settings.{Settings}

-- each number lies in its range, and there is a FILE
pub record AreInRange (s : Settings) : Type 0 where
  pub frames : IsFrameCount s.frames
  pub rounds : IsRoundCount s.rounds
  pub quantum : IsQuantum s.quantum
  pub trace : IsNoteCount s.trace
  pub budget : IsBudgetNumber s.budget
  pub files : 0 < vec_len s.files
