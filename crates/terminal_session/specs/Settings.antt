-- What a command line may ask for.
use Rattle.std.specs.Prelude.{◌≤◌, ◌<◌, vec_len}
use Rattle.program_files.specs.Ranges.{IsFrameCount, IsNoteCount}
use Rattle.terminal_session.specs.declared.line.Settings.{Settings}

-- each number lies in its range, and there is a FILE
pub record AreInRange (s : Settings) : Type 0 where
  pub frames : IsFrameCount s.frames
  pub trace : IsNoteCount s.trace
  pub tick : (1 ≤ s.tick) × (s.tick ≤ 60000)
  pub files : 0 < vec_len s.files
