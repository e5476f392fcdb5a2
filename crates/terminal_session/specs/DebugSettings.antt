-- What a command line of the debugger alone may ask for, and by what the run goes on then.
use Rattle.std.specs.Prelude.{◌≡◌, ◌<◌, [], None, vec_len}
use Rattle.program_files.specs.Ranges.{IsFrameCount, IsNoteCount, IsQuantum}
use Rattle.xv_debug.specs.motion.Plan.{Planned}
use Rattle.terminal_session.specs.declared.debugging.command_line.Settings.{Settings}

-- each number lies in its range, and there is a FILE
pub record AreInRange (s : Settings) : Type 0 where
  pub frames : IsFrameCount s.frames
  pub quantum : IsQuantum s.quantum
  pub trace : IsNoteCount s.trace
  pub files : 0 < vec_len s.files

-- Its rounds have as many Runs as are asked for, and no key is typed if no file of keys is named
pub record IsPlanOf (s : Settings) (plan : Planned) : Type 0 where
  pub quantum : plan.quantum ≡ s.quantum
  pub keys : s.keys ≡ None → plan.keys ≡ []
