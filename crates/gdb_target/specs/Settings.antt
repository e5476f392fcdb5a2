-- What a command line may ask for.
use Rattle.std.specs.Prelude.{◌≤◌, ◌<◌, vec_len}
use Rattle.gdb_target.specs.declared.service.command_line.Settings.{Settings}
use Rattle.program_files.specs.Ranges.{IsFrameCount, IsQuantum}

-- each number lies in its range, and there is a FILE
pub record AreInRange (s : Settings) : Type 0 where
  pub frames : IsFrameCount s.frames
  pub quantum : IsQuantum s.quantum
  pub most : (1 ≤ s.most) × (s.most ≤ 4000000000)
  pub files : 0 < vec_len s.files
