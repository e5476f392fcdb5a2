-- The record of a session.
use Rattle.std.specs.Prelude.{ℕ, List, length, map}
use Rattle.kernel_spec.specs.views.State.{ProgramFile}
use Rattle.sha2.specs.Sha256.{sha256}
use Rattle.xv_record.specs.Told.{ProgramTold, head_text_of, program_told_of}
use Rattle.xv_session.specs.Recorded.{Recorded}

-- of a file: its checksum, its length and its name
abbrev pub told_file : ProgramFile → ProgramTold
told_file f = program_told_of (sha256 f.bytes) (length f.bytes) f.name

-- what stands in the record of a session before its events: it tells the frames, and the machine's programs
abbrev pub head_of : (frames : ℕ) → Recorded → List ℕ
head_of frames s = head_text_of frames (map told_file s.machine.world.state.programs)
