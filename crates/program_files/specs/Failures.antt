-- Why a program ends early, and what its exit status then is.
use Rattle.std.specs.Prelude.{ℕ}
use Rattle.xk_base.specs.declared.errors.BootError.{BootError}
use Rattle.xk_base.specs.declared.errors.BootError.TheVariants as boots
use Rattle.xv_session.specs.declared.session.SessionError.{SessionError}
use Rattle.xv_session.specs.declared.session.SessionError.TheVariants as sessions
use Rattle.program_files.specs.declared.failure.Failure.{Failure}
use Rattle.program_files.specs.declared.failure.Failure.TheVariants.{File, Refused, Boot, OutOfMemory, TooManyEvents, Read, Write, Clock, CannotBeWritten, RecordUnwritten, UnrecordableName}

-- the exit status: 2 if what the command line names is refused, or if memory or room for events is short; 5 if a device failed, or if a file can't be written
abbrev pub failure_status : Failure → ℕ
failure_status (File refusal) = 2
failure_status (Refused why) = 2
failure_status (Boot error) = 2
failure_status OutOfMemory = 2
failure_status TooManyEvents = 2
failure_status Read = 5
failure_status Write = 5
failure_status Clock = 5
failure_status (CannotBeWritten path) = 5
failure_status RecordUnwritten = 5
failure_status UnrecordableName = 5

-- if a boot is refused: that memory is short, or why
abbrev pub failure_of_boot : BootError → Failure
failure_of_boot boots.Memory = OutOfMemory
failure_of_boot boots.BadConfig = Boot boots.BadConfig
failure_of_boot (boots.BadPrograms place) = Boot (boots.BadPrograms place)
failure_of_boot boots.NoInit = Boot boots.NoInit
failure_of_boot (boots.Init error) = Boot (boots.Init error)

-- if a session can't keep an event
abbrev pub failure_of_session : SessionError → Failure
failure_of_session sessions.Memory = OutOfMemory
failure_of_session sessions.Full = TooManyEvents
