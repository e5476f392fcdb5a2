-- What a session has got that couldn't get all events that it was to get, and why.
use Rattle.std.specs.Prelude.{◌≡◌, ◌⊎◌, List, [], ◌++◌}
use Rattle.kernel_spec.specs.runs.Run.{Event, Outcome}
use Rattle.kernel_spec.specs.runs.Rounds.{events}
use Rattle.program_files.specs.declared.failure.Failure.{Failure}
use Rattle.program_files.specs.declared.failure.Failure.TheVariants.{OutOfMemory, TooManyEvents, Write}
use Rattle.xv_machine.specs.Drives.{Goes}
use Rattle.xv_machine.specs.Sound.{IsSoundMachine}
use Rattle.xv_session.specs.Answers.{stands}
use Rattle.xv_session.specs.Recorded.{Recorded}
use Rattle.xv_live.specs.Keys.{keys_of}

-- why: the session can't keep an event, since memory is short or since it has all that it can; or what an event shows can't be written
abbrev pub IsBreak : Failure → Type 0
IsBreak why = (why ≡ OutOfMemory) ⊎ ((why ≡ TooManyEvents) ⊎ (why ≡ Write))

-- The machine, which is sound, as that of each session is, went by the first of these events, and the session keeps them, in their order, after those that it had. What they show may be written in part
pub record Begins (wanted : List Event) (old new : Recorded) : Type 0 where
  pub list : List (Event × Outcome)
  pub rest : List Event
  pub first : wanted ≡ events list ++ rest
  pub goes : IsSoundMachine old.machine → Goes old.machine list new.machine
  pub kept : new ≡ stands old (old.events ++ events list) new.machine new.names

-- the same of some events, of which none is a key
pub record BeginsWithoutKeys (old new : Recorded) : Type 0 where
  pub wanted : List Event
  pub no_keys : keys_of wanted ≡ []
  pub begins : Begins wanted old new
