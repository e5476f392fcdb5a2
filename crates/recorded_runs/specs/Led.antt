-- A session that a record's events have led on.
use Rattle.std.specs.Prelude.{◌≡◌, List, ◌++◌}
use Rattle.kernel_spec.specs.runs.Run.{Event, Outcome}
use Rattle.kernel_spec.specs.runs.Rounds.{events}
use Rattle.xv_machine.specs.Drives.{Goes}
use Rattle.xv_machine.specs.Sound.{IsSoundMachine}
use Rattle.xv_session.specs.Answers.{stands}
use Rattle.xv_session.specs.Recorded.{Recorded}

-- The machine, which is sound, as that of each session is, got just these events, in order, and the session keeps them after those that it had
pub record IsLedBy (wanted : List Event) (old new : Recorded) : Type 0 where
  pub list : List (Event × Outcome)
  pub goes : IsSoundMachine old.machine → Goes old.machine list new.machine
  pub those : events list ≡ wanted
  pub kept : new ≡ stands old (old.events ++ wanted) new.machine new.names
