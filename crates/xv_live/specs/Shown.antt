-- What a session and the screen come to by events.
use Rattle.std.specs.Prelude.{◌≡◌, ℕ, List, ◌++◌, Option}
use Rattle.std.specs.Io.KnownBytes.{Appends}
use Rattle.kernel_spec.specs.runs.Run.{Event, Outcome, out}
use Rattle.kernel_spec.specs.runs.Rounds.{events}
use Rattle.xv_machine.specs.Drives.{Goes}
use Rattle.xv_machine.specs.Sound.{IsSoundMachine}
use Rattle.xv_session.specs.Answers.{stands}
use Rattle.xv_session.specs.Recorded.{Recorded}

-- The machine, which is sound, as that of each session is, went by events. The session keeps them, in their order, behind those that it had; and what they show, and nothing else, was written, in their order, behind what the screen had
pub record Shown (old new : Recorded) (screen screen_after : Option (List ℕ)) : Type 0 where
  pub list : List (Event × Outcome)
  pub goes : IsSoundMachine old.machine → Goes old.machine list new.machine
  pub kept : new ≡ stands old (old.events ++ events list) new.machine new.names
  pub written : Appends screen screen_after (out list)
