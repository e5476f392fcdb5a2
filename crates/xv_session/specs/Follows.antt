-- How a machine goes on, with the names of its processes' programs and whose step was last. Only this crate's private functions speak of it.
use Rattle.std.specs.Prelude.{◌≡◌, ℕ, zero, suc, List, Option}
use Rattle.std.specs.List.{last_or}
use Rattle.std.specs.Option.{option_or}
use Rattle.kernel_spec.specs.runs.Run.{Event, Outcome}
use Rattle.kernel_spec.specs.runs.Rounds.{events}
use Rattle.xv_machine.specs.Drives.{Goes}
use Rattle.xv_session.specs.LastStep.{steppers}
use Rattle.xv_session.specs.Names.{NamesGo}
use Rattle.xv_session.specs.declared.followed.Followed.{Followed}

-- All three go from old to new by these events, whatever comes of each
pub record Follows (wanted : List Event) (old new : Followed) : Type 0 where
  pub list : List (Event × Outcome)
  pub goes : Goes old.running.machine list new.running.machine
  pub named : NamesGo old.running.machine.world list new.running.machine.world old.running.names new.running.names
  pub those : events list ≡ wanted
  pub last : new.last ≡ last_or old.last (steppers list)

-- whose step was last after so many Runs that were sent at once: that of the process that ran before them, if one did
abbrev pub last_after : (sent : ℕ) → (current before : Option ℕ) → Option ℕ
last_after zero current before = before
last_after (suc n) current before = option_or current before
