-- Events that are sent one by one, and what the console shows of them.
use Rattle.std.specs.Prelude.{◌≡◌, List, [], ◌∷◌, Bool, false, ◌||◌, Option, None, Some}
use Rattle.kernel_spec.specs.runs.Run.{Event, Outcome, out}
use Rattle.kernel_spec.specs.runs.Rounds.{events}
use Rattle.xv_machine.specs.Reached.{AreEvents}
use Rattle.xv_session.specs.Recorded.{Recorded}
use Rattle.xv_session.specs.Until.{faults}
use Rattle.xv_debug.specs.motion.Effects.{Adds}
use Rattle.xv_debug.specs.motion.Shown.{KeepsShown}
use Rattle.xv_debug.specs.declared.motion.output.Output.{Output}

-- what came of the last event
abbrev pub last_outcome : List (Event × Outcome) → Option Outcome
last_outcome [] = None
last_outcome (e ∷ []) = Some e.1
last_outcome (e ∷ f ∷ es) = last_outcome (f ∷ es)

-- a fault came of one of the events
abbrev pub any_fault : List (Event × Outcome) → Bool
any_fault [] = false
any_fault (e ∷ es) = faults e.1 || any_fault es

-- The session got these events behind those that it had: the machine went by them, whatever came of each; and what the console showed of them is kept
pub record Plays (wanted : List Event) (old new : Recorded) (had has : Output) : Type 0 where
  pub adds : Adds wanted old new
  pub list : List (Event × Outcome)
  pub goes : AreEvents old.machine list new.machine
  pub those : events list ≡ wanted
  pub shown : KeepsShown (out list) had has

-- and this came of the last of them
abbrev pub Sends : (wanted : List Event) → (last : Option Outcome) → (old new : Recorded) → (had has : Output) → Type 0
Sends wanted last old new had has = (p : Plays wanted old new had has) × (last ≡ last_outcome p.list)
