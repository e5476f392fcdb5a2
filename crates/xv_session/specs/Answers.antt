-- What the calls of a session answer, and what they leave.
use Rattle.std.specs.Prelude.{◌≡◌, ◌≢◌, ℕ, ◌+◌, ◌<◌, ◌≤◌, Bool, true, List, [], ◌∷◌, ◌++◌, take, drop, length, replicate, slice_get, Option, None, Some, Result, Ok, Err}
use Rattle.xk_base.specs.declared.errors.BootError.{BootError}
use Rattle.kernel_spec.specs.views.State.{ProgramFile}
use Rattle.kernel_spec.specs.runs.Run.{Event, Run, Outcome}
use Rattle.xv_machine.specs.Meaning.{Meaning}
use Rattle.xv_session.specs.Names.{first_names}
use Rattle.xv_session.specs.Recorded.{Recorded, running_of}
use Rattle.xv_session.specs.Steps.{Advances, RunsMade}
use Rattle.xv_session.specs.Until.{Searched}
use Rattle.xv_session.specs.Stops.{WentOn}
use Rattle.xv_session.specs.declared.names.Named.{Named}
use Rattle.xv_session.specs.declared.until.Condition.{Condition}
use Rattle.xv_session.specs.declared.history.TheConstants.{EVENTS_MAX}
use Rattle.xv_session.specs.declared.session.PlayError.{PlayError}
use Rattle.xv_session.specs.declared.session.PlayError.TheVariants as unplayed
use Rattle.xv_session.specs.declared.session.SessionError.{SessionError}
use Rattle.xv_session.specs.declared.session.SessionError.TheVariants.{Memory, Full}

-- the machine of a session, where there is one
abbrev pub machine_of : Result Recorded BootError → Result Meaning BootError
machine_of (Err e) = Err e
machine_of (Ok s) = Ok s.machine

-- the session of a machine that was just booted
pub record IsNew (frames trace : ℕ) (programs : List ProgramFile) (s : Recorded) : Type 0 where
  pub frames_are : s.frames ≡ frames
  pub trace_is : s.trace ≡ trace
  pub programs_are : s.programs ≡ programs
  pub events : s.events ≡ []
  pub names : s.names ≡ first_names programs

-- the machine is this one, which has got these events, and its processes run these programs
abbrev pub stands : Recorded → List Event → Meaning → List Named → Recorded
stands s list m names = record s { events = list; machine = m; names = names }

-- the event was sent, and this came of it
abbrev pub Sent : Recorded → Event → Outcome → Recorded → Type 0
Sent old e o new = Advances (running_of old) e o (running_of new) × (new ≡ stands old (old.events ++ e ∷ []) new.machine new.names)

-- so many Runs were sent
abbrev pub RunsSent : (most sent : ℕ) → (last : Option Outcome) → Recorded → Recorded → Type 0
RunsSent most sent last old new = RunsMade most sent last (running_of old) (running_of new) × (new ≡ stands old (old.events ++ replicate sent Run) new.machine new.names)

-- Runs were sent, up to the first that is what is waited for
abbrev pub Found : Condition → (most sent : ℕ) → (met : Bool) → (last : Option Outcome) → Recorded → Recorded → Type 0
Found c most sent met last old new = Searched c most met last (running_of old) (running_of new) sent × (new ≡ stands old (old.events ++ replicate sent Run) new.machine new.names)

-- Runs were sent, up to the first that leads to a stop, or of which no done instruction came
abbrev pub Stopped : (addresses bytes : List ℕ) → (most sent : ℕ) → (met : Bool) → (last : Option Outcome) → Recorded → Recorded → Type 0
Stopped addresses bytes most sent met last old new =
    WentOn addresses bytes most met last (running_of old) (running_of new) sent × (new ≡ stands old (old.events ++ replicate sent Run) new.machine new.names)

-- the machine is the one that the first events lead to, and these are all that it has got
abbrev pub WentBack : (place : ℕ) → Recorded → Recorded → Type 0
WentBack place old new = new ≡ stands old (take place old.events) new.machine new.names

-- the event at a place, and how many events from there on are equal to it, one at least; none where there are fewer events
abbrev pub AreEqualFrom : List Event → (place : ℕ) → Option (Event × ℕ) → Type 0
AreEqualFrom list place None = length list ≤ place
AreEqualFrom list place (Some (e, count)) = (0 < count) × (take count (drop place list) ≡ replicate count e)

-- the event behind them is another, or there is none
abbrev pub EndThere : List Event → (place : ℕ) → Option (Event × ℕ) → Type 0
EndThere list place None = Unit {0}
EndThere list place (Some (e, count)) = slice_get list (place + count) ≢ Some e

-- Why no event is taken: the host has too little memory, of which nothing is said here; or the session keeps all that it may
abbrev pub IsReason : SessionError → (kept : ℕ) → Type 0
IsReason Memory kept = Unit {0}
IsReason Full kept = EVENTS_MAX ≤ kept

-- Why the events before a place weren't played again: it was broken off, which may happen, or the host has too little memory, of which nothing is said here
abbrev pub IsUnplayedBy : (may_end : Bool) → PlayError → Type 0
IsUnplayedBy may_end unplayed.Broken = may_end ≡ true
IsUnplayedBy may_end unplayed.Memory = Unit {0}
