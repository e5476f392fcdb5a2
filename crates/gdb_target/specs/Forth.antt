-- What a command that goes on goes by, and where it ends.
use Rattle.std.specs.Prelude.{◌≡◌, ◌⊎◌, ℕ, ℤ, zero, suc, ◌+◌, ◌-◌, ◌^◌, Bool, true, false, not, ◌==◌, ◌&&◌, length, min, Option, None, Some, IsSome, is_none}
use Rattle.kernel_spec.specs.views.State.{live}
use Rattle.kernel_spec.specs.steps.Own.{Answer, Stepped, Called, Blocked, Exited, Faulted}
use Rattle.kernel_spec.specs.runs.Run as runs
use Rattle.kernel_spec.specs.runs.Run.{Outcome}
use Rattle.gdb_packets.specs.declared.answers.StopReason.{StopReason}
use Rattle.gdb_packets.specs.declared.answers.StopReason.TheVariants as why
use Rattle.gdb_target.specs.Before.{told_before}
use Rattle.gdb_target.specs.Came.{Comes}
use Rattle.gdb_target.specs.LetRun.{if_let, lets, teller}
use Rattle.gdb_target.specs.SameRun.{beginning}
use Rattle.gdb_target.specs.Standing.{stander}
use Rattle.gdb_target.specs.Told.{state_of}
use Rattle.gdb_target.specs.Touches.{reason_of_use, touched, watches_uses}
use Rattle.gdb_target.specs.declared.let_run.LetRun.{LetRun}
use Rattle.gdb_target.specs.declared.let_run.LetRun.TheVariants.{All, Alone}
use Rattle.gdb_target.specs.declared.points.Points.{Points}
use Rattle.gdb_target.specs.declared.target.Pause.{Pause}
use Rattle.gdb_target.specs.declared.target.Pause.TheVariants.{Shows, Stopped, Gone, Ended}
use Rattle.gdb_target.specs.declared.target.Stopped as stops
use Rattle.gdb_target.specs.declared.target.Target.{Target}
use Rattle.gdb_target.specs.declared.target.Until.{Until}
use Rattle.gdb_target.specs.declared.target.Until.TheVariants.{Point, StepOf, AnyStep}
use Rattle.gdb_target.specs.declared.target.Way.{Way}
use Rattle.gdb_target.specs.declared.touches.Touch.{Touch}
use Rattle.gdb_target.specs.declared.touches.Use.TheVariants.{Read, Access}

-- ---- steps

-- this answer ends a step: an instruction or a kernel call is done, or the process is gone
abbrev pub is_done : Answer → Bool
is_done Stepped = true
is_done (Called number value) = true
is_done (Blocked number) = false
is_done (Exited status) = true
is_done (Faulted cause) = true

-- a step of this process is waited for
abbrev pub is_meant : Until → (p : ℕ) → Bool
is_meant Point p = false
is_meant (StepOf wanted) p = wanted == p
is_meant AnyStep p = true

-- this came of a step that is waited for
abbrev pub is_step : Until → Outcome → Bool
is_step until (runs.Step_of p answer) = is_done answer && is_meant until p
is_step until (runs.Turn p) = false
is_step until runs.Idle = false
is_step until runs.Ticked = false
is_step until (runs.Typed echo) = false
is_step until (runs.Sent byte) = false
is_step until runs.Halted = false

-- by this answer the process is gone
abbrev pub is_end : Answer → Bool
is_end Stepped = false
is_end (Called number value) = false
is_end (Blocked number) = false
is_end (Exited status) = true
is_end (Faulted cause) = true

-- this is the one that is let run alone
abbrev pub is_alone : LetRun → (p : ℕ) → Bool
is_alone All p = false
is_alone (Alone only) p = only == p

-- by this the process is gone that is let run alone
abbrev pub ends_alone : LetRun → Outcome → Bool
ends_alone let_run (runs.Step_of p answer) = is_end answer && is_alone let_run p
ends_alone let_run (runs.Turn p) = false
ends_alone let_run runs.Idle = false
ends_alone let_run runs.Ticked = false
ends_alone let_run (runs.Typed echo) = false
ends_alone let_run (runs.Sent byte) = false
ends_alone let_run runs.Halted = false

-- ---- places

-- the status with which the machine has halted
abbrev pub halted_of : Target → Option ℤ
halted_of t = t.run.session.machine.world.turns.halted

-- the process that stands at a breakpoint, if it is let run
abbrev pub standing : LetRun → Target → Option ℕ
standing let_run t = if_let let_run (stander t.run t.program t.points.breakpoints.items)

-- there is no point
abbrev pub is_bare : Points → Bool
is_bare points = ((length points.breakpoints.items == 0) && (length points.watched.items == 0)) && not (watches_uses points)

-- each place at which somebody runs is looked at
abbrev pub looks_at_each : Until → Points → Bool
looks_at_each Point points = not (is_bare points)
looks_at_each (StepOf p) points = true
looks_at_each AnyStep points = true

-- who runs
abbrev pub current_of : Target → Option ℕ
current_of t = t.run.session.machine.world.turns.current

-- nobody runs, or the places at which somebody does aren't looked at
abbrev pub IsUnseen : Until → Target → Type 0
IsUnseen until t = (current_of t ≡ None) ⊎ (looks_at_each until t.points ≡ false)

-- Events were sent, and this came of the last: one event, if the places between are to be looked at
pub record Stretch (until : Until) (from to : Target) (o : Outcome) : Type 0 where
  pub came : Comes from.run to.run o
  pub single : (length to.run.session.events ≡ length from.run.session.events + 1) ⊎ IsUnseen until from

-- it is so, and the machine hasn't halted: one that has stops for nothing more
abbrev pub is_reached : Bool → Target → Bool
is_reached so t = so && is_none (halted_of t)

-- a step that is waited for is done
abbrev pub is_step_done : Way → Outcome → Target → Bool
is_step_done way o t = is_reached (is_step way.until o) t

-- the process that is let run alone is gone
abbrev pub is_gone : Way → Outcome → Target → Bool
is_gone way o t = is_reached (ends_alone way.let_run o) t

-- ---- the way

-- at its end no step is done that is waited for, no process that is let run stands at a breakpoint, and the one that is let run alone isn't gone; and
-- no instruction of one that is let run read bytes that are watched for reads, or used bytes that are watched for reads and writes
pub record IsPassed (way : Way) (from to : Target) : Type 0 where
  pub outcome : Outcome
  pub stretch : Stretch way.until from to outcome
  pub untouched : touched way.let_run from outcome ≡ None
  pub no_step : is_step_done way outcome to ≡ false
  pub nobody : standing way.let_run to ≡ None
  pub there : is_gone way outcome to ≡ false

-- so many such stretches, one after another
abbrev pub Passed : Way → (stretches : ℕ) → (from to : Target) → Type 0
Passed way zero from to = to ≡ from
Passed way (suc n) from to = (mid : Target) × Passed way n from mid × IsPassed way mid to

-- ---- the end

-- it may be the process that did a step: the one whose step was waited for
abbrev pub IsStepper : Until → (p : ℕ) → Type 0
IsStepper Point p = Unit {0}
IsStepper (StepOf wanted) p = p ≡ wanted
IsStepper AnyStep p = Unit {0}

-- a step is done, which is told of the process that did it
pub record IsStepDone (way : Way) (o : Outcome) (p : ℕ) (t : Target) : Type 0 where
  pub reached : is_step_done way o t ≡ true
  pub by : ℕ
  pub stepper : IsStepper way.until by
  pub told_of : p ≡ teller way.let_run by

-- a step is done, or this process stands at a breakpoint; and the one that is let run alone isn't gone
abbrev pub IsTrap : Way → Outcome → (p : ℕ) → Target → Type 0
IsTrap way o p t = (IsStepDone way o p t ⊎ (standing way.let_run t ≡ Some p)) × (is_gone way o t ≡ false)

-- bytes that are watched became others, of a process that lives
abbrev pub IsChanged : (p : ℕ) → Target → Type 0
IsChanged p t = (halted_of t ≡ None) × IsSome (live (state_of t) p)

-- Why it stops: at a trap; since bytes that are watched became others; since the instruction of the last event read bytes that are watched for reads; or since it used
-- bytes that are watched for reads and writes, or these became others
abbrev pub IsStopFor : Way → (from : Target) → Outcome → StopReason → (p : ℕ) → Target → Type 0
IsStopFor way from o why.Trap p t = IsTrap way o p t
IsStopFor way from o (why.Watch address) p t = IsChanged p t
IsStopFor way from o (why.ReadWatch address) p t = touched way.let_run from o ≡ Some (record { pid = p; how = Read address })
IsStopFor way from o (why.AccessWatch address) p t = (touched way.let_run from o ≡ Some (record { pid = p; how = Access address })) ⊎ IsChanged p t
IsStopFor way from o _ p t = ⊥

-- From the place to which the run had come it went back by one event, and notes that this place was told
pub record IsOneBack (old new : Target) : Type 0 where
  pub same : beginning new.run ≡ beginning old.run
  pub back : length new.run.session.events ≡ length old.run.session.events - 1
  pub noted : new.told ≡ Some (length new.run.session.events)

-- The next event of the run makes the fault, or ends process 1, and the stop is the one that is told before that. The last stretch led to there, and the run went back by this event
pub record IsBeforeTold (way : Way) (from : Target) (stopped : stops.Stopped) (to : Target) : Type 0 where
  pub happened : Target
  pub outcome : Outcome
  pub stretch : Stretch way.until from happened outcome
  pub told : told_before way.let_run outcome ≡ Some stopped
  pub back : IsOneBack happened to

-- The last stretch led to the stop, of a process that is let run
pub record IsStop (way : Way) (from : Target) (reason : StopReason) (p : ℕ) (to : Target) : Type 0 where
  pub outcome : Outcome
  pub stretch : Stretch way.until from to outcome
  pub is : IsStopFor way from outcome reason p to
  pub let_run : lets way.let_run p ≡ true

-- The last stretch led to where the process is gone that was let run alone
pub record IsGone (way : Way) (from to : Target) : Type 0 where
  pub outcome : Outcome
  pub stretch : Stretch way.until from to outcome
  pub gone : is_gone way outcome to ≡ true

-- the machine has halted with this status, and this came of a Send for which no byte was left
abbrev pub IsEndOf : Outcome → (status : ℤ) → Target → Type 0
IsEndOf (runs.Sent None) status t = halted_of t ≡ Some status
IsEndOf _ status t = ⊥

-- The last stretch led to the end
pub record IsEnd (way : Way) (from : Target) (status : ℤ) (to : Target) : Type 0 where
  pub outcome : Outcome
  pub stretch : Stretch way.until from to outcome
  pub ended : IsEndOf outcome status to

-- By a stretch it came to this pause; or it passed
abbrev pub Goes : Way → (from : Target) → Option Pause → (to : Target) → Type 0
Goes way from None to = IsPassed way from to
Goes way from (Some Shows) to = IsPassed way from to
Goes way from (Some (Stopped s)) to = IsBeforeTold way from s to ⊎ IsStop way from s.reason s.pid to
Goes way from (Some Gone) to = IsGone way from to
Goes way from (Some (Ended status)) to = IsEnd way from status to

abbrev pub EndsBy : Way → (from : Target) → Option Pause → (to : Target) → Type 0
EndsBy way from None to = to ≡ from
EndsBy way from (Some pause) to = Goes way from (Some pause) to

-- The run passed by stretches, none of which led to a stop; and by the next it came to this pause, or it went no further
pub record GoesBy (way : Way) (old : Target) (pause : Option Pause) (new : Target) : Type 0 where
  pub stretches : ℕ
  pub last : Target
  pub passed : Passed way stretches old last
  pub ends : EndsBy way last pause new

-- the place after which a command that goes on from here sends no event
abbrev pub end_of : Target → ℕ
end_of t = min (length t.run.session.events + t.most) (2 ^ 64 - 1)

-- ---- parts of it

-- what stands here after this: nobody, since the process is gone that is let run alone; a trap; or nothing that stops
abbrev pub Stands : Way → Outcome → Target → Option Pause → Type 0
Stands way o t None = (is_step_done way o t ≡ false) × (standing way.let_run t ≡ None) × (is_gone way o t ≡ false)
Stands way o t (Some Shows) = ⊥
Stands way o t (Some (Stopped s)) = (s.reason ≡ why.Trap) × IsTrap way o s.pid t × (lets way.let_run s.pid ≡ true)
Stands way o t (Some Gone) = is_gone way o t ≡ true
Stands way o t (Some (Ended status)) = ⊥

-- this stop is told, and the run went back by one event
pub record Tells (stopped : stops.Stopped) (old : Target) (pause : Option Pause) (new : Target) : Type 0 where
  pub pause_is : pause ≡ Some (Stopped stopped)
  pub back : IsOneBack old new

abbrev pub TellsIf : Option stops.Stopped → (old : Target) → Option Pause → (new : Target) → Type 0
TellsIf None old pause new = ⊥
TellsIf (Some stopped) old pause new = Tells stopped old pause new

-- the stop that is told before what came, if there is one; or what stands here
abbrev pub IsJudged : Way → (before : Option stops.Stopped) → Outcome → (old : Target) → Option Pause → (new : Target) → Type 0
IsJudged way before o old pause new = TellsIf before old pause new ⊎ ((new ≡ old) × Stands way o new pause)

-- a use of watched bytes that an instruction made is told; or, if it made none, it is judged
abbrev pub IsUsedOrJudged : Way → (used : Option Touch) → Outcome → (old : Target) → Option Pause → (new : Target) → Type 0
IsUsedOrJudged way None o old pause new = IsJudged way (told_before way.let_run o) o old pause new
IsUsedOrJudged way (Some touch) o old pause new = (pause ≡ Some (Stopped (record { reason = reason_of_use touch.how; pid = touch.pid }))) × (new ≡ old)

-- the console shows bytes, and then it goes on
abbrev pub shows : Option Pause → Bool
shows None = false
shows (Some Shows) = true
shows (Some (Stopped s)) = false
shows (Some Gone) = false
shows (Some (Ended status)) = false

-- it stops at nothing, or only to tell what the console shows
abbrev pub goes_on : Option Pause → Bool
goes_on None = true
goes_on (Some pause) = shows (Some pause)

-- this pause, or one that tells what the console shows
abbrev pub or_shows : Option Pause → (shows : Bool) → Option Pause
or_shows (Some pause) shows = Some pause
or_shows None true = Some Shows
or_shows None false = None
