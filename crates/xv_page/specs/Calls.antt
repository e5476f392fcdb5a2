-- What the calls leave that change a session.
use Rattle.std.specs.Prelude.{◌≡◌, ℕ, Bool, false, List, Option, None, Some}
use Rattle.kernel_spec.specs.runs.Run as runs
use Rattle.kernel_spec.specs.runs.Run.{bytes_out}
use Rattle.xv_session.specs.Answers.{Sent, RunsSent, Found, Stopped, WentBack}
use Rattle.xv_session.specs.Recorded.{Recorded, IsRecorded}
use Rattle.xv_session.specs.declared.until.Condition.{Condition}
use Rattle.xv_page.specs.Told.{told_of, runs_told, laid}
use Rattle.xv_page.specs.declared.answers.Answer.{Answer}
use Rattle.xv_page.specs.declared.answers.Answer.TheVariants.{Done, NotBooted, Memory, Full, Unknown}
use Rattle.xv_page.specs.declared.outcomes.Told.{Told}
use Rattle.xv_page.specs.declared.outcomes.RunsTold.{RunsTold}

-- Said of a call's answer and of the session before and after it. If there was none, the call says so, there still is none, and what is told stays as it was
abbrev pub OnSession : (untold : Type 0) → (Answer → Recorded → Recorded → Type 0) → Answer → (old new : Option Recorded) → Type 0
OnSession untold P answer None new = (answer ≡ NotBooted) × (new ≡ None) × untold
OnSession untold P answer (Some s) None = ⊥
OnSession untold P answer (Some s) (Some t) = P answer s t

-- nothing is changed, and nothing told
abbrev pub Unchanged : {A : Type 0} → (before told : A) → (old new : Recorded) → Type 0
Unchanged before told old new = (new ≡ old) × (told ≡ before)

-- the event that the host means was sent: what came of it is what the machine promises; it is told, and the bytes that it shows are laid into the room
pub record EventDone (wanted : Option runs.Event) (before after : Told × List ℕ) (old new : Recorded) : Type 0 where
  pub event : runs.Event
  pub is_wanted : wanted ≡ Some event
  pub outcome : runs.Outcome
  pub sent : Sent old event outcome new
  pub is_told : after.0 ≡ told_of outcome
  pub is_shown : after.1 ≡ laid (bytes_out outcome) before.1

abbrev pub EventSent : (wanted : Option runs.Event) → (before after : Told × List ℕ) → Answer → (old new : Recorded) → Type 0
EventSent wanted before after Done old new = EventDone wanted before after old new
EventSent wanted before after Unknown old new = (wanted ≡ None) × Unchanged before after old new
EventSent wanted before after Memory old new = Unchanged before after old new
EventSent wanted before after Full old new = Unchanged before after old new
EventSent wanted before after NotBooted old new = ⊥

-- so many Runs were sent as are told, and this came of the last
pub record RunDone (most : ℕ) (told : RunsTold) (old new : Recorded) : Type 0 where
  pub last : Option runs.Outcome
  pub sent : RunsSent most told.sent last old new
  pub is_told : told ≡ runs_told told.sent false last

abbrev pub RunSent : (most : ℕ) → (before told : RunsTold) → Answer → (old new : Recorded) → Type 0
RunSent most before told Done old new = RunDone most told old new
RunSent most before told Memory old new = Unchanged before told old new
RunSent most before told Full old new = Unchanged before told old new
RunSent most before told NotBooted old new = ⊥
RunSent most before told Unknown old new = ⊥

-- so many Runs were sent as are told, up to the first that is what is waited for
pub record SearchDone (most : ℕ) (wanted : Option Condition) (told : RunsTold) (old new : Recorded) : Type 0 where
  pub condition : Condition
  pub is_wanted : wanted ≡ Some condition
  pub met : Bool
  pub last : Option runs.Outcome
  pub found : Found condition most told.sent met last old new
  pub is_told : told ≡ runs_told told.sent met last

abbrev pub Searched : (most : ℕ) → (wanted : Option Condition) → (before told : RunsTold) → Answer → (old new : Recorded) → Type 0
Searched most wanted before told Done old new = SearchDone most wanted told old new
Searched most wanted before told Unknown old new = (wanted ≡ None) × Unchanged before told old new
Searched most wanted before told Memory old new = Unchanged before told old new
Searched most wanted before told Full old new = Unchanged before told old new
Searched most wanted before told NotBooted old new = ⊥

-- so many Runs were sent as are told, up to the first that leads to a stop, or of which no done instruction came
pub record StopDone (most : ℕ) (addresses bytes : List ℕ) (told : RunsTold) (old new : Recorded) : Type 0 where
  pub met : Bool
  pub last : Option runs.Outcome
  pub stopped : Stopped addresses bytes most told.sent met last old new
  pub is_told : told ≡ runs_told told.sent met last

abbrev pub StopSought : (most : ℕ) → (addresses bytes : List ℕ) → (before told : RunsTold) → Answer → (old new : Recorded) → Type 0
StopSought most addresses bytes before told Done old new = StopDone most addresses bytes told old new
StopSought most addresses bytes before told Memory old new = Unchanged before told old new
StopSought most addresses bytes before told Full old new = Unchanged before told old new
StopSought most addresses bytes before told NotBooted old new = ⊥
StopSought most addresses bytes before told Unknown old new = ⊥

-- the machine is the one that the first events led to, and these are all that it has got
abbrev pub IsBack : (place : ℕ) → Answer → (old new : Recorded) → Type 0
IsBack place Done old new = WentBack place old new × IsRecorded new
IsBack place Memory old new = new ≡ old
IsBack place Full old new = new ≡ old
IsBack place NotBooted old new = ⊥
IsBack place Unknown old new = ⊥
