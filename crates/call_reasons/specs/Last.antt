-- Why the call of a process was refused by the last event of a session, if it was.
use Rattle.std.specs.Prelude.{◌≡◌, ◌≢◌, ◌-◌, ◌&&◌, ℕ, Bool, false, List, [], length, nat_eq, slice_get, take, Option, None, Some, IsSome, is_some}
use Rattle.std.specs.Option.{option_and_then}
use Rattle.std.specs.Ordering.{int_eq}
use Rattle.kernel_spec.specs.runs.Run.{World, Event, Outcome, Step_of}
use Rattle.kernel_spec.specs.steps.Own.{Answer, Stepped, Called, Blocked, Exited, Faulted}
use Rattle.kernel_spec.specs.views.Words.{minus_one}
use Rattle.xv_machine.specs.Meaning.{Meaning}
use Rattle.xv_machine.specs.Reached.{IsEvent}
use Rattle.xv_session.specs.Recorded.{IsPlayed, Recorded}
use Rattle.call_reasons.specs.Asked.{asked_of, call_asked}
use Rattle.call_reasons.specs.Shown.{reason_in}
use Rattle.call_reasons.specs.declared.reason.Reason.{Reason}

-- ---- by a state

-- why that which process p asks for is refused, if it is; none if nobody has this pid
abbrev pub reason_asked : World → (p : ℕ) → Option Reason
reason_asked w p = option_and_then (λ asked. reason_in w.state p (call_asked asked) minus_one) (asked_of w p)

-- ---- by an outcome

-- a call was refused: it is done, and has answered -1
abbrev pub is_refused : Answer → Bool
is_refused (Called number value) = int_eq value minus_one
is_refused Stepped = false
is_refused (Blocked number) = false
is_refused (Exited status) = false
is_refused (Faulted cause) = false

-- a call of process p was refused
abbrev pub is_refusal : (p : ℕ) → Outcome → Bool
is_refusal p (Step_of q answer) = nat_eq q p && is_refused answer
is_refusal p _ = false

-- ---- by an event

-- There is a reason exactly if process p's call is refused by this event of a machine. Then it is what the machine shows before the event
pub record IsReasonBy (before : Meaning) (event : Event) (p : ℕ) (reason : Option Reason) : Type 0 where
  pub outcome : Outcome
  pub after : Meaning
  pub came : IsEvent before event outcome after
  pub exactly : is_some reason ≡ is_refusal p outcome
  pub shown : IsSome reason → reason ≡ reason_asked before.world p

-- ---- of a session

-- all events of a session but the last lead to this machine
abbrev pub IsBeforeLast : Recorded → Meaning → Type 0
IsBeforeLast s m = IsPlayed s.frames s.trace s.programs (take (length s.events - 1) s.events) m

-- There is a reason exactly if process p's call was refused by the last event. Then it is what the machine shows that the events before that one lead to
pub record IsReasonBefore (s : Recorded) (p : ℕ) (reason : Option Reason) : Type 0 where
  pub before : Meaning
  pub is_before : IsBeforeLast s before
  pub event : Event
  pub last : slice_get s.events (length s.events - 1) ≡ Some event
  pub by : IsReasonBy before event p reason

-- The same, and there is none if there was no event
pub record IsReasonOfLast (s : Recorded) (p : ℕ) (reason : Option Reason) : Type 0 where
  pub none : s.events ≡ [] → reason ≡ None
  pub some : s.events ≢ [] → IsReasonBefore s p reason
