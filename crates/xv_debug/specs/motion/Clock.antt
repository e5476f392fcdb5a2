-- Which event comes next on a way: the record's, as long as the run is on it, and then the clock's. A round of the clock has so many Runs, its quantum, and then a Tick comes. It begins with a key, if the plan has one for it.
use Rattle.std.specs.Prelude.{◌≡◌, ◌≢◌, ◌⊎◌, ℕ, zero, suc, ◌-◌, ◌<◌, ◌≤◌, Bool, true, false, if◌then◌else◌, List, [], ◌∷◌, ◌++◌, replicate}
use Rattle.kernel_spec.specs.runs.Run.{World, Event, Run, Tick, Key, Send}
use Rattle.xv_machine.specs.Events.{event_of}
use Rattle.recordings.specs.Recording.{Begins}
use Rattle.xv_debug.specs.motion.Backwards.{is_run}
use Rattle.xv_debug.specs.motion.Plan.{Planned, key_due}
use Rattle.xv_debug.specs.motion.Resting.{AreAwaitingTicks, RestsQuiet, SomebodyMayGoOn}
use Rattle.xv_debug.specs.declared.motion.clock.Coming.{Coming}
use Rattle.xv_debug.specs.declared.motion.clock.Coming.TheVariants.{Runs, Other}
use Rattle.xv_debug.specs.declared.motion.clock.Far.{Far}
use Rattle.xv_debug.specs.declared.motion.clock.Round.{Round}
use Rattle.xv_debug.specs.declared.motion.journey.Stop.{Stop}
use Rattle.xv_debug.specs.declared.motion.journey.Stop.TheVariants.{Asleep, Halted}

-- ---- how far a round is

-- A Run takes one of those that are left, if there is one; a Key is the round's; a Tick begins the next round
abbrev pub round_by : (quantum : ℕ) → Round → Event → Round
round_by quantum round Run = record { left = round.left - 1; keyed = round.keyed }
round_by quantum round Tick = record { left = quantum; keyed = false }
round_by quantum round (Key byte) = record { left = round.left; keyed = true }
round_by quantum round Send = round

-- after these events
abbrev pub round_after : (quantum : ℕ) → Round → List Event → Round
round_after quantum round [] = round
round_after quantum round (e ∷ es) = round_after quantum (round_by quantum round e) es

-- one of which nothing has come yet
abbrev pub begun : (quantum : ℕ) → Round
begun quantum = record { left = quantum; keyed = false }

-- after all events of a run, which began a round
abbrev pub round_of : (quantum : ℕ) → List Event → Round
round_of quantum events = round_after quantum (begun quantum) events

abbrev pub is_tick : Event → Bool
is_tick Tick = true
is_tick _ = false

abbrev pub is_key : Event → Bool
is_key (Key byte) = true
is_key _ = false

-- so many equal events take so many Runs, if they aren't Ticks
abbrev pub runs_among : Event → (count : ℕ) → ℕ
runs_among e count = if is_run e then count else 0

-- ---- the clock's next event

-- It is a Send, if a byte waits in the console. Else it is the round's key, if that is due. Else it is a Tick, if the round has no Run left and somebody may go on, or if all sleep and one of them sleeps up to a tick or a later round has a key; and a Run, if the round has one left and somebody may go on
abbrev pub IsByClock : Planned → Round → World → Event → Type 0
IsByClock plan round w Send = w.state.console.to_send ≢ []
IsByClock plan round w (Key byte) = (w.state.console.to_send ≡ []) × (key_due plan round w ≡ Key byte ∷ [])
IsByClock plan round w Tick = (w.state.console.to_send ≡ []) × (key_due plan round w ≡ []) × (((round.left ≡ 0) × SomebodyMayGoOn w) ⊎ AreAwaitingTicks plan w)
IsByClock plan round w Run = (w.state.console.to_send ≡ []) × (key_due plan round w ≡ []) × (0 < round.left) × SomebodyMayGoOn w

-- ---- the record's

-- The record begins with the events so far, and goes on by this one
abbrev pub IsAhead : (recorded before : List Event) → Event → Type 0
IsAhead recorded before e = Begins recorded (before ++ e ∷ [])

abbrev pub HasAhead : (recorded before : List Event) → Type 0
HasAhead recorded before = (e : Event) × IsAhead recorded before e

-- It has no event for this place: it is over, or the run has got another event than it
abbrev pub NoneAhead : (recorded before : List Event) → Type 0
NoneAhead recorded before = ¬ (HasAhead recorded before)

-- How many events there are up to the Tick of this number, which is one of them; all, if there are fewer Ticks
abbrev pub events_to_tick : (number : ℕ) → List Event → ℕ
events_to_tick zero events = 0
events_to_tick (suc n) [] = 0
events_to_tick (suc n) (e ∷ es) = suc (events_to_tick (if is_tick e then n else suc n) es)

-- ---- the next event

-- It is the record's, if that has one, whatever the clock says; and else the clock's
abbrev pub IsNext : Planned → (before : List Event) → World → Event → Type 0
IsNext plan before w e = IsAhead plan.recorded before e ⊎ (NoneAhead plan.recorded before × IsByClock plan (round_of plan.quantum before) w e)

-- A way rests if the record has no event, and the clock none
abbrev pub EndsQuiet : Planned → (before : List Event) → Stop → World → Type 0
EndsQuiet plan before stop w = NoneAhead plan.recorded before × RestsQuiet plan (round_of plan.quantum before) stop w

-- a way that stops so has come to such a rest; for another reason it may stop anywhere
abbrev pub EndsQuietIf : Planned → (before : List Event) → Stop → World → Type 0
EndsQuietIf plan before Halted w = EndsQuiet plan before Halted w
EndsQuietIf plan before Asleep w = EndsQuiet plan before Asleep w
EndsQuietIf plan before _ w = Unit {0}

-- ---- Runs in a row

-- So many Runs come next, as long as each does an instruction: the record has them; or it has no event, and the clock has them
abbrev pub RunsCome : Planned → (before : List Event) → (count : ℕ) → World → Type 0
RunsCome plan before count w =
    Begins plan.recorded (before ++ replicate count Run)
    ⊎ (NoneAhead plan.recorded before × (count ≤ (round_of plan.quantum before).left) × (w.state.console.to_send ≡ []) × (key_due plan (round_of plan.quantum before) w ≡ []) × SomebodyMayGoOn w)

-- This comes next: Runs, one at least, or an event of another kind
abbrev pub Comes : Planned → (before : List Event) → World → Coming → Type 0
Comes plan before w (Runs count) = (0 < count) × RunsCome plan before count w
Comes plan before w (Other e) = (is_run (event_of e) ≡ false) × IsNext plan before w (event_of e)

-- ---- how far a way is

-- Its round is so far; and the run is on the record, up to its end, or the record has no event for it
pub record IsFar (plan : Planned) (events : List Event) (far : Far) : Type 0 where
  pub round : far.round ≡ round_of plan.quantum events
  pub along : far.along ≡ true → Begins plan.recorded events
  pub apart : far.along ≡ false → NoneAhead plan.recorded events

-- and the record has an event, if the run is on it
pub record IsHere (plan : Planned) (events : List Event) (far : Far) : Type 0 where
  pub round : far.round ≡ round_of plan.quantum events
  pub along : far.along ≡ true → HasAhead plan.recorded events
  pub apart : far.along ≡ false → NoneAhead plan.recorded events
