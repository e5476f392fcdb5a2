-- What is told of a run: the notes of its events, with what each call was given, what it showed, and how it ended.
use Rattle.std.specs.Prelude.{◌≡◌, ◌⊎◌, ℕ, zero, suc, ℤ, ◌+◌, Bool, true, false, ◌||◌, if◌then◌else◌, nat_lt, List, [], ◌∷◌, ◌++◌, length, replicate, sum_by, is_some, is_none, nat_eq, Option, None, Some, Result, Ok, Err}
use Rattle.grade_rules.specs.declared.given.Given.{Given}
use Rattle.grade_rules.specs.declared.note.Note.{Note}
use Rattle.grade_rules.specs.declared.note.Note.TheVariants as note
use Rattle.grade_rules.specs.declared.ending.End.{End}
use Rattle.grade_rules.specs.declared.ending.End.TheVariants as ends
use Rattle.kernel_spec.specs.runs.First.{first}
use Rattle.kernel_spec.specs.runs.Run.{World, Event, Run, Tick, Key, Send, Outcome, Step_of, Turn, Idle, Ticked, Typed, Sent, Halted, bytes_out, out}
use Rattle.kernel_spec.specs.runs.Rounds.{events, Planned}
use Rattle.kernel_spec.specs.steps.Own.{Answer, Stepped, Called, Blocked, Exited, Faulted}
use Rattle.kernel_spec.specs.views.State.{ProgramFile}
use Rattle.kernel_spec.specs.views.Words.{or_zero}
use Rattle.kernel_spec.specs.waking.Wakes.{Promised, IsPromised}
use Rattle.xk_base.specs.Access.{code_of}
use Rattle.xk_base.specs.declared.errors.BootError.{BootError}
use Rattle.kcall_core.specs.Observers.{size_of}
use Rattle.run_work.specs.Work.{cost, size_now, with_more}
use Rattle.run_work.specs.declared.cost.Before.{Before}
use Rattle.xv_machine.specs.Drives.{StopsInRound, done_by}
use Rattle.xv_machine.specs.Reached.{IsReached}
use Rattle.grade_submissions.specs.Givens.{given_in, nothing_given}
use Rattle.grade_submissions.specs.Pipes.{Made, made_of, none_made, pipes_after}
use Rattle.grade_submissions.specs.declared.playing.TheConstants.{NOTES_MAX, SHOWN_MAX}
use Rattle.grade_submissions.specs.declared.playing.Kept.{Kept}
use Rattle.grade_submissions.specs.declared.playing.Plan.{Plan}
use Rattle.grade_submissions.specs.declared.playing.Played.{Played}

-- ---- notes

-- the note of a step, whose call was given this: none of an instruction that is done
abbrev pub note_of_step : Given → ℕ → Answer → Option Note
note_of_step given p Stepped = None
note_of_step given p (Called number value) = Some (note.Called p number value given)
note_of_step given p (Blocked number) = Some (note.Blocked p number given)
note_of_step given p (Exited status) = Some (note.Exited p status)
note_of_step given p (Faulted cause) = Some (note.Faulted p (code_of cause))

abbrev pub note_with : Given → Outcome → Option Note
note_with given (Step_of p answer) = note_of_step given p answer
note_with given (Turn p) = Some (note.Turn p)
note_with given Idle = None
note_with given Ticked = None
note_with given (Typed echo) = None
note_with given (Sent byte) = None
note_with given Halted = None

-- the note of what came of an event, of the world before it, in a run that has made these pipes
abbrev pub note_of : Made → World → Outcome → Option Note
note_of made w o = note_with (given_in made w) o

abbrev pub all_of : Option Note → List Note
all_of None = []
all_of (Some n) = n ∷ []

-- the note of the last of Runs that were sent as nobody ran, if any came of it
abbrev pub passed_notes : Option Outcome → List Note
passed_notes None = []
passed_notes (Some o) = all_of (note_with nothing_given o)

-- ---- the fault that is told

-- the place of the event that was a fault: that of process 1, if it has one, and else the first
abbrev pub fault_after : Option ℕ → (place : ℕ) → Outcome → Option ℕ
fault_after before place (Step_of p (Faulted cause)) = if is_none before || nat_eq p 1 then Some place else before
fault_after before place (Step_of p Stepped) = before
fault_after before place (Step_of p (Called number value)) = before
fault_after before place (Step_of p (Blocked number)) = before
fault_after before place (Step_of p (Exited status)) = before
fault_after before place (Turn p) = before
fault_after before place Idle = before
fault_after before place Ticked = before
fault_after before place (Typed echo) = before
fault_after before place (Sent byte) = before
fault_after before place Halted = before

-- behind Runs that were sent at once, the last of which is at this place, unless each was a done instruction
abbrev pub fault_behind : Option ℕ → (place : ℕ) → Option Outcome → Option ℕ
fault_behind before place None = before
fault_behind before place (Some o) = fault_after before place o

-- ---- what is noted of events

pub record Noted : Type 0 where
  -- the notes, in the order of their events
  pub notes : List Note
  -- the place of the fault that is told
  pub fault : Option ℕ
  -- how many events there were: the place of the next one
  pub events : ℕ
  -- the pipes that were made
  pub pipes : Made

abbrev pub nothing_noted : Noted
nothing_noted = record { notes = []; fault = None; events = 0; pipes = none_made }

-- after an event, of which this came, from the world w to t: its note, of the world before it, stands behind those before, the fault that is told has its place, and a pipe that it made is the next one
abbrev pub noted_with : (w t : World) → Outcome → Noted → Noted
noted_with w t o n = record {
  notes = n.notes ++ all_of (note_of n.pipes w o);
  fault = fault_after n.fault n.events o;
  events = n.events + 1;
  pipes = pipes_after (given_in n.pipes w) t o n.pipes;
}

-- The world goes from w to t by these events, each as promised, and what is noted of them goes from `before` to `after`
abbrev pub NotesGo : World → List (Event × Outcome) → World → (before after : Noted) → Type 0
NotesGo w [] t before after = (t ≡ w) × (after ≡ before)
NotesGo w (e ∷ es) t before after = (mid : World) × Promised w e.0 e.1 mid × NotesGo mid es t (noted_with w mid e.1 before) after

-- what is noted of a run
abbrev pub noted_of : Played → Noted
noted_of p = record { notes = p.kept.notes.items; fault = p.kept.fault; events = length p.session.events; pipes = made_of p.kept.pipes }

-- ---- what is known behind each event

pub record Told : Type 0 where
  pub shown : List ℕ
  -- how many Runs were sent
  pub runs : ℕ
  -- the process that had the last turn
  pub last : Option ℕ
  -- no process could run at the last Run
  pub idle : Bool
  -- the last Send sent a byte
  pub sending : Bool

abbrev pub nothing : Told
nothing = record { shown = []; runs = 0; last = None; idle = false; sending = false }

abbrev pub last_after : Option ℕ → Outcome → Option ℕ
last_after before (Turn p) = Some p
last_after before (Step_of p answer) = before
last_after before Idle = before
last_after before Ticked = before
last_after before (Typed echo) = before
last_after before (Sent byte) = before
last_after before Halted = before

abbrev pub is_idle : Outcome → Bool
is_idle Idle = true
is_idle (Step_of p answer) = false
is_idle (Turn p) = false
is_idle Ticked = false
is_idle (Typed echo) = false
is_idle (Sent byte) = false
is_idle Halted = false

-- behind so many Runs, the last of which gave this
abbrev pub idle_after : Bool → ℕ → Outcome → Bool
idle_after before zero o = before
idle_after before (suc more) o = is_idle o

-- whether the last Send sent a byte, behind an outcome
abbrev pub sending_after : Bool → Outcome → Bool
sending_after before (Sent byte) = is_some byte
sending_after before Idle = before
sending_after before (Step_of p answer) = before
sending_after before (Turn p) = before
sending_after before Ticked = before
sending_after before (Typed echo) = before
sending_after before Halted = before

abbrev pub runs_in : Event → ℕ
runs_in Run = 1
runs_in Tick = 0
runs_in (Key byte) = 0
runs_in Send = 0

-- how many of these events are Runs
abbrev pub runs_among : List Event → ℕ
runs_among list = sum_by runs_in list

-- what an outcome adds, behind so many Runs
abbrev pub told_with : Told → ℕ → Outcome → Told
told_with t sent o = record { shown = t.shown ++ bytes_out o; runs = t.runs + sent; last = last_after t.last o; idle = idle_after t.idle sent o; sending = sending_after t.sending o }

-- what is told behind a list of events
abbrev pub told_by : Told → List (Event × Outcome) → Told
told_by t [] = t
told_by t (e ∷ list) = told_by (told_with t (runs_in e.0) e.1) list

-- what Runs add that were sent at once: what came of the last one, unless each was a done instruction
abbrev pub told_runs : Told → ℕ → Option Outcome → Told
told_runs t sent None = record { shown = t.shown; runs = t.runs + sent; last = t.last; idle = false; sending = t.sending }
told_runs t sent (Some o) = told_with t sent o

abbrev pub told_of : Kept → Told
told_of k = record { shown = k.shown.items; runs = k.runs; last = k.last; idle = k.idle; sending = k.sending }

-- ---- the work

-- what came of the last of these events
abbrev pub last_came : List (Event × Outcome) → Option Outcome
last_came [] = None
last_came (e ∷ []) = Some e.1
last_came (e ∷ f ∷ list) = last_came (f ∷ list)

-- so many instructions of the process that runs are done, and nothing else
abbrev pub AreInstructions : (sent : ℕ) → World → World → Type 0
AreInstructions sent w t = IsPromised w (replicate sent (done_by (or_zero w.turns.current))) t

-- So many Runs were worked off: what they cost is added, by what is seen of the machine before them and behind them, and by what came of the last of them
pub record WorksOff (sent : ℕ) (old new : Played) : Type 0 where
  pub list : List (Event × Outcome)
  pub came : IsPromised old.session.machine.world list new.session.machine.world
  pub those : events list ≡ replicate sent Run
  pub before : Before
  pub free : before.free ≡ old.session.machine.world.state.free
  pub size : before.size ≡ size_now (size_of old.session.machine.world.state) old.session.machine.world.turns.current
  pub work : new.kept.work ≡ with_more old.kept.work (cost before sent new.session.machine.world.state.free (size_of new.session.machine.world.state) (last_came list))

-- The last of so many Runs was worked off, before which the machine was seen like this: what all of them cost is added
pub record LastWorksOff (sent : ℕ) (before : Before) (old new : Played) : Type 0 where
  pub outcome : Outcome
  pub came : Promised old.session.machine.world Run outcome new.session.machine.world
  pub work : new.kept.work ≡ with_more old.kept.work (cost before sent new.session.machine.world.state.free (size_of new.session.machine.world.state) (Some outcome))

-- ---- what stops a run

-- there are more notes than are kept, or more work is done than the budget has
abbrev pub is_full : Kept → Bool
is_full k = nat_lt NOTES_MAX (length k.notes.items) || nat_lt k.budget k.work

-- it is full, or more bytes were shown than are kept
abbrev pub is_over : Kept → Bool
is_over k = is_full k || nat_lt SHOWN_MAX (length k.shown.items)

-- ---- a run that goes on

-- The machine went on by these events, from wherever it came, and what is kept tells them
pub record PlaysOn (wanted : List Event) (old new : Played) : Type 0 where
  pub list : List (Event × Outcome)
  pub those : events list ≡ wanted
  pub reaches : (frames trace : ℕ) (programs : List ProgramFile) (es : List (Event × Outcome)) → IsReached frames trace programs es old.session.machine → IsReached frames trace programs (es ++ list) new.session.machine
  pub noted : NotesGo old.session.machine.world list new.session.machine.world (noted_of old) (noted_of new)
  pub told : told_of new.kept ≡ told_by (told_of old.kept) list
  pub budget : new.kept.budget ≡ old.kept.budget

-- It went on by the first of these events: by all of them, unless it is full then
pub record PlaysFirst (wanted : List Event) (old new : Played) : Type 0 where
  pub part : List Event
  pub rest : List Event
  pub those : part ++ rest ≡ wanted
  pub plays : PlaysOn part old new
  pub all : (rest ≡ []) ⊎ (is_full new.kept ≡ true)

-- ---- the whole run

-- The events are whole rounds of the plan, each with the next key if one is left: all that may begin, or fewer, and the first events of one more, if too much was noted, shown or done
abbrev pub IsByPlan : Plan → (keys : List ℕ) → List (Event × Outcome) → Kept → Type 0
IsByPlan plan keys list kept = Planned plan.rounds plan.quantum keys false list ⊎ (StopsInRound plan.rounds plan.quantum keys false list × (is_over kept ≡ true))

-- A machine with so many frames, a trace of so many notes and these programs was booted, and has got these events, by the plan and with these keys: what is kept are their notes, each of the world before its event, the place of the fault that is told, and what they showed
pub record IsRunOf (frames trace : ℕ) (programs : List ProgramFile) (plan : Plan) (keys : List ℕ) (p : Played) : Type 0 where
  pub list : List (Event × Outcome)
  pub reached : IsReached frames trace programs list p.session.machine
  pub rounds : IsByPlan plan keys list p.kept
  pub booted : World
  pub boots : first frames trace programs ≡ Ok booted
  pub noted : NotesGo booted list p.session.machine.world nothing_noted (noted_of p)
  pub shown : p.kept.shown.items ≡ out list
  pub told : told_of p.kept ≡ told_by nothing list
  pub budget : p.kept.budget ≡ plan.budget

-- a run, or why none could be booted
abbrev pub IsPlayed : (frames trace : ℕ) → List ProgramFile → Plan → (keys : List ℕ) → Result Played BootError → Type 0
IsPlayed frames trace programs plan keys (Ok p) = IsRunOf frames trace programs plan keys p
IsPlayed frames trace programs plan keys (Err e) = first frames trace programs ≡ Err e

-- ---- its end

-- how a run stands that hasn't ended: more notes or bytes than are kept, or more work than its budget has; or it waits, for what the console sends or for something else; or it computes
abbrev pub waiting : (sending : Bool) → End
waiting sending = if sending then ends.Floods else ends.Waits

abbrev pub unended : Kept → End
unended k =
    if nat_lt NOTES_MAX (length k.notes.items) then ends.TooManyNotes
    else (if nat_lt SHOWN_MAX (length k.shown.items) then ends.TooMuchShown
    else (if nat_lt k.budget k.work then ends.OverBudget else (if k.idle then waiting k.sending else ends.Computes)))

abbrev pub end_of : Option ℤ → Kept → End
end_of None k = unended k
end_of (Some status) k = ends.Exited status
