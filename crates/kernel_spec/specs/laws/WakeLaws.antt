-- Nobody sleeps who could go on, and who may run has its turn.
use Rattle.std.specs.Prelude.{◌≡◌, ◌≢◌, ℕ, ◌≤◌, ◌⊎◌, ℤ, false, List, ◌++◌, Ok, None, Some, ◌<◌, ◌-◌}
use Rattle.xk_base.specs.declared.limits.TheConstants.{NPROC}
use Rattle.proc_table.specs.Turns.{distance}
use Rattle.kernel_spec.specs.views.View.{View}
use Rattle.kernel_spec.specs.steps.Own.{Blocked}
use Rattle.kernel_spec.specs.steps.Step.{own}
use Rattle.kernel_spec.specs.waking.Ready.{ready}
use Rattle.kernel_spec.specs.waking.Turns.{Sleeps, HasSlot}
use Rattle.kernel_spec.specs.views.State.{ProgramFile}
use Rattle.kernel_spec.specs.views.WellFormed.{HasSlots}
use Rattle.kernel_spec.specs.runs.First.{first}
use Rattle.kernel_spec.specs.runs.Run.{World, Event, Run, Outcome, Step_of, Turn, Happens, IsRun}
use Rattle.kernel_spec.specs.runs.Moments.{IsStepOf}
use Rattle.kernel_spec.specs.waking.Wakes.{IsRunnable, IsReady, NoReadySleeper, WakesWhereDue, TakesNearest, IsPromised, turns_taken, HasNoTurn}

-- promised runs join, are split, and are runs
abbrev pub PromisedRunsJoin : Type 0
PromisedRunsJoin = (w m t : World) (es fs : List (Event × Outcome)) → IsPromised w es m → IsPromised m fs t → IsPromised w (es ++ fs) t

abbrev pub PromisedRunsSplit : Type 0
PromisedRunsSplit = (w t : World) (es fs : List (Event × Outcome)) → IsPromised w (es ++ fs) t → (m : World) × IsPromised w es m × IsPromised m fs t

abbrev pub PromisedIsRun : Type 0
PromisedIsRun = (w t : World) (es : List (Event × Outcome)) → IsPromised w es t → IsRun w es t

-- ---- no lost wake-up

-- a process falls asleep only by its own step, which answers that it waits
abbrev pub FallsAsleepByItself : Type 0
FallsAsleepByItself =
    (w t : World) (e : Event) (o : Outcome) (p : ℕ) → Happens w e o t → Sleeps t.turns p
    → Sleeps w.turns p ⊎ (IsStepOf p w e × ((number : ℤ) × (o ≡ Step_of p (Blocked number))))

-- a process whose step leaves it asleep could not go on
abbrev pub BlocksUnready : Type 0
BlocksUnready = (v n : View) (number : ℤ) → (own v).answer ≡ Blocked number → (own v).next ≡ Some n → ready n ≡ false

-- where the wake-ups are those that are due, no ready process sleeps after the event
abbrev pub NoLostWakeUp : Type 0
NoLostWakeUp = (w t : World) (e : Event) (o : Outcome) → Happens w e o t → WakesWhereDue w o t → NoReadySleeper t

-- so at no time after boot does a ready process sleep
abbrev pub NeverLost : Type 0
NeverLost =
    (frames trace : ℕ) (programs : List ProgramFile) (w t : World) (es : List (Event × Outcome)) → first frames trace programs ≡ Ok w → IsPromised w es t
    → NoReadySleeper t

-- and whoever is ready may run
abbrev pub ReadyMayRun : Type 0
ReadyMayRun =
    (frames trace : ℕ) (programs : List ProgramFile) (w t : World) (es : List (Event × Outcome)) (p : ℕ) → first frames trace programs ≡ Ok w → IsPromised w es t
    → IsReady t p → IsRunnable t p

-- ---- turns

-- a process that may run, and doesn't run now, may run after any event
abbrev pub StaysRunnable : Type 0
StaysRunnable = (w t : World) (e : Event) (o : Outcome) (p : ℕ) → Happens w e o t → IsRunnable w p → w.turns.current ≢ Some p → IsRunnable t p

-- each event keeps the slots: after boot they are so (`FirstSlots`), and so they stay
abbrev pub SlotsStay : Type 0
SlotsStay = (w t : World) (e : Event) (o : Outcome) → Happens w e o t → TakesNearest w e o → HasSlots w.state w.turns → HasSlots t.state t.turns

-- the turn of one process brings each other one that may run nearer to its own
abbrev pub ComesNearer : Type 0
ComesNearer =
    (w t : World) (p q i : ℕ) → Happens w Run (Turn q) t → TakesNearest w Run (Turn q) → w.turns.halted ≡ None → w.turns.current ≡ None
    → HasSlots w.state w.turns → IsRunnable w p → q ≢ p → HasSlot w.turns p i
    → distance t.turns.last i < distance w.turns.last i

abbrev pub IsNear : Type 0
IsNear = (last slot : ℕ) → distance last slot ≤ NPROC - 1

-- While a process that may run waits for its turn, no more turns of others are given than it is slots away
abbrev pub WaitsAtMost : Type 0
WaitsAtMost =
    (w t : World) (es : List (Event × Outcome)) (p i : ℕ) → IsPromised w es t → HasSlots w.state w.turns → IsRunnable w p → w.turns.current ≢ Some p → HasSlot w.turns p i
    → HasNoTurn p es → turns_taken es ≤ distance w.turns.last i

-- So at any time after boot: whoever is ready, or may run, has its turn after at most 63 turns of others
abbrev pub TurnComes : Type 0
TurnComes =
    (frames trace : ℕ) (programs : List ProgramFile) (w m t : World) (es fs : List (Event × Outcome)) (p : ℕ) → first frames trace programs ≡ Ok w → IsPromised w es m → IsPromised m fs t
    → IsReady m p ⊎ IsRunnable m p → m.turns.current ≢ Some p → HasNoTurn p fs → turns_taken fs ≤ NPROC - 1
