-- No lost wake-up, and turns (the xv6 book, "Sleep and wakeup" and "Code: Scheduling"): what a machine promises of each event beside `Happens`.
use Rattle.std.specs.Prelude.{◌≡◌, ◌≢◌, ℕ, ◌≤◌, ◌⊎◌, ◌↔◌, pos, Bool, true, false, if◌then◌else◌, List, [], ◌∷◌, None, Some, IsSome, ◌+◌}
use Rattle.xk_base.specs.Chains.{Leads}
use Rattle.proc_table.specs.declared.process.Call.{Call}
use Rattle.proc_table.specs.Turns.{distance}
use Rattle.kernel_spec.specs.views.View.{View, view}
use Rattle.kernel_spec.specs.steps.Own.{Answer, gone_with}
use Rattle.kernel_spec.specs.waking.Ready.{ready}
use Rattle.kernel_spec.specs.waking.Turns.{Sleeps, HasSlot}
use Rattle.kernel_spec.specs.views.WellFormed.{AreShown}
use Rattle.kernel_spec.specs.runs.Run.{World, Event, Run, Outcome, Step_of, Turn, Idle, Ticked, Happens}

-- live, and not a sleeper
abbrev pub IsRunnable : World → ℕ → Type 0
IsRunnable w p = IsSome (view w.state p) × ¬ Sleeps w.turns p

-- live, and could go on (`ready`)
abbrev pub IsReady : World → ℕ → Type 0
IsReady w p = (v : View) × (view w.state p ≡ Some v) × (ready v ≡ true)

-- no sleeper could go on
abbrev pub NoReadySleeper : World → Type 0
NoReadySleeper w = (p : ℕ) (v : View) → Sleeps w.turns p → view w.state p ≡ Some v → ready v ≡ false

-- it is in the kernel call of this number
abbrev pub IsInCall : ℕ → View → Type 0
IsInCall n v = (c : Call) × (v.call ≡ Some c) × (c.number ≡ pos n)

-- a process went
abbrev pub IsEnd : Outcome → Type 0
IsEnd o = (p : ℕ) × (answer : Answer) × (o ≡ Step_of p answer) × IsSome (gone_with answer)

-- A sleeper stops being one exactly where it is ready afterwards, or counts ticks (call 13, sleep) and there was one, or is pid 1 in wait (call 3) and a process went
abbrev pub WakesWhereDue : World → Outcome → World → Type 0
WakesWhereDue w o t =
    (p : ℕ) (v : View) → Sleeps w.turns p → view t.state p ≡ Some v
    → (¬ Sleeps t.turns p) ↔ ((ready v ≡ true) ⊎ (IsInCall 13 v × (o ≡ Ticked)) ⊎ ((p ≡ 1) × IsInCall 3 v × IsEnd o))

-- the turn goes to the nearest of those who may run
abbrev pub IsNearest : World → ℕ → Type 0
IsNearest w p = (q i j : ℕ) → IsRunnable w q → HasSlot w.turns p i → HasSlot w.turns q j → distance w.turns.last i ≤ distance w.turns.last j

-- where nothing runs, Run answers `Idle` exactly where no process may run, and else gives the turn to the nearest
abbrev pub TakesNearest : World → Event → Outcome → Type 0
TakesNearest w e o =
    e ≡ Run → w.turns.halted ≡ None → w.turns.current ≡ None
    → ((o ≡ Idle) ↔ ((p : ℕ) → ¬ IsRunnable w p)) × ((p : ℕ) → o ≡ Turn p → IsRunnable w p × IsNearest w p)

-- if views show each descriptor in use, they do so after the event
abbrev pub HidesNothing : World → World → Type 0
HidesNothing w t = AreShown w.state → AreShown t.state

-- All that a machine promises of an event: what happens, who wakes, whose turn it is, and that no descriptor in use is hidden
abbrev pub Promised : World → Event → Outcome → World → Type 0
Promised w e o t = Happens w e o t × WakesWhereDue w o t × TakesNearest w e o × HidesNothing w t

-- the list of events and outcomes leads from w to t, and each of them keeps what is promised
abbrev pub IsPromised : World → List (Event × Outcome) → World → Type 0
IsPromised w es t = Leads (λ (v : World) (e : Event × Outcome) (u : World). Promised v e.0 e.1 u) w es t

-- ---- turns in a run

abbrev pub is_turn : Outcome → Bool
is_turn (Turn p) = true
is_turn _ = false

-- how many turns are given
abbrev pub turns_taken : List (Event × Outcome) → ℕ
turns_taken [] = 0
turns_taken (e ∷ es) = (if is_turn e.1 then 1 else 0) + turns_taken es

-- p has no turn
abbrev pub HasNoTurn : ℕ → List (Event × Outcome) → Type 0
HasNoTurn p [] = Unit {0}
HasNoTurn p (e ∷ es) = (e.1 ≢ Turn p) × HasNoTurn p es
