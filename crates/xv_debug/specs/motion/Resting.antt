-- Where nobody may run, and who waits for the clock then.
use Rattle.std.specs.Prelude.{◌≡◌, ◌≢◌, ◌⊎◌, ℕ, Bool, true, false, [], Option, None, Some, IsSome}
use Rattle.kernel_spec.specs.runs.Run.{World}
use Rattle.kernel_spec.specs.waking.Wakes.{IsRunnable}
use Rattle.xv_session.specs.Resting.{NobodyMayRun}
use Rattle.xv_report.specs.Waits.{wait_of}
use Rattle.xv_report.specs.declared.waits.Wait.{Wait}
use Rattle.xv_report.specs.declared.waits.Wait.TheVariants.{Until}
use Rattle.xv_debug.specs.motion.Plan.{Planned, key_due, later_keys}
use Rattle.xv_debug.specs.declared.motion.clock.Round.{Round}
use Rattle.xv_debug.specs.declared.motion.journey.Stop.{Stop}
use Rattle.xv_debug.specs.declared.motion.journey.Stop.TheVariants.{Asleep, Halted}

-- A process runs; or the machine hasn't halted, and one may have its turn
abbrev pub SomebodyMayGoOn : World → Type 0
SomebodyMayGoOn w = IsSome w.turns.current ⊎ ((w.turns.halted ≡ None) × ((p : ℕ) × IsRunnable w p))

-- Nobody runs, for this reason: process 1 is gone; or it isn't, and all processes sleep
abbrev pub RestsBy : Stop → World → Type 0
RestsBy Halted w = (w.turns.current ≡ None) × IsSome w.turns.halted
RestsBy Asleep w = (w.turns.current ≡ None) × (w.turns.halted ≡ None) × NobodyMayRun w
RestsBy _ w = ⊥

-- A word that stops so leaves such a world; for another reason it may stop at any
abbrev pub RestsIf : Stop → World → Type 0
RestsIf Halted w = RestsBy Halted w
RestsIf Asleep w = RestsBy Asleep w
RestsIf _ w = Unit {0}

-- ---- who waits for the clock

-- it is the clock
abbrev pub is_clock : Option Wait → Bool
is_clock (Some (Until tick)) = true
is_clock _ = false

-- process p sleeps up to a tick
abbrev pub AwaitsTick : World → (p : ℕ) → Type 0
AwaitsTick w p = is_clock (wait_of w p) ≡ true

abbrev pub NobodyAwaitsTick : World → Type 0
NobodyAwaitsTick w = (p : ℕ) → ¬ AwaitsTick w p

-- All processes sleep, and one of them sleeps up to a tick, or a later round has a key
abbrev pub AreAwaitingTicks : Planned → World → Type 0
AreAwaitingTicks plan w = RestsBy Asleep w × (((p : ℕ) × AwaitsTick w p) ⊎ (later_keys plan w ≢ []))

-- no key is due, nor has a later round one
abbrev pub NoKeyIsLeft : Planned → Round → World → Type 0
NoKeyIsLeft plan round w = (key_due plan round w ≡ []) × (later_keys plan w ≡ [])

-- ---- where a way rests

-- The machine has halted, or all processes sleep, none of them up to a tick, and no key is left; and no byte waits in the console
abbrev pub RestsQuiet : Planned → Round → Stop → World → Type 0
RestsQuiet plan round Asleep w = RestsBy Asleep w × (w.state.console.to_send ≡ []) × NobodyAwaitsTick w × NoKeyIsLeft plan round w
RestsQuiet plan round stop w = RestsBy stop w × (w.state.console.to_send ≡ [])
