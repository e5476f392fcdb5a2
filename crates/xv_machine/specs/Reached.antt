-- What stands of a machine over whole runs: from boot, over every list of events.
use Rattle.std.specs.Prelude.{◌≡◌, ◌≢◌, ◌⊎◌, ℕ, ◌-◌, ◌<◌, ◌≤◌, List, [], ◌∷◌, ◌++◌, map, Some, Ok, IsSome}
use Rattle.circular_buffer.specs.Buffer.{keep_last}
use Rattle.xk_base.specs.Chains.{Leads}
use Rattle.xk_base.specs.declared.limits.TheConstants.{NPROC}
use Rattle.kernel_spec.specs.views.State.{ProgramFile}
use Rattle.kernel_spec.specs.views.View.{View, view}
use Rattle.kernel_spec.specs.steps.Step.{own}
use Rattle.kernel_spec.specs.runs.First.{first}
use Rattle.kernel_spec.specs.runs.Run.{World, Event, Run, Outcome, Step_of, StateAfter, TurnsAfter}
use Rattle.kernel_spec.specs.waking.Wakes.{Promised, IsPromised, IsReady, IsRunnable, HasNoTurn, turns_taken}
use Rattle.kernel_spec.specs.runs.Moments.{IsStepOf, Moment, IsCut, AllBoth, IsFromBoot, steps_of}
use Rattle.kernel_spec.specs.views.Shared.{shared}
use Rattle.kernel_spec.specs.runs.Sources.{Holds, Stands, WasPut}
use Rattle.xv_machine.specs.Boots.{Boots, HasEmptyTrace}
use Rattle.xv_machine.specs.Drives.{Goes}
use Rattle.xv_machine.specs.Meaning.{Meaning}
use Rattle.xv_machine.specs.Notes.{note}
use Rattle.xv_machine.specs.Sound.{IsSoundMachine}

-- The machine goes from old to new by this event: this is what `event` promises
pub record IsEvent (old : Meaning) (e : Event) (o : Outcome) (new : Meaning) : Type 0 where
  pub promised : Promised old.world e o new.world
  pub notes : new.notes ≡ keep_last old.room (old.notes ++ note e o ∷ [])
  pub room : new.room ≡ old.room
  pub frames : new.frames.count ≡ old.frames.count
  pub sound : IsSoundMachine new

-- by this event, whatever comes of it
abbrev pub TakesEvent : (old : Meaning) (e : Event) (new : Meaning) → Type 0
TakesEvent old e new = (o : Outcome) × IsEvent old e o new

-- by these, one behind another
abbrev pub AreEvents : Meaning → List (Event × Outcome) → Meaning → Type 0
AreEvents old list new = Leads (λ (m : Meaning) (e : Event × Outcome) (n : Meaning). IsEvent m e.0 e.1 n) old list new

-- The machine m was booted with so many frames, a trace of so many notes and these programs, and has then gone by these events
abbrev pub IsReached : (frames trace : ℕ) → List ProgramFile → List (Event × Outcome) → Meaning → Type 0
IsReached frames trace programs list m =
    (booted : Meaning) × (first frames trace programs ≡ Ok booted.world) × (booted.frames.count ≡ frames) × IsSoundMachine booted × HasEmptyTrace trace booted × Goes booted list m

-- ---- runs

-- Events that are each made by `event` go as a whole, as those that `drive` makes do
abbrev pub EventsGo : Type 0
EventsGo = (old new : Meaning) (list : List (Event × Outcome)) → IsSoundMachine old → AreEvents old list new → Goes old list new

-- What a boot made is reached without an event
abbrev pub BootReaches : Type 0
BootReaches = (frames trace : ℕ) (programs : List ProgramFile) (m : Meaning) → Boots frames (Ok m) (first frames trace programs) → IsSoundMachine m → HasEmptyTrace trace m → IsReached frames trace programs [] m

-- and what a reached machine goes to is reached by all of the events
abbrev pub ReachesOn : Type 0
ReachesOn =
    (frames trace : ℕ) (programs : List ProgramFile) (es fs : List (Event × Outcome)) (m n : Meaning) → IsReached frames trace programs es m → Goes m fs n
    → IsReached frames trace programs (es ++ fs) n

-- The events of a reached machine are a run from the first world, in which each event is as promised
abbrev pub ReachedIsRun : Type 0
ReachedIsRun =
    (frames trace : ℕ) (programs : List ProgramFile) (list : List (Event × Outcome)) (m : Meaning) → IsReached frames trace programs list m
    → IsFromBoot frames trace programs list m.world × ((w : World) × (first frames trace programs ≡ Ok w) × IsPromised w list m.world)

-- ---- what a step is

-- A step of a reached machine answers as `own` of what its process sees, and leaves that to the process, and to all others what they may see of it
abbrev pub StepsAreOwn : Type 0
StepsAreOwn =
    (frames trace : ℕ) (programs : List ProgramFile) (list : List (Event × Outcome)) (m n : Meaning) (p : ℕ) (o : Outcome)
    → IsReached frames trace programs list m → IsStepOf p m.world Run → IsEvent m Run o n
    → (v : View) × (view m.world.state p ≡ Some v) × (o ≡ Step_of p (own v).answer) × StateAfter m.world.state v (own v) n.world.state × TurnsAfter m.world.turns p (own v) n.world.turns

-- what p's steps in the run from m to n gave and showed, in order
abbrev pub HasMoments : ℕ → Meaning → List (Event × Outcome) → Meaning → List Moment → Type 0
HasMoments p m list n moments = IsCut p m.world list n.world moments × (map (λ x. x.outcome) moments ≡ steps_of p list)

-- Two machines, whatever else they hold, in which a process sees the same, go on by any events. Each of the two runs has the process's moments; and where in both it sees the same of what is shared as each of its steps begins, its steps have the same outcomes, and it sees the same before and after each
abbrev pub TwoMachines : Type 0
TwoMachines =
    (frames trace frames_too trace_too : ℕ) (programs programs_too : List ProgramFile) (list list_too es fs : List (Event × Outcome)) (a b c d : Meaning) (p : ℕ)
    → IsReached frames trace programs list a → IsReached frames_too trace_too programs_too list_too b → Goes a es c → Goes b fs d
    → IsSome (view a.world.state p) → view a.world.state p ≡ view b.world.state p
    → ((ms : List Moment) × HasMoments p a es c ms) × ((ns : List Moment) × HasMoments p b fs d ns)
    × ((ms ns : List Moment) → HasMoments p a es c ms → HasMoments p b fs d ns → AllBoth (λ m n. shared m.before ≡ shared n.before) ms ns → AllBoth (λ m n. m ≡ n) ms ns)

-- ---- no byte that another process left

-- Each byte of a live process's memory stood in that of process 1 as the machine was booted, or was put there since by a step of the process's own, or of one from which its memory came by forks
abbrev pub NoByteIsShown : Type 0
NoByteIsShown =
    (frames trace : ℕ) (programs : List ProgramFile) (list : List (Event × Outcome)) (m : Meaning) (p page i byte : ℕ)
    → IsReached frames trace programs list m → i < 4096 → Holds m.world p page i byte
    → (w : World) × (first frames trace programs ≡ Ok w) × (Stands w list m.world 1 p page i byte ⊎ WasPut w list m.world p page i byte)

-- ---- nobody waits for nothing, and nothing is lost

-- A process of a reached machine that is ready, or may run, and doesn't run, has its turn after at most 63 turns of others
abbrev pub TurnsCome : Type 0
TurnsCome =
    (frames trace : ℕ) (programs : List ProgramFile) (es fs : List (Event × Outcome)) (m n : Meaning) (p : ℕ) → IsReached frames trace programs es m → Goes m fs n
    → IsReady m.world p ⊎ IsRunnable m.world p → m.world.turns.current ≢ Some p → HasNoTurn p fs → turns_taken fs ≤ NPROC - 1

-- A reached machine is sound: each of its frames is free or has one owner, nobody sleeps who could go on; and it has the frames that it was booted with
abbrev pub ReachedIsSound : Type 0
ReachedIsSound =
    (frames trace : ℕ) (programs : List ProgramFile) (list : List (Event × Outcome)) (m : Meaning) → IsReached frames trace programs list m
    → IsSoundMachine m × (m.frames.count ≡ frames)
