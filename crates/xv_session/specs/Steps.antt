-- How a machine, with the names of its processes' programs, goes on.
use Rattle.std.specs.Prelude.{◌≡◌, ◌≢◌, ◌⊎◌, ℕ, ◌<◌, List, [], ◌∷◌, ◌++◌, replicate, Option, None, Some, ℤ}
use Rattle.kernel_spec.specs.runs.Run as runs
use Rattle.kernel_spec.specs.runs.Run.{Event, Run, Outcome, Step_of}
use Rattle.kernel_spec.specs.runs.Rounds.{events}
use Rattle.kernel_spec.specs.steps.Own.{Stepped}
use Rattle.kernel_spec.specs.views.Words.{or_zero}
use Rattle.xv_machine.specs.Drives.{Goes, done_by}
use Rattle.xv_machine.specs.Reached.{IsEvent}
use Rattle.xv_machine.specs.Sound.{IsSoundMachine}
use Rattle.xv_session.specs.Names.{NamesGo, AreLive, names_after, asked_in}
use Rattle.xv_session.specs.declared.running.Running.{Running}

-- The machine is sound, and the named are live processes of it
pub record IsSound (r : Running) : Type 0 where
  pub machine : IsSoundMachine r.machine
  pub names : AreLive r.machine.world.state r.names

-- The machine goes from old to new by this event, and the names with it
pub record Advances (old : Running) (e : Event) (o : Outcome) (new : Running) : Type 0 where
  pub event : IsEvent old.machine e o new.machine
  pub names : new.names ≡ names_after (asked_in old.machine.world) o old.names

-- Runs that were sent one after another, `most` at most: each is a done instruction of process p; or something else came of the last one; or nobody may run, or the machine is halted, and all of them were sent. `last` is what came of the last one, where that is no done instruction
abbrev pub AreRunsTo : (most p : ℕ) → (last : Option Outcome) → List (Event × Outcome) → Type 0
AreRunsTo most p None list = list ≡ replicate most (done_by p)
AreRunsTo most p (Some o) list =
    ((made : ℕ) × (list ≡ replicate made (done_by p) ++ (Run, o) ∷ []) × (made < most) × (o ≢ Step_of p Stepped) × (o ≢ runs.Idle) × (o ≢ runs.Halted))
    ⊎ ((list ≡ replicate most (Run, o)) × ((o ≡ runs.Idle) ⊎ (o ≡ runs.Halted)))

-- The machine was sent so many Runs, `most` at most, and the names went with it
pub record RunsMade (most sent : ℕ) (last : Option Outcome) (old new : Running) : Type 0 where
  pub list : List (Event × Outcome)
  pub goes : Goes old.machine list new.machine
  pub named : NamesGo old.machine.world list new.machine.world old.names new.names
  pub runs_are : AreRunsTo most (or_zero old.machine.world.turns.current) last list
  pub those : events list ≡ replicate sent Run

-- ---- where nobody runs

-- what comes of a Run by which nobody's turn comes
abbrev pub idle_or_halted : Option ℤ → Outcome
idle_or_halted (Some status) = runs.Halted
idle_or_halted None = runs.Idle

-- what came of the last Run, by what the machine is then
abbrev pub passed : Option ℕ → Option ℤ → Outcome
passed (Some p) halted = runs.Turn p
passed None halted = idle_or_halted halted
