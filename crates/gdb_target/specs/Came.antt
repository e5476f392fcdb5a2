-- What came of events that a run got.
use Rattle.std.specs.Prelude.{◌≡◌, ℕ, ◌+◌, List, [], ◌∷◌, ◌++◌, length, Option, None, Some}
use Rattle.kernel_spec.specs.runs.Run.{Event, Outcome, Step_of}
use Rattle.kernel_spec.specs.steps.Own.{Stepped}
use Rattle.kernel_spec.specs.views.Words.{or_zero}
use Rattle.xv_machine.specs.Drives.{Goes}
use Rattle.gdb_target.specs.declared.played.Played.{Played}

-- The run got events, one at least, and this came of the last of them
pub record Comes (from to : Played) (o : Outcome) : Type 0 where
  pub before : List (Event × Outcome)
  pub last : Event
  pub goes : Goes from.session.machine (before ++ (last, o) ∷ []) to.session.machine
  pub count : length to.session.events ≡ length from.session.events + length before + 1

-- what came of the last of some Runs: what is told of it, or else an instruction of whoever runs
abbrev pub came : (told : Option Outcome) → (current : Option ℕ) → Outcome
came (Some o) current = o
came None current = Step_of (or_zero current) Stepped
