-- Runs that are sent, and what came of the last.
use Rattle.std.specs.Prelude.{◌≡◌, ℕ, List, replicate, Option, None, Some}
use Rattle.kernel_spec.specs.runs.Run as runs
use Rattle.kernel_spec.specs.runs.Run.{Event, Outcome, Step_of}
use Rattle.kernel_spec.specs.runs.Rounds.{events}
use Rattle.kernel_spec.specs.steps.Own.{Stepped}
use Rattle.xv_machine.specs.Drives.{Goes}
use Rattle.xv_machine.specs.Sound.{IsSoundMachine}
use Rattle.xv_session.specs.Recorded.{Recorded}
use Rattle.xv_debug.specs.motion.Effects.{AddsRuns}
use Rattle.xv_debug.specs.motion.Sent.{last_outcome}

-- So many Runs were sent, and the session keeps them. The machine, which is sound, as that of each session is, went by them, whatever came of each; and this came of the last, as if they had been sent one by one
pub record Ran (sent : ℕ) (last : Option Outcome) (old new : Recorded) : Type 0 where
  pub added : AddsRuns sent old new
  pub list : List (Event × Outcome)
  pub goes : IsSoundMachine old.machine → Goes old.machine list new.machine
  pub those : events list ≡ replicate sent runs.Run
  pub last_is : last ≡ last_outcome list

-- what came of the last of Runs that were sent at once: this, if it is told; else process p did an instruction
abbrev pub last_of : (p : ℕ) → (told : Option Outcome) → Outcome
last_of p (Some o) = o
last_of p None = Step_of p Stepped
