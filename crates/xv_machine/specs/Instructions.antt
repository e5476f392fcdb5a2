-- Instructions of the process that runs, without the step behind them.
use Rattle.std.specs.Prelude.{◌≡◌, ◌≢◌, ℕ, zero, suc, ◌<◌, ◌≤◌, ◌++◌, replicate, Some, List}
use Rattle.hart_core.specs.declared.hart.Hart.{Hart}
use Rattle.kernel_spec.specs.views.Processes.{Live}
use Rattle.kernel_spec.specs.views.State.{live}
use Rattle.kernel_spec.specs.steps.Cases.{IsBetweenCalls}
use Rattle.circular_buffer.specs.Buffer.{keep_last}
use Rattle.kernel_spec.specs.steps.Own.{Stepped}
use Rattle.kernel_spec.specs.steps.Step.{own}
use Rattle.kernel_spec.specs.runs.Run.{World, Run, Step_of, Happens}
use Rattle.kcall_core.specs.Makes.{view_now}
use Rattle.kcall_core.specs.Watched.{GoesUnwatched}
use Rattle.kcall_core.specs.declared.kernel.Kernel.{Kernel}
use Rattle.xv_machine.specs.declared.trace.Note.{Note}
use Rattle.xv_machine.specs.Meaning.{Meaning}
use Rattle.xv_machine.specs.Reached.{IsEvent}
use Rattle.xv_machine.specs.Steps.{Did}

-- no done instruction can come of the next Run: whoever runs begins or goes on with a call, or ends; or nobody runs
abbrev pub NextIsOther : Meaning → Type 0
NextIsOther m = (p : ℕ) (w : World) → ¬ Happens m.world Run (Step_of p Stepped) w

-- the process that runs did so many instructions, `most` at most; fewer only where its next step is no done instruction. Only this crate's private functions speak of it
pub record Instructed (k : Kernel) (h : Hart) (most made : ℕ) (k' : Kernel) (h' : Hart) : Type 0 where
  pub did : Did k h made k' h'
  pub within : made ≤ most
  pub stops : made < most → (own (view_now k' h')).answer ≢ Stepped

-- ---- up to what is watched

-- the next step of the process that runs is an instruction that is done, on the pages that are there, and uses nothing that is watched
abbrev pub RunsUnwatched : (addresses bytes : List ℕ) → World → Type 0
RunsUnwatched addresses bytes w = (p : ℕ) × (l : Live) × (w.turns.current ≡ Some p) × (live w.state p ≡ Some l) × IsBetweenCalls l × GoesUnwatched addresses bytes l.regs l.image

-- so many Runs, each of which comes to such an instruction of process p
abbrev pub AreUnwatched : (addresses bytes : List ℕ) → (p made : ℕ) → Meaning → Meaning → Type 0
AreUnwatched addresses bytes p zero old new = new ≡ old
AreUnwatched addresses bytes p (suc n) old new = (mid : Meaning) × AreUnwatched addresses bytes p n old mid × RunsUnwatched addresses bytes mid.world × IsEvent mid Run (Step_of p Stepped) new

-- a machine that keeps so many notes of them
abbrev pub noted : (p made : ℕ) → Meaning → Meaning
noted p made m = record m { notes = keep_last m.room (m.notes ++ replicate made (Note.Stepped p)) }
