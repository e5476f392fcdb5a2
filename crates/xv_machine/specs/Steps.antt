-- Steps of the process that runs, one after another. Only this crate's private functions speak of them.
use Rattle.std.specs.Prelude.{◌≡◌, ◌≢◌, ◌⊎◌, ℕ, ◌<◌, true, List, [], ◌∷◌, ◌++◌, replicate, Option, None, Some, IsSome}
use Rattle.hart_core.specs.declared.hart.Hart.{Hart}
use Rattle.kernel_spec.specs.views.Processes.{Live}
use Rattle.kernel_spec.specs.views.State.{live}
use Rattle.kernel_spec.specs.steps.Own.{Stepped}
use Rattle.kernel_spec.specs.steps.Step.{own}
use Rattle.kernel_spec.specs.runs.Run as runs
use Rattle.kernel_spec.specs.runs.Run.{Step_of}
use Rattle.kernel_spec.specs.waking.Wakes.{IsPromised}
use Rattle.kcall_core.specs.Kernel.{frame_count, state_of, IsRunning, pid_now}
use Rattle.kcall_core.specs.Machine.{world_of}
use Rattle.kcall_core.specs.Whole.{IsWhole}
use Rattle.kcall_core.specs.Makes.{Makes, view_now}
use Rattle.kcall_core.specs.declared.kernel.Kernel.{Kernel}
use Rattle.xv_machine.specs.declared.event.RunOutcome.{RunOutcome}
use Rattle.xv_machine.specs.Drives.{done_by}
use Rattle.xv_machine.specs.Events.{run_outcome_of}

-- its next step is no instruction: it is marked, or in a call
abbrev pub IsBusy : Live → Type 0
IsBusy l = (l.killed ≡ true) ⊎ IsSome l.call

-- the process that runs did so many instructions, one after another, and runs on
pub record Did (k : Kernel) (h : Hart) (made : ℕ) (k' : Kernel) (h' : Hart) : Type 0 where
  pub whole : IsWhole k' h'
  pub running : IsRunning k'
  pub pid : pid_now k' ≡ pid_now k
  -- process 1 lives
  pub first : IsSome (live (state_of k' h') 1)
  pub run : IsPromised (world_of k h None) (replicate made (done_by (pid_now k))) (world_of k' h' None)
  pub frames : frame_count k' ≡ frame_count k

-- behind the instructions all that were asked for are done; or a step was made to which something else came
abbrev pub EndsIn : (k : Kernel) (h : Hart) (most made : ℕ) (end : Option RunOutcome) (k' : Kernel) (h' : Hart) → Type 0
EndsIn k h most made None k' h' = (made ≡ most) × (k' ≡ k) × (h' ≡ h)
EndsIn k h most made (Some o) k' h' =
    (made < most) × Makes k h (own (view_now k h)) k' h' × (run_outcome_of o ≡ Step_of (pid_now k) (own (view_now k h)).answer) × ((p : ℕ) → run_outcome_of o ≢ Step_of p Stepped)

-- steps up to the first that is no done instruction, so many at most
pub record Advanced (k : Kernel) (h : Hart) (most made : ℕ) (end : Option RunOutcome) (k' : Kernel) (h' : Hart) : Type 0 where
  pub kernel : Kernel
  pub hart : Hart
  pub did : Did k h made kernel hart
  pub ends : EndsIn kernel hart most made end k' h'

-- the Runs of such steps of process p, with their outcomes
abbrev pub runs_made : (p made : ℕ) (end : Option RunOutcome) → List (runs.Event × runs.Outcome)
runs_made p made None = replicate made (done_by p)
runs_made p made (Some o) = replicate made (done_by p) ++ (runs.Run, run_outcome_of o) ∷ []

-- all were sent, or the last one is a step, and no done instruction
abbrev pub IsEnd : (most made : ℕ) (end : Option RunOutcome) → Type 0
IsEnd most made None = made ≡ most
IsEnd most made (Some o) = (made < most) × ((p : ℕ) → run_outcome_of o ≢ Step_of p Stepped) × (run_outcome_of o ≢ runs.Idle) × (run_outcome_of o ≢ runs.Halted)
